-- Reading the input of `settle`. Words in quotes are paper 01's, section "settle".
use Rattle.std.specs.Prelude.{◌∷◌, Option, None, Some, Result, Ok, Err}
use Rattle.std.specs.Option.{option_and_then}
use Rattle.laws.specs.Usual.{cond, List, [], map, ℕ, suc, length, take, set, replicate, eqb, ltb}
use Rattle.text.specs.Lines.{comma, line_feed}
use Rattle.text_reading.specs.Marks.{before, up_to, behind, has}
use Rattle.text_reading.specs.Parts.{in_front}
use Rattle.text_reading.specs.Values.{decimal_in}
use Rattle.settle_views.specs.Views.{member}
use Rattle.settle_views.specs.declared.Ring.{Ring}
use Rattle.settle_input.specs.declared.Entry.{Entry}
use Rattle.settle_input.specs.declared.BadLine.{BadLine}

-- "lines .., each ending in a line feed": the input's lines, each with its line feed. What stands behind the last line feed is one
-- more line, without a line feed.
unfoldable pub lines_of : List ℕ → List (List ℕ)
lines_of [] = []
lines_of (octet ∷ octets) = cond (eqb octet line_feed) ((octet ∷ []) ∷ lines_of octets) (in_front octet (lines_of octets))

-- "two numbers of 1 to 254", "no leading zeros": the number that the octets are, where they are such a number
abbrev pub from_one : ℕ → Option ℕ
from_one number = cond (ltb 0 number) (Some number) None

abbrev pub number_in : List ℕ → Option ℕ
number_in octets = option_and_then from_one (decimal_in 254 octets)

-- the place of the first mark
abbrev pub place_in : ℕ → List ℕ → Option ℕ
place_in mark octets = cond (has mark octets) (Some (before mark octets)) None

abbrev pub entry_with : Option ℕ → Option ℕ → Option Entry
entry_with (Some station) (Some view) = Some (record { station = station; view = view })
entry_with (Some station) None = None
entry_with None view = None

-- "`station,view` lines": a number, a comma, a number, the line feed; no entry where a line has another form
unfoldable pub entry_of : List ℕ → Option Entry
entry_of line =
    cond (has comma line)
    (cond (has line_feed (behind comma line))
    (entry_with (number_in (up_to comma line)) (number_in (up_to line_feed (behind comma line))))
    None)
    None

-- the station of a line and its view, 0 where it has no entry
abbrev pub station_at : Option Entry → ℕ
station_at (Some entry) = entry.station
station_at None = 0

abbrev pub view_at : Option Entry → ℕ
view_at (Some entry) = entry.view
view_at None = 0

abbrev pub station_in : List ℕ → ℕ
station_in line = station_at (entry_of line)

abbrev pub view_in : List ℕ → ℕ
view_in line = view_at (entry_of line)

abbrev pub bad : ℕ → Result Ring BadLine
bad number = Err (record { 0 = number })

-- "all line forms (two numbers of 1 to 254, the line feed, stations ascending)": the number of the first line of bad form, counted on from
-- `number`, where the stations so far are at most `below`; or no such line, and the ring of the views so far with those of all lines
unfoldable pub forms_from : ℕ → ℕ → List ℕ → List (List ℕ) → Result Ring BadLine
forms_from number below views [] = Ok (record { views = views })
forms_from number below views (line ∷ lines) =
    cond (ltb below (station_in line))
    (forms_from (suc number) (station_in line) (set views (station_in line) (view_in line)) lines)
    (bad number)

abbrev pub forms_of : List ℕ → Result Ring BadLine
forms_of octets = forms_from 1 0 (replicate 256 0) (lines_of octets)

-- "then that each view is listed": the number of the first line, counted on from `number`, whose view is none of the stations
abbrev pub unlisted_from : List ℕ → ℕ → List (List ℕ) → Option ℕ
unlisted_from stations number [] = None
unlisted_from stations number (line ∷ lines) = cond (member (view_in line) stations) (unlisted_from stations (suc number) lines) (Some number)

abbrev pub unlisted_of : List ℕ → Option ℕ
unlisted_of octets = unlisted_from (map station_in (lines_of octets)) 1 (lines_of octets)

-- a ring whose first line with an unlisted view is this one
abbrev pub listed_or_bad : Option ℕ → Ring → Result Ring BadLine
listed_or_bad None ring = Ok ring
listed_or_bad (Some number) ring = bad number

abbrev pub listed_in : Option ℕ → Result Ring BadLine → Result Ring BadLine
listed_in line (Ok ring) = listed_or_bad line ring
listed_in line (Err number) = Err number

-- "`bad,0` for none"; "all line forms .. are tested first, then that each view is listed; the first line that fails is named"
abbrev pub read_of : List ℕ → Result Ring BadLine
read_of octets = cond (eqb (length octets) 0) (bad 0) (listed_in (unlisted_of octets) (forms_of octets))

-- the first line of octets, with its line feed
abbrev pub first_line : List ℕ → List ℕ
first_line octets = take (suc (before line_feed octets)) octets
