-- The numbers and lines that are read are those that `text` writes, and no others. Assumes nothing.
use Rattle.std.specs.Prelude.{Some, ◌≡◌, ◌∷◌, ◌++◌, ◌+◌, ◌<◌, ◌≤◌}
use Rattle.laws.specs.Usual.{refl, sym, ap, ap₂, subst, ◌∙◌, List, [], ℕ, suc, arith, length}
use Rattle.std.proofs.Common.{append_assoc, append-nil, lt-ltb, length-drop}
use Rattle.text.specs.Decimal.{decimal_of}
use Rattle.text.specs.Lines.{comma, line_feed, line_of}
use Rattle.text_reading.proofs.MarkLaws.{before_behind, before_front, has_mark, up_to_lem, behind_it, split_mark}
use Rattle.text_reading.specs.Marks.{before, up_to, behind}
use Rattle.text_reading.proofs.Told.{number_unmarked, number_told, told_number}
use Rattle.std.specs.Option.{option_and_then}
use Rattle.settle_input.specs.Input.{from_one, number_in, entry_of, station_in, view_in, first_line}
use Rattle.settle_input.specs.Short.{number_in_lem, formed, short_line}
use Rattle.settle_input.specs.Form.{empty_list, line_with_end, entry_made}

-- octets that are read as a number are that number in decimal
pub text_number : (octets : List ℕ) (n : ℕ) → number_in octets ≡ Some n → decimal_of n ≡ octets
text_number octets n e = number_told 254 n octets (omega arith) (number_in_lem octets n e).0

-- each number of 1 to 254 in decimal is read as that number, and has no comma and no line feed in it
pub number_text : (number : ℕ) → 1 ≤ number → number ≤ 254
    → (number_in (decimal_of number) ≡ Some number) × (before comma (decimal_of number) ≡ length (decimal_of number))
    × (before line_feed (decimal_of number) ≡ length (decimal_of number))
number_text number some low =
    let read = told_number 254 number (omega arith) low in
    (ap (option_and_then from_one) read ∙ rw (lt-ltb 0 number some), number_unmarked 254 number comma (decimal_of number) refl read, number_unmarked 254 number line_feed (decimal_of number) refl read)

-- the line of a station and its view
abbrev pub entry_line : ℕ → ℕ → List ℕ
entry_line station view = decimal_of station ++ comma ∷ (decimal_of view ++ line_feed ∷ [])

-- it is the line that `text` writes
pub written_line : (station view : ℕ) → line_of (decimal_of station) (view ∷ []) ≡ entry_line station view
written_line station view =
    append_assoc (decimal_of station) ((comma ∷ decimal_of view) ++ []) (line_feed ∷ [])
    ∙ ap (λ (l : List ℕ). decimal_of station ++ (l ++ (line_feed ∷ []))) (append-nil (comma ∷ decimal_of view))

-- such a line is read as its station and view
pub line_read : (station view : ℕ) → 1 ≤ station → station ≤ 254 → 1 ≤ view → view ≤ 254
    → entry_of (entry_line station view) ≡ Some (record { station = station; view = view })
line_read station view a b c d =
    let (station_is, no_comma, _) = number_text station a b in
    let (view_is, _, no_feed) = number_text view c d in
    let rest = decimal_of view ++ line_feed ∷ [] in
    let line = entry_line station view in
    let after : behind comma line ≡ rest = behind_it comma (decimal_of station) rest no_comma in
    let ended = subst (λ (l : List ℕ). before line_feed l < length l) (sym after) (has_mark line_feed (decimal_of view) [] no_feed) in
    let s : number_in (up_to comma line) ≡ Some station = ap number_in (up_to_lem comma (decimal_of station) rest no_comma) ∙ station_is in
    let v : number_in (up_to line_feed (behind comma line)) ≡ Some view =
    ap (λ (l : List ℕ). number_in (up_to line_feed l)) after ∙ ap number_in (up_to_lem line_feed (decimal_of view) [] no_feed) ∙ view_is in
    sym (entry_made line (has_mark comma (decimal_of station) rest no_comma) ended) ∙ rw (s, v)

-- and a first line that is read as a station and a view is that line
pub read_line : (octets : List ℕ) → ¬ (station_in (first_line octets) ≡ 0)
    → first_line octets ≡ entry_line (station_in (first_line octets)) (view_in (first_line octets))
read_line octets n =
    let line = first_line octets in
    let rest = behind comma line in
    let f = formed line n in
    let (inside, _) = short_line octets n in
    let long = line_with_end octets inside in
    let same = before_front line_feed (suc (before line_feed octets)) octets (omega arith) in
    let far = before_behind line_feed (before comma line + 1) line in
    let end : length (behind line_feed rest) ≤ 0 =
    omega (arith, f.end_in, f.comma_in, length-drop (before comma line + 1) line, length-drop (before line_feed rest + 1) rest) in
    split_mark comma line f.comma_in
    ∙ ap (λ (l : List ℕ). up_to comma line ++ comma ∷ l) (split_mark line_feed rest f.end_in ∙ ap (λ (l : List ℕ). up_to line_feed rest ++ line_feed ∷ l) (empty_list (behind line_feed rest) end))
    ∙ ap₂ (λ (s v : List ℕ). s ++ comma ∷ (v ++ line_feed ∷ []))
    (sym (text_number (up_to comma line) _ f.station_is))
    (sym (text_number (up_to line_feed rest) _ f.view_is))
