-- A line that comes octet by octet, into a buffer of limited length.
use Rattle.std.specs.Prelude.{◌&&◌, ◌+◌, ◌-◌, ◌/◌}
use Rattle.laws.specs.Usual.{true, false, cond, not, List, ℕ, set, leb, ltb}
use Rattle.text_hexadecimal.specs.Octets.{is_hexadecimal}
use Rattle.text_scanning.specs.Scanning.{push_all, store_all, scan_of, buffer_of}
use Rattle.replay_input.specs.declared.Line.{Line}
use Rattle.text_scanning.specs.declared.Scanned.{Scanned}
use Rattle.text_scanning.specs.Made.{made}

-- as many octets as the longest command that is not a `hear` has, a poke of the whole memory: `poke 0 ` and 34,816 digits
abbrev pub longest : ℕ
longest = 34823

-- a line of which nothing has come
abbrev pub fresh : Line
fresh = record { count = 0; digits = true; odd = false }

-- one octet more; the count stops one above the longest
abbrev pub count_after : ℕ → ℕ
count_after count = cond (leb count longest) (count + 1) count

-- what has come after one more octet: the five octets that a word of four letters and its space are, and then digits
abbrev pub pushed : Line → ℕ → Line
pushed line octet =
    cond (ltb line.count 5)
    (record { count = line.count + 1; digits = line.digits; odd = line.odd })
    (record { count = count_after line.count; digits = line.digits && is_hexadecimal octet; odd = not line.odd })

-- the octets of a text from place `at` on, up to its next line feed or its end: what has come then, the place behind, and whether the line
-- has ended
abbrev pub scanned : Line → ℕ → List ℕ → Scanned Line
scanned line at text = scan_of pushed made line at text

-- and the buffer then: each octet is stored behind those before it, where there is room
abbrev pub stored : Line → List ℕ → ℕ → List ℕ
stored line buffer octet = set buffer line.count octet

abbrev pub buffer_scanned : Line → List ℕ → List ℕ → List ℕ
buffer_scanned line buffer text = buffer_of pushed stored line buffer text

-- how many octets the digits from place 5 on spell
abbrev pub size_in : Line → ℕ
size_in line = cond (line.digits && not line.odd) ((line.count - 5) / 2) 0

-- all octets of a line, one by one, and the buffer then
abbrev pub pushed_all : Line → List ℕ → Line
pushed_all line octets = push_all pushed line octets

abbrev pub buffer_all : Line → List ℕ → List ℕ → List ℕ
buffer_all line buffer octets = store_all pushed stored line buffer octets
