-- A line that comes octet by octet, into a buffer of limited length.
use Rattle.std.specs.Prelude.{Option, Some, None, ◌+◌, ◌*◌, ◌%◌}
use Rattle.laws.specs.Usual.{Bool, true, cond, List, ℕ, take, set, ltb}
use Rattle.frame_reading.specs.Reading.{read_of}
use Rattle.text_hexadecimal.specs.Hexadecimal.{digit_of}
use Rattle.text_scanning.specs.Scanning.{scan_of, buffer_of}
use Rattle.decode_line.specs.declared.Answer.{Answer}
use Rattle.decode_line.specs.declared.Gathered.{Gathered}
use Rattle.decode_line.specs.declared.Pending.{Pending}
use Rattle.decode_line.specs.declared.Pending.TheVariants.{Nothing, Half, Bad}
use Rattle.text_scanning.specs.declared.Scanned.{Scanned}
use Rattle.text_scanning.specs.Made.{made}
use Rattle.decode_line.specs.declared.Answer.TheVariants as answers

-- a line of which nothing has come
abbrev pub fresh : Gathered
fresh = record { count = 0; pending = Nothing }

-- two digits as an octet; of numbers that are no digits, what they leave when divided by 16
abbrev pub octet_of : ℕ → ℕ → ℕ
octet_of high low = high % 16 * 16 + low % 16

-- the number of octets stored after one more, in a buffer of so many; a full buffer takes no more
abbrev pub count_after : ℕ → ℕ → ℕ
count_after room count = cond (ltb count room) (count + 1) count

-- what has come after one more digit
abbrev pub placed : ℕ → ℕ → ℕ → Pending → Gathered
placed room count digit Nothing = record { count = count; pending = Half digit }
placed room count digit (Half high) = record { count = count_after room count; pending = Nothing }
placed room count digit Bad = record { count = count; pending = Bad }

-- the buffer after one more digit
abbrev pub stored : ℕ → ℕ → List ℕ → Pending → List ℕ
stored count digit buffer Nothing = buffer
stored count digit buffer (Half high) = set buffer count (octet_of high digit)
stored count digit buffer Bad = buffer

-- what has come after one more octet of the line, and the buffer then
abbrev pub pushed_by : ℕ → Gathered → Option ℕ → Gathered
pushed_by room gathered (Some digit) = placed room gathered.count digit gathered.pending
pushed_by room gathered None = record { count = gathered.count; pending = Bad }

abbrev pub buffer_by : Gathered → List ℕ → Option ℕ → List ℕ
buffer_by gathered buffer (Some digit) = stored gathered.count digit buffer gathered.pending
buffer_by gathered buffer None = buffer

abbrev pub pushed : ℕ → Gathered → ℕ → Gathered
pushed room gathered octet = pushed_by room gathered (digit_of octet)

abbrev pub buffer_after : Gathered → List ℕ → ℕ → List ℕ
buffer_after gathered buffer octet = buffer_by gathered buffer (digit_of octet)

-- the answer to a line that has come whole: what was stored, read as a frame
abbrev pub answer_by : ℕ → List ℕ → Pending → Answer
answer_by count buffer Nothing = answers.Heard (read_of (take count buffer))
answer_by count buffer (Half digit) = answers.Bad
answer_by count buffer Bad = answers.Bad

abbrev pub answered : Gathered → List ℕ → Answer
answered gathered buffer = answer_by gathered.count buffer gathered.pending

-- whether any octet of the line has come
abbrev pub begun_by : ℕ → Pending → Bool
begun_by count Nothing = ltb 0 count
begun_by count (Half digit) = true
begun_by count Bad = true

abbrev pub begun : Gathered → Bool
begun gathered = begun_by gathered.count gathered.pending

-- the octets of a text from place `at` on, up to its next line feed or its end: what has come then, the place behind, and whether the line
-- has ended
abbrev pub scanned : ℕ → Gathered → ℕ → List ℕ → Scanned Gathered
scanned room gathered at text = scan_of (pushed room) made gathered at text

-- and the buffer then
abbrev pub buffer_scanned : ℕ → Gathered → List ℕ → List ℕ → List ℕ
buffer_scanned room gathered buffer text = buffer_of (pushed room) buffer_after gathered buffer text
