-- The answer to a whole line.
use Rattle.laws.specs.Usual.{List, ℕ}
use Rattle.frame_reading.specs.Reading.{read_of}
use Rattle.decode_line.specs.Gathering.{pushed, buffer_after}
use Rattle.text_hexadecimal.specs.Hexadecimal.{Spelled, octets, neither, spelled}
use Rattle.text_scanning.specs.Scanning.{push_all, store_all}
use Rattle.decode_line.specs.declared.Answer.{Answer}
use Rattle.decode_line.specs.declared.Answer.TheVariants.{Heard, Bad}
use Rattle.decode_line.specs.declared.Gathered.{Gathered}

abbrev pub answer_for : Spelled → Answer
answer_for (octets frame) = Heard (read_of frame)
answer_for neither = Bad

-- a line, without its line feed: the frame that it spells is read; "`bad` for a line that is not an even number of hexadecimal digits"
abbrev pub line_answer : List ℕ → Answer
line_answer line = answer_for (spelled line)

-- all octets of a line, one by one, into a buffer of so many octets
abbrev pub pushed_all : ℕ → Gathered → List ℕ → Gathered
pushed_all room gathered line = push_all (pushed room) gathered line

abbrev pub buffer_all : ℕ → Gathered → List ℕ → List ℕ → List ℕ
buffer_all room gathered buffer line = store_all (pushed room) buffer_after gathered buffer line
