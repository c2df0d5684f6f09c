-- The program `decode`: a capture comes octet by octet, and each line is answered by one line.
use Rattle.std.specs.Prelude.{◌≡◌, ◌++◌}
use Rattle.laws.specs.Usual.{cond, List, [], ℕ, length, replicate}
use Rattle.decode_answers.specs.Answers.{text_of}
use Rattle.decode_line.specs.Gathering.{fresh, pushed, buffer_after, answered, begun}
use Rattle.decode_line.specs.declared.Answer.TheVariants.{Bad}
use Rattle.decode_line.specs.declared.Gathered.{Gathered}
use Rattle.text_feeding.specs.Feeding.{Program, fed_all, answered_all}

-- what is carried from octet to octet: the line so far, and the buffer in which its octets are stored
pub record Carried : Type 0 where
  pub line : Gathered
  pub frame : List ℕ

abbrev pub carried : Gathered → List ℕ → Carried
carried line frame = record { line = line; frame = frame }

-- the line that is answered to one that has come whole
abbrev pub answer_to : Gathered → List ℕ → List ℕ
answer_to line frame = text_of (answered line frame)

-- with a buffer of so many octets: each octet is one more of the line, and behind a line feed the next line begins
abbrev pub decode : ℕ → Program Carried
decode room = record {
  pushed = λ before octet. carried (pushed room before.line octet) (buffer_after before.line before.frame octet);
  ended = λ before. carried fresh before.frame;
  answer = λ before. answer_to before.line before.frame;
}

-- what is carried after some octets, by the line and the buffer before them, and all that is answered to them
abbrev pub after : Gathered → List ℕ → List ℕ → Carried
after line frame octets = fed_all (decode (length frame)) (carried line frame) octets

abbrev pub answers : Gathered → List ℕ → List ℕ → List ℕ
answers line frame octets = answered_all (decode (length frame)) (carried line frame) octets

-- a text that answers some octets behind a line so far. What stood in the buffer before them is not at hand when the text is written.
abbrev pub Answering : Gathered → List ℕ → List ℕ → Type 0
Answering line octets text = (frame : List ℕ) × (text ≡ answers line frame octets)

-- what is answered to a line without its line feed, at the end of the input
abbrev pub answer_to_rest : Gathered → List ℕ
answer_to_rest line = cond (begun line) (text_of Bad) []

-- all that is printed for an input, with a buffer of 1121 octets: "the longest frame" has 1120, and one octet more tells a longer one from it
abbrev pub output_of : List ℕ → List ℕ
output_of input = answers fresh (replicate 1121 0) input ++ answer_to_rest (after fresh (replicate 1121 0) input).line
