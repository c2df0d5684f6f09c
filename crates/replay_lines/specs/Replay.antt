-- The program `replay`: commands come octet by octet, and each line is answered by one line.
use Rattle.std.specs.Prelude.{◌≡◌, ◌++◌}
use Rattle.laws.specs.Usual.{List, ℕ, set, replicate}
use Rattle.replay_commands.specs.Commands.{command_in}
use Rattle.text_feeding.specs.Feeding.{Program, fed_all, answered_all}
use Rattle.replay_input.specs.Gathering.{fresh, pushed}
use Rattle.replay_input.specs.declared.Line.{Line}
use Rattle.replay_end.specs.End.{answer_to_rest}
use Rattle.replay_lines.specs.declared.Carried.{Carried}
use Rattle.replay_performing.specs.Replaying.{keeping, Performed, performed}
use Rattle.replay_performing.specs.declared.Kept.{Kept}
use Rattle.station.specs.Rules.State.{never}
use Rattle.station.specs.declared.Station.{Station}

-- what is carried from octet to octet, from its parts: what is kept between commands, the line so far, and what is stored of it
abbrev pub carried : Kept → Line → List ℕ → Carried
carried kept line stored = record { kept = kept; line = line; stored = stored }

-- a line that has come whole: the command that it means is performed, with what is stored of it
unfoldable pub line_done : Carried → Performed
line_done before = performed (command_in before.line before.stored) before.stored before.kept

-- each octet is stored as one more of the line; behind a line feed the next line begins
abbrev pub replay : Program Carried
replay = record {
  pushed = λ before octet. carried before.kept (pushed before.line octet) (set before.stored before.line.count octet);
  ended = λ before. carried (line_done before).kept fresh before.stored;
  answer = λ before. (line_done before).line;
}

-- what is carried after some octets, and all that is answered to them
abbrev pub after : Carried → List ℕ → Carried
after before octets = fed_all replay before octets

abbrev pub answers : Carried → List ℕ → List ℕ
answers before octets = answered_all replay before octets

-- the station, its line, what is stored of the line, the common memory, the assembly, the turn and the frame, as the program holds them
abbrev pub held : Station → Line → List ℕ → List ℕ → List ℕ → List ℕ → List ℕ → Carried
held station line stored memory assembly turn frame = carried (keeping station memory assembly turn frame) line stored

-- a text that answers some octets that come to a station behind a line so far. What stood in the buffers before them is not at hand when the
-- text is written.
pub record Answering (station : Station) (line : Line) (octets text : List ℕ) : Type 0 where
  pub stored : List ℕ
  pub memory : List ℕ
  pub assembly : List ℕ
  pub turn : List ℕ
  pub frame : List ℕ
  pub answered : text ≡ answers (held station line stored memory assembly turn frame) octets

-- before the first octet: a station that was never started, and buffers of zeros
abbrev pub start : Carried
start =
    held never fresh (replicate 34823 0) (replicate 17408 0) (replicate 17408 0) (replicate 17408 0)
    (replicate 1088 0)

-- all that is printed for an input
abbrev pub output_of : List ℕ → List ℕ
output_of input = answers start input ++ answer_to_rest (after start input).line
