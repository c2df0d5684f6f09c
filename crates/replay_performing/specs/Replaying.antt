-- What each command does to a station and its buffers, and the line that is answered.
use Rattle.std.specs.Prelude.{◌-◌, ◌*◌}
use Rattle.laws.specs.Usual.{List, ℕ, length, take, drop}
use Rattle.text_hexadecimal.specs.Octets.{octets_of}
use Rattle.replay_commands.specs.declared.Command.{Command}
use Rattle.replay_commands.specs.declared.Command.TheVariants.{Start, Stop, Tick, Hear, Ask, Panel, Poke, Peek, State, Bad}
use Rattle.copying.specs.Pasted.{pasted}
use Rattle.replay_performing.specs.declared.Kept.{Kept}
use Rattle.ticking_quiet.specs.Many.{ticks_of}
use Rattle.replay_replies.specs.Replies.{switched_text, heard_text}
use Rattle.replay_reply_asked.specs.Asked.{asked_text}
use Rattle.replay_reply_shown.specs.Shown.{panel_text, octets_text}
use Rattle.replay_reply_state.specs.State.{state_text}
use Rattle.replay_reply_words.specs.Answers.{done_text, bad_text, ticked_text}
use Rattle.station.specs.Rules.Asking.{Asking, ask_of}
use Rattle.station.specs.Rules.Hearing.{Hearing, hear_of}
use Rattle.station.specs.Rules.Showing.{figure_shown}
use Rattle.station.specs.Rules.Starting.{Switching, start_of, stop_of}
use Rattle.station.specs.Rules.Ticking.{Ticking}
use Rattle.station.specs.declared.Station.{Station}

-- what is kept between commands, from its parts: the station and its buffers
abbrev pub keeping : Station → List ℕ → List ℕ → List ℕ → List ℕ → Kept
keeping station memory assembly turn frame = record {
  station = station;
  memory = memory;
  assembly = assembly;
  turn = turn;
  frame = frame;
}

-- a command: what is kept after it, and the line that is answered
pub record Performed : Type 0 where
  pub kept : Kept
  pub line : List ℕ

-- the same buffers with a station
abbrev pub with : Kept → Station → Kept
with kept station = keeping station kept.memory kept.assembly kept.turn kept.frame

-- `start` and `stop`
abbrev pub switched : Kept → Switching → Performed
switched kept done = record { kept = with kept done.station; line = switched_text done.answer }

-- `tick K`
abbrev pub ticked : Kept → Ticking → Performed
ticked kept done = record { kept = with kept done.station; line = ticked_text done.answer }

-- `hear`
abbrev pub heard : Kept → Hearing → Performed
heard kept done = record {
  kept = keeping done.station done.memory done.assembly kept.turn kept.frame;
  line = heard_text done.answer;
}

-- `ask`: the frame that is printed is what was written
abbrev pub asked : Kept → Asking → Performed
asked kept done = record {
  kept = keeping done.station kept.memory kept.assembly done.turn done.output;
  line = asked_text done.answer done.output;
}

-- `poke`: the common memory with these octets in the place of those from `at` on, as many as there is room for
abbrev pub poked_by : List ℕ → ℕ → List ℕ → List ℕ
poked_by memory at octets = pasted memory at (take (length memory - at) octets)

abbrev pub poked : Kept → ℕ → List ℕ → Performed
poked kept at octets = record {
  kept = keeping kept.station (poked_by kept.memory at octets) kept.assembly kept.turn kept.frame;
  line = done_text;
}

-- a command that only looks
abbrev pub shown : Kept → List ℕ → Performed
shown kept line = record { kept = kept; line = line }

-- the digits of a line from a place on, two for each octet
abbrev pub digits_in : List ℕ → ℕ → ℕ → List ℕ
digits_in line at count = take (2 * count) (drop at line)

-- a command, with the line in which its digits stand
abbrev pub performed : Command → List ℕ → Kept → Performed
performed (Start own) line kept = switched kept (start_of kept.station own)
performed Stop line kept = switched kept (stop_of kept.station)
performed (Tick count) line kept = ticked kept (ticks_of count kept.station)
performed (Hear octets) line kept =
    heard kept (hear_of kept.station (octets_of (digits_in line octets.digits octets.count)) kept.memory kept.assembly)
performed Ask line kept = asked kept (ask_of kept.station kept.memory kept.turn kept.frame)
performed Panel line kept = shown kept (panel_text (figure_shown kept.station))
performed (Poke octets) line kept = poked kept octets.at (octets_of (digits_in line octets.digits octets.count))
performed (Peek octets) line kept = shown kept (octets_text (take octets.length (drop octets.at kept.memory)))
performed State line kept = shown kept (state_text kept.station)
-- "A line that is not a command is answered `bad` and does nothing."
performed Bad line kept = shown kept bad_text
