-- A participant that holds and sends a block, on its core; and that it is asked as its station is.
-- A core's phase is a number, and 4 is that of participating, by which the proofs here go.
use Rattle.std.specs.Prelude.{Ok, ◌≡◌, ◌&&◌, ◌+◌}
use Rattle.laws.specs.Usual.{Bool, true, cond, List, ℕ, drop, eqb}
use Rattle.station.specs.Rules.Asking.{placed_in, last_in, next_fields, turn_for}
use Rattle.block.specs.Blocks.{start_of}
use Rattle.laws.specs.Tests.{first, second}
use Rattle.members.specs.Members.{next_after}
use Rattle.panel.specs.Panel.{after_taking}
use Rattle.station.specs.Rules.Answers.{phase_number}
use Rattle.station.specs.Rules.State.{no_ticks}
use Rattle.station.specs.Types.{Members}
use Rattle.station.specs.declared.Phase.TheVariants.{Participating}
use Rattle.frame_writing.specs.Writing.{whole_length, output_of}
use Rattle.boundary_core.specs.Crossing.{station_of, is_in, in_phase}
use Rattle.boundary_core.specs.declared.Core.{Core}
use Rattle.station.specs.Rules.Asking as asks

-- a participant that holds, with a block of its turn to send
abbrev pub holds_block : Core → Bool
holds_block core = is_in Participating core && (eqb core.view core.own.number && placed_in core.own.areas core.block)

pub held_placed : (core : Core) → holds_block core ≡ true → placed_in core.own.areas core.block ≡ true
held_placed core e =
    let held = eqb core.view core.own.number in
    let placed = placed_in core.own.areas core.block in
    second held placed (second (eqb (phase_number core.phase) 4) (held && placed) e)

-- it after the block is sent, with the number that is next after ours
abbrev pub sent_core : Core → ℕ → Core
sent_core core next = record {
  phase = Participating;
  own = core.own;
  elapsed = no_ticks;
  waited = core.waited;
  rounds = core.rounds;
  sent = core.sent;
  view = cond (last_in core.own.areas core.block) next core.view;
  block = cond (last_in core.own.areas core.block) 0 (core.block + 1);
  gathering = core.gathering;
  panel = cond (last_in core.own.areas core.block && eqb next core.own.number) (after_taking core.panel) core.panel;
}

-- a participant that holds is asked as the rules say
pub held_asked : (core : Core) (members : Members) (memory turn output : List ℕ) → holds_block core ≡ true → asks.lent_right memory turn output ≡ true
    → asks.ask_of (station_of core members) memory turn output
    ≡ record {
      station = station_of (sent_core core (next_after core.own.number members core.own.number)) members;
      answer = Ok (whole_length (next_fields core.own core.block (next_after core.own.number members core.own.number)));
      turn = turn_for core.own.areas core.block memory turn;
      output =
          output_of (next_fields core.own core.block (next_after core.own.number members core.own.number))
          (drop (start_of (core.block + 1)) (turn_for core.own.areas core.block memory turn))
          output;
    }
held_asked core members memory turn output holds lent =
    let four = in_phase Participating core (first (eqb (phase_number core.phase) 4) (eqb core.view core.own.number && placed_in core.own.areas core.block) holds) in
    let due = second (eqb (phase_number core.phase) 4) (eqb core.view core.own.number && placed_in core.own.areas core.block) holds in
    rw (lent, four, due)
