-- When a message goes: the rule of the cycle, told in other words than it is defined in, and at its edges; at most one in a turn, before its blocks, and none
-- before a cycle is measured. Assumes nothing.
use Rattle.std.specs.Prelude.{◌≡◌, ◌&&◌, ◌*◌, ◌<◌, ◌≤◌}
use Rattle.laws.specs.Usual.{refl, Bool, true, false, not, ℕ, arith, eqb}
use Rattle.std.proofs.Math.Bool.{and-false}
use Rattle.std.proofs.Common.{le-leb, lt-ltb, le-ltb}
use Rattle.std.proofs.lemmas.Bool.{lt-leb}
use Rattle.message_rules.specs.Rules.Again.{turned, gone}
use Rattle.message_rules.specs.Rules.Cycle.{cycle_lets, is_before_blocks, goes}
use Rattle.message_rules.specs.Rules.State.{Messages}
use Rattle.station.specs.Rules.Asking.{due_in}
use Rattle.station.specs.Rules.State.{is_participating}
use Rattle.station.specs.declared.Station.{Station}

-- "With the cycle .. at most nine tenths of the allowed one .., a message goes", unless both are 0;
pub at_most_nine_tenths : (cycle allowed : ℕ) (went_last : Bool) → 10 * cycle ≤ 9 * allowed → 0 < allowed → cycle_lets cycle allowed went_last ≡ true
at_most_nine_tenths cycle allowed went_last few some = rw (lt-ltb cycle allowed (omega arith), le-leb (10 * cycle) (9 * allowed) few)

-- "above that and below the allowed one, it goes only if none went last turn";
pub between : (cycle allowed : ℕ) (went_last : Bool) → 9 * allowed < 10 * cycle → cycle < allowed → cycle_lets cycle allowed went_last ≡ not went_last
between cycle allowed went_last many below = rw (lt-ltb cycle allowed below, lt-leb (10 * cycle) (9 * allowed) many)

-- "at or above the allowed one, none goes, also where both are 0".
pub at_or_above : (cycle allowed : ℕ) (went_last : Bool) → allowed ≤ cycle → cycle_lets cycle allowed went_last ≡ false
at_or_above cycle allowed went_last over = rw (le-ltb cycle allowed over)

module _ (station : Station) (messages : Messages) where
  -- "No message goes before a cycle is measured": while the panel shows `--`,
  pub unmeasured : station.panel.takings < 2 → goes station messages ≡ false
  unmeasured few = rw (lt-leb 2 station.panel.takings few, and-false (is_before_blocks station messages))

  -- "before the cyclic blocks",
  pub before_the_blocks : eqb station.block 0 ≡ false → goes station messages ≡ false
  before_the_blocks sent = rw (sent, and-false (is_participating station.phase && due_in station.phase station))

  -- "at most one message .. of a turn".
  pub one_in_a_turn : goes station (gone messages) ≡ false
  one_in_a_turn = rw (and-false (eqb station.block 0), and-false (is_participating station.phase && due_in station.phase station))

  -- A message that has gone counts for this turn until a taking, which makes this turn the last.
  turn_counted : ((gone messages).went_now ≡ true) × ((turned true (gone messages)).went_last ≡ true) × ((turned true (gone messages)).went_now ≡ false)
  turn_counted = (refl, refl, refl)
