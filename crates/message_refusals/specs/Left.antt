-- What a refused call of a station with messages leaves: "a numbered refusal changes no buffer, and no station state except in the one case that
-- the table names". Assumes nothing.
use Rattle.std.specs.Prelude.{◌≡◌}
use Rattle.laws.specs.Usual.{false}
use Rattle.frame.specs.declared.Refusal.{Refusal}
use Rattle.message_rules.specs.Rules.Calls.{Both, Call, lent, lent_after, after}
use Rattle.message_rules.specs.Rules.State.{no_messages}
use Rattle.station.specs.Rules.State.{is_participating, stopped}
use Rattle.frame.specs.declared.Refusal.TheVariants as refusals

-- what stop leaves of both parts
abbrev pub both_stopped : Both → Both
both_stopped both = record { ring = stopped both.ring; messages = no_messages }

-- nothing is altered, or number 6 came before we participate and left just what stop leaves
pub data SparedBoth (before left : Both) (refusal : Refusal) : Type 0 where
  same : left ≡ before → SparedBoth before left refusal
  turned_off : refusal ≡ refusals.Taken → is_participating before.ring.phase ≡ false → left ≡ both_stopped before → SparedBoth before left refusal

-- what a refused call leaves
pub record LeftBoth (both : Both) (call : Call) (refusal : Refusal) : Type 0 where
  pub state : SparedBoth both (after both call) refusal
  pub buffers : lent_after both call ≡ lent call
