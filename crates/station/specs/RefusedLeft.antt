-- Demand 1: "a numbered refusal changes no buffer, and no station state except in the one case that the table names". Assumes nothing.
use Rattle.std.specs.Prelude.{◌≡◌}
use Rattle.laws.specs.Usual.{[], false}
use Rattle.station.specs.Rules.Calls.{Call, lent, lent_after, after}
use Rattle.station.specs.Rules.State.{is_participating, stopped}
use Rattle.station.specs.Types.{Refusal, Station}
use Rattle.frame.specs.declared.Refusal.TheVariants as refusals

-- nothing is altered, or number 6 came before we participate and left just what stop leaves
pub data Spared (before after : Station) (refusal : Refusal) : Type 0 where
  same : after ≡ before → Spared before after refusal
  turned_off : refusal ≡ refusals.Taken → is_participating before.phase ≡ false → after ≡ stopped before → Spared before after refusal

-- what a refused call leaves
pub record Left (station : Station) (call : Call) (refusal : Refusal) : Type 0 where
  pub state : Spared station (after station call) refusal
  pub buffers : lent_after station call ≡ lent call
