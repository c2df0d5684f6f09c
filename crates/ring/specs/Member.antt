-- What the proofs keep of each station of a ring, from event to event. Assumes nothing.
use Rattle.std.specs.Prelude.{◌≡◌, ◌<◌}
use Rattle.laws.specs.Usual.{true, List, ℕ}
use Rattle.area.specs.Areas.{in_range}
use Rattle.block.specs.Blocks.{blocks_of}
use Rattle.members.specs.Members.{entry_of, ring_of}
use Rattle.settling.specs.Ring.{◌∈◌}
use Rattle.station.specs.Rules.Waits.{counts_as}
use Rattle.station.specs.declared.Phase.TheVariants.{Participating}
use Rattle.station.specs.declared.Station.{Station}

-- a station of the ring, whose number is `number`
pub record InRing (numbers : List ℕ) (number : ℕ) (station : Station) : Type 0 where
  pub participates : station.phase ≡ Participating
  pub own : station.own.number ≡ number
  -- its list with its own number is just the ring
  pub list : ring_of number station.members ≡ numbers
  -- every time that it lists of another is its own, 0 as 1 ms
  pub times : (x : ℕ) → x ∈ numbers → ¬ (x ≡ number) → (counts_as (entry_of station.members x).watch).0 ≡ station.own.watch.0
  pub view : station.view ∈ numbers
  pub areas : in_range station.own.areas ≡ true
  pub place : station.block < blocks_of station.own.areas
