-- A stray is nothing to the views of the ring. Assumes nothing.
use Rattle.std.specs.Prelude.{◌≡◌}
use Rattle.laws.specs.Usual.{List, ℕ}
use Rattle.station.specs.declared.Station.{Station}
use Rattle.ring.specs.Member.{InRing}

-- what a stray leaves of a station: its place in the ring, its view and its watch
pub record Kept (numbers : List ℕ) (number : ℕ) (before left : Station) : Type 0 where
  pub in_ring : InRing numbers number left
  pub view : left.view ≡ before.view
  pub own : left.own ≡ before.own
  pub elapsed : left.elapsed ≡ before.elapsed
