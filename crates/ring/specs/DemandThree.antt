-- Demand 3 of the ring of full stations. Assumes nothing.
use Rattle.std.specs.Prelude.{◌≡◌}
use Rattle.laws.specs.Usual.{List, ℕ}
use Rattle.members.specs.Members.{entry_of, ring_of}
use Rattle.settling.specs.Ring.{◌∈◌}
use Rattle.station.specs.States.Reachable.{Reachable}
use Rattle.station.specs.Rules.Waits.{counts_as}
use Rattle.station.specs.declared.Phase.TheVariants.{Participating}
use Rattle.ring.specs.Events.{Stations}

-- A ring of stations that calls can leave, each with its number, all participating and listing exactly one another, with one watch time and views among
-- them, whose watches have all just restarted.
pub record Fresh (numbers : List ℕ) (stations : Stations) : Type 0 where
  pub own : (number : ℕ) → number ∈ numbers → (stations number).own.number ≡ number
  pub participates : (number : ℕ) → number ∈ numbers → (stations number).phase ≡ Participating
  pub list : (number : ℕ) → number ∈ numbers → ring_of number (stations number).members ≡ numbers
  pub watch : (n m : ℕ) → n ∈ numbers → m ∈ numbers → (stations n).own.watch.0 ≡ (stations m).own.watch.0
  pub listed : (n m : ℕ) → n ∈ numbers → m ∈ numbers → ¬ (m ≡ n)
      → (counts_as (entry_of (stations n).members m).watch).0 ≡ (stations n).own.watch.0
  pub view : (number : ℕ) → number ∈ numbers → (stations number).view ∈ numbers
  pub reached : (number : ℕ) → number ∈ numbers → Reachable (stations number)
  pub restarted : (number : ℕ) → number ∈ numbers → (stations number).elapsed.0 ≡ 0
