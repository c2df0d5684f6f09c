-- Demand 3: its premises, the disturbed ring as the paper takes it, and its conclusion.
use Rattle.std.specs.Prelude.{Ok, ◌≡◌}
use Rattle.laws.specs.Usual.{true, List, ℕ, take}
use Rattle.frame.specs.Codes.{is_token}
use Rattle.members.specs.Members.{entry_of, ring_of}
use Rattle.frame_reading.specs.Reading.{read_of}
use Rattle.settling.specs.Counting.{CountingSettles}
use Rattle.settling.specs.Ring.{◌∈◌, Stations as Ascending}
use Rattle.station.specs.Rules.Asking.{ask_of}
use Rattle.station.specs.Rules.Calls.{after, hear, ask, unrefused, verdict}
use Rattle.station.specs.Rules.Waits.{counts_as}
use Rattle.station.specs.States.Reachable.{Reachable, Typed}
use Rattle.station.specs.Types.{Fields}
use Rattle.station.specs.declared.Phase.TheVariants.{Participating}
use Rattle.station.specs.declared.Station.{Station}
use Rattle.ring.specs.Counts.{ring_counting}
use Rattle.ring.specs.Events.{Stations, Event}

-- "brought there by whatever calls since off"; "each station's last call sent or heard the same token frame unrefused"
pub data LastCall (octets : List ℕ) : Station → Type 0 where
  sent : (before : Station) (memory turn output : List ℕ) (count : ℕ) → Reachable before
      → (ask_of before memory turn output).answer ≡ Ok count → take count (ask_of before memory turn output).output ≡ octets
      → LastCall octets (after before (ask memory turn output))
  heard : (before : Station) (memory assembly : List ℕ) → Reachable before → Typed (hear octets memory assembly)
      → verdict before (hear octets memory assembly) ≡ unrefused → LastCall octets (after before (hear octets memory assembly))

-- a disturbed ring, as demand 3 takes it
pub record Disturbed (numbers : List ℕ) (stations : Stations) : Type 0 where
  -- "n stations, one or more, of different numbers"
  pub ring : Ascending numbers
  -- "all of which have just sent or heard one token frame"
  pub octets : List ℕ
  pub token : Fields
  pub is_read : read_of octets ≡ Ok token
  pub is_token_lem : is_token token.code ≡ true
  pub last : (number : ℕ) → number ∈ numbers → LastCall octets (stations number)
  -- each station has its number
  pub own : (number : ℕ) → number ∈ numbers → (stations number).own.number ≡ number
  -- "all participating and listing exactly one another"
  pub participates : (number : ℕ) → number ∈ numbers → (stations number).phase ≡ Participating
  pub list : (number : ℕ) → number ∈ numbers → ring_of number (stations number).members ≡ numbers
  -- "with equal watch times and every view among their numbers"; since paper 02, E1, "one watch time, own and listed", 0 as 1 ms
  pub watch : (n m : ℕ) → n ∈ numbers → m ∈ numbers → (stations n).own.watch.0 ≡ (stations m).own.watch.0
  pub listed : (n m : ℕ) → n ∈ numbers → m ∈ numbers → ¬ (m ≡ n)
      → (counts_as (entry_of (stations n).members m).watch).0 ≡ (stations n).own.watch.0
  pub view : (number : ℕ) → number ∈ numbers → (stations number).view ∈ numbers

-- What is concluded of a list of events whose first part, "up to the first time that they all name one holder, or to its end if they never
-- do", is `before`, and whose rest is `later`: `CountingSettles` has it, one sentence a field.
abbrev pub RingSettles : List ℕ → Stations → List Event → List Event → Type 0
RingSettles = CountingSettles ring_counting
