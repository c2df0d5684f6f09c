-- Demand 3 with messages: its premises, the disturbed ring as the paper takes it, and its conclusion, which is that of any ring of which passes and silences
-- are counted (`CountingSettles` of settling).
use Rattle.std.specs.Prelude.{Ok, ◌≡◌}
use Rattle.laws.specs.Usual.{true, List, ℕ, take}
use Rattle.frame.specs.Codes.{is_token}
use Rattle.frame_reading.specs.Reading.{read_of}
use Rattle.members.specs.Members.{entry_of, ring_of}
use Rattle.message_rules.specs.Ring.Reached.{Reachable, Typed}
use Rattle.message_ring.specs.Events.{Boths, Event, both_counting}
use Rattle.message_rules.specs.Rules.Calls.{Both, after, hear, ask, ask_of, verdict}
use Rattle.settling.specs.Counting.{CountingSettles}
use Rattle.settling.specs.Ring.{◌∈◌, Stations as Ascending}
use Rattle.station.specs.Rules.Calls.{unrefused}
use Rattle.station.specs.Rules.Waits.{counts_as}
use Rattle.station.specs.Types.{Fields}
use Rattle.station.specs.declared.Phase.TheVariants.{Participating}

-- "brought there by whatever calls since off"; "each station's last call sent or heard the same token frame unrefused"
pub data LastCall (octets : List ℕ) : Both → Type 0 where
  sent : (before : Both) (memory turn output mail : List ℕ) (count : ℕ) → Reachable before
      → (ask_of before memory turn output mail).answer ≡ Ok count → take count (ask_of before memory turn output mail).output ≡ octets
      → LastCall octets (after before (ask memory turn output mail))
  heard : (before : Both) (memory assembly : List ℕ) → Reachable before → Typed (hear octets memory assembly)
      → verdict before (hear octets memory assembly) ≡ unrefused → LastCall octets (after before (hear octets memory assembly))

-- a disturbed ring, as demand 3 takes it
pub record Disturbed (numbers : List ℕ) (boths : Boths) : Type 0 where
  -- "n stations, one or more, of different numbers"
  pub ring : Ascending numbers
  -- "all of which have just sent or heard one token frame"
  pub octets : List ℕ
  pub token : Fields
  pub is_read : read_of octets ≡ Ok token
  pub is_token_lem : is_token token.code ≡ true
  pub last : (number : ℕ) → number ∈ numbers → LastCall octets (boths number)
  -- each station has its number
  pub own : (number : ℕ) → number ∈ numbers → (boths number).ring.own.number ≡ number
  -- "all participating and listing exactly one another"
  pub participates : (number : ℕ) → number ∈ numbers → (boths number).ring.phase ≡ Participating
  pub list : (number : ℕ) → number ∈ numbers → ring_of number (boths number).ring.members ≡ numbers
  -- "with equal watch times and every view among their numbers"; since paper 02, E1, "one watch time, own and listed", 0 as 1 ms
  pub watch : (n m : ℕ) → n ∈ numbers → m ∈ numbers → (boths n).ring.own.watch.0 ≡ (boths m).ring.own.watch.0
  pub listed : (n m : ℕ) → n ∈ numbers → m ∈ numbers → ¬ (m ≡ n)
      → (counts_as (entry_of (boths n).ring.members m).watch).0 ≡ (boths n).ring.own.watch.0
  pub view : (number : ℕ) → number ∈ numbers → (boths number).ring.view ∈ numbers

abbrev pub BothSettles : List ℕ → Boths → List Event → List Event → Type 0
BothSettles = CountingSettles both_counting
