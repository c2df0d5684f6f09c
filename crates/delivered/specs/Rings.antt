-- Demand 3 of the exported calls: the boxes of a ring, each changed by its own calls alone, go through just the states of the ring of full
-- stations, so that all that is proved of it holds of them. Assumes nothing.
use Rattle.std.specs.Prelude.{◌≡◌, ◌∷◌}
use Rattle.laws.specs.Usual.{List, [], ℕ, take}
use Rattle.boundary_answers.specs.declared.Answer.{Answer}
use Rattle.ring.specs.Events.{Stations, Lent, Event, asked, ticked, stray}
use Rattle.settling.specs.Ring.{◌∈◌}
use Rattle.station.specs.Rules.Calls.{Call, tick, hear, ask}
use Rattle.delivered.specs.Boxes.{Box, station_at, Done}

-- the boxes of a ring, by their numbers
abbrev pub Boxes : Type 0
Boxes = ℕ → Box

abbrev pub stations_in : Boxes → Stations
stations_in boxes number = station_at (boxes number)

-- one exported call took the box from the one to the other
pub data Called (before : Box) (call : Call) (left : Box) : Type 0 where
  by : (answer : Answer) (buffers : List (List ℕ)) → Done before call left answer buffers → Called before call left

-- What a box is handed after another was asked: "each other one is then handed what it writes, once. Refused, nobody is handed anything."
-- (3 is the word of an answer that is a frame.)
pub data Handed (before left : Box) (lent : Lent) (answer : Answer) (output : List ℕ) : Type 0 where
  hears : answer.word ≡ 3 → Called before (hear (take answer.octets output) lent.memory lent.assembly) left
      → Handed before left lent answer output
  spared : ¬ (answer.word ≡ 3) → left ≡ before → Handed before left lent answer output

-- an asking at one box, and what it wrote handed to all others
pub record Sent (numbers : List ℕ) (boxes : Boxes) (who : ℕ) (memory turn output : List ℕ) (lent : ℕ → Lent) (left : Boxes) : Type 0 where
  pub answer : Answer
  pub turn_after : List ℕ
  pub output_after : List ℕ
  pub done : Done (boxes who) (ask memory turn output) (left who) answer (memory ∷ turn_after ∷ output_after ∷ [])
  pub others : (n : ℕ) → n ∈ numbers → ¬ (n ≡ who) → Handed (boxes n) (left n) (lent n) answer output_after

-- an event of the ring, by exported calls alone: what it leaves of the boxes
abbrev pub Leaves : List ℕ → Boxes → Event → Boxes → Type 0
Leaves numbers boxes (asked who memory turn output lent) left = Sent numbers boxes who memory turn output lent left
Leaves numbers boxes ticked left = (n : ℕ) → n ∈ numbers → Called (boxes n) tick (left n)
Leaves numbers boxes (stray who call) left =
    Called (boxes who) call (left who) × ((n : ℕ) → n ∈ numbers → ¬ (n ≡ who) → left n ≡ boxes n)

-- a list of events, one after the other
pub data Runs (numbers : List ℕ) : Boxes → List Event → Boxes → Type 0 where
  ended : {boxes : Boxes} → Runs numbers boxes [] boxes
  goes : {event : Event} {events : List Event} {boxes between left : Boxes} → Leaves numbers boxes event between → Runs numbers between events left
      → Runs numbers boxes (event ∷ events) left

-- the boxes hold these stations, at the numbers of the ring
abbrev pub Holding : List ℕ → Boxes → Stations → Type 0
Holding numbers boxes stations = (n : ℕ) → n ∈ numbers → station_at (boxes n) ≡ stations n
