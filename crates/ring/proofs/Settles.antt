-- A ring that is in order, and every list of events that can come to it, settles. Assumes nothing.
use Rattle.std.specs.Prelude.{◌≡◌, ◌∷◌, ◌<◌}
use Rattle.laws.specs.Usual.{[], refl, true, List, ℕ, arith, length}
use mathlib.Core.List.Memᴰ
use Rattle.members.specs.Members.{first_of}
use Rattle.frame_reading.specs.Reading.{is_station}
use Rattle.settling.proofs.Counted.{counting_settles}
use Rattle.settling.specs.Counting.{Orderly}
use Rattle.settling.specs.First.{FirstAgreement}
use Rattle.settling.proofs.Next.{laws_of}
use Rattle.settling.specs.Ring.{◌∈◌, next, Stations as Ascending}
use Rattle.settling.specs.Steps.{EachFinds}
use Rattle.ring.proofs.Asks.{asked_ok, asked_does}
use Rattle.ring.specs.Counts.{ring_counting, Does}
use Rattle.ring.specs.Demand.{RingSettles}
use Rattle.ring.specs.Events.{Stations, Event, asked, ticked, stray, after_event, AllName, CanCome}
use Rattle.ring.proofs.Steps.{KeptRing}
use Rattle.ring.proofs.StrayEvents.{stray_ok, stray_does}
use Rattle.ring.proofs.Ticks.{ticked_ok, ticked_does}

-- a ring has a first number
first_in : (numbers : List ℕ) → 0 < length numbers → first_of numbers ∈ numbers
first_in [] h = absurd (omega arith)
first_in (n ∷ rest) h = Memᴰ.head refl

module _ {numbers : List ℕ} (ascending : Ascending numbers) (are_stations : (n : ℕ) → n ∈ numbers → is_station n ≡ true) where
  next_in_lem : (n : ℕ) → n ∈ numbers → next numbers n ∈ numbers
  next_in_lem = (laws_of numbers ascending).2.stays_in

  starts : first_of numbers ∈ numbers
  starts = first_in numbers ascending.some

  -- every event that can come keeps what is kept of the ring, and does one of the three to the views
  pub kept : (now : Stations) (event : Event) → KeptRing numbers now → CanCome numbers now event → KeptRing numbers (after_event now event)
  kept now (asked who memory turn output lent) ok can = asked_ok numbers next_in_lem are_stations now ok who memory turn output lent can
  kept now ticked ok can = ticked_ok numbers next_in_lem starts now ok can
  kept now (stray who call) ok can = stray_ok numbers now ok who call can

  pub does : (now : Stations) (event : Event) → KeptRing numbers now → CanCome numbers now event → Does numbers now event
  does now (asked who memory turn output lent) ok can = asked_does numbers next_in_lem are_stations now ok who memory turn output lent can
  does now ticked ok can = ticked_does numbers next_in_lem starts now ok can
  does now (stray who call) ok can = stray_does numbers now ok who call can

  orderly : Orderly ring_counting numbers (KeptRing numbers) (CanCome numbers)
  orderly = record { within = λ now ok n m. (ok.each n m).view; keeps = kept; does = does }

  -- `before` is the part "up to the first time that they all name one holder, or to its end if they never do", and `later` the rest.
  pub settles_from : {stations : Stations} {events before later : List Event} → KeptRing numbers stations
      → EachFinds after_event (CanCome numbers) stations events → FirstAgreement after_event (AllName numbers) stations events before later
      → RingSettles numbers stations before later
  settles_from begins come first = counting_settles orderly ascending begins come first
