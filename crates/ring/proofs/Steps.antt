-- Each event moves the views of the ring by one pass, by one silence or not at all. Assumes nothing.
use Rattle.std.specs.Prelude.{Ok, Err, ◌≡◌, ◌≤◌}
use Rattle.laws.specs.Usual.{refl, ap, ◌∙◌, Bool, true, false, cond, List, ℕ, min, arith, take, eqb, ltb}
use Rattle.std.proofs.Math.Decide.{ℕ_discrete, dec_le}
use Rattle.std.proofs.Common.{eq-eqb, ne_eqb, le-leb, lt-ltb}
use Rattle.std.proofs.lemmas.Bool.{lt-leb}
use Rattle.block.specs.Blocks.{blocks_of}
use Rattle.frame.specs.Codes.{is_token, is_cyclic}
use Rattle.frame.specs.declared.Code.TheVariants.{Token, Cyclic}
use Rattle.misses.specs.MissHistory.{Brought}
use Rattle.frame_reading.specs.Reading.{is_station, read_of}
use Rattle.settling.specs.Ring.{◌∈◌, next}
use Rattle.frame_writing.specs.Writing.{whole_length}
use Rattle.station.specs.Frames.Asked.{CanSend}
use Rattle.station.proofs.Frames.Asked.{asked_back}
use Rattle.station.specs.Rules.State.{holds}
use Rattle.station.specs.Rules.Token.{view_heard, view_after}
use Rattle.station.specs.Types.{Fields}
use Rattle.station.specs.declared.Station.{Station}
use Rattle.ring.specs.Events.{Stations}
use Rattle.ring.specs.Member.{InRing}
use Rattle.ring.proofs.Member.{next_same}
use Rattle.frame.specs.declared.Refusal.TheVariants as refusals
use Rattle.station.specs.Rules.Asking as asking

-- what is kept of the whole ring
pub record KeptRing (numbers : List ℕ) (stations : Stations) : Type 0 where
  pub each : (number : ℕ) → number ∈ numbers → InRing numbers number (stations number)
  -- equal watch times, and equal times since the watch restarted
  pub watch : (n m : ℕ) → n ∈ numbers → m ∈ numbers → (stations n).own.watch.0 ≡ (stations m).own.watch.0
  pub elapsed : (n m : ℕ) → n ∈ numbers → m ∈ numbers → (stations n).elapsed.0 ≡ (stations m).elapsed.0
  -- each was brought there by calls since off
  pub brought : (number : ℕ) → number ∈ numbers → Brought (stations number)

-- the smaller of two numbers of the ring is one of them
min_in : (numbers : List ℕ) (a b : ℕ) → a ∈ numbers → b ∈ numbers → min a b ∈ numbers
min_in numbers a b p q = by (dec_le a b)
  where
    by : Dec (a ≤ b) → min a b ∈ numbers
    by (yes h) = let e : min a b ≡ a = omega arith in rw e p
    by (no h) = let e : min a b ≡ b = omega arith in rw e q

view_in : (numbers : List ℕ) (view source destination : ℕ) → view ∈ numbers → destination ∈ numbers → view_after view source destination ∈ numbers
view_in numbers view source destination p q = by (eqb source view)
  where
    by : (test : Bool) → cond test destination (min view destination) ∈ numbers
    by true = q
    by false = min_in numbers view destination p q

pub heard_in : (numbers : List ℕ) (view : ℕ) (frame : Fields) → view ∈ numbers → frame.destination ∈ numbers → view_heard view frame ∈ numbers
heard_in numbers view frame p q = by (is_token frame.code)
  where
    by : (test : Bool) → cond test (view_after view frame.source frame.destination) view ∈ numbers
    by true = view_in numbers view frame.source frame.destination p q
    by false = p

-- the number of the sender and of next are stations', so the sender can send
module _ (numbers : List ℕ) (laws_next : (x : ℕ) → x ∈ numbers → next numbers x ∈ numbers)
    (are_stations : (x : ℕ) → x ∈ numbers → is_station x ≡ true) where
  module _ (who : ℕ) (m : who ∈ numbers) (station : Station) (in_ring : InRing numbers who station) where
    pub next_is : asking.next_station station ≡ next numbers who
    next_is = next_same in_ring station.own.number ∙ ap (next numbers) in_ring.own

    pub can_send : CanSend station
    can_send = record {
      number = rw in_ring.own (are_stations who m);
      areas = in_ring.areas;
      next = rw next_is (are_stations (next numbers who) (laws_next who m));
      place = in_ring.place;
    }

    -- the fields of the frame that a station of the ring sends
    abbrev pub sends : Fields
    sends = asking.due_fields station.phase station

    pub source_is : sends.source ≡ who
    source_is = rw in_ring.participates in_ring.own

    pub destination_is : sends.destination ≡ next numbers who
    destination_is = rw in_ring.participates next_is

    cyclic_code : (test : Bool) → is_cyclic (cond test Token Cyclic) ≡ true
    cyclic_code true = refl
    cyclic_code false = refl

    pub cyclic_is : is_cyclic sends.code ≡ true
    cyclic_is = rw in_ring.participates (cyclic_code (eqb (asking.next_block station) (blocks_of station.own.areas)))

    -- the last block is the one with the token
    pub last_is : asking.is_last station ≡ is_token sends.code
    last_is = rw in_ring.participates (by (ℕ_discrete (asking.next_block station) (blocks_of station.own.areas)))
      where
        by : Dec (asking.next_block station ≡ blocks_of station.own.areas) →
            asking.is_last station ≡ is_token (cond (eqb (asking.next_block station) (blocks_of station.own.areas)) Token Cyclic)
        by (yes e) = rw (eq-eqb _ _ e, le-leb (blocks_of station.own.areas) (asking.next_block station) (omega arith))
        by (no n) = rw (ne_eqb _ _ n, lt-leb (blocks_of station.own.areas) (asking.next_block station) (omega (arith, in_ring.place)))

    module _ (memory turn output : List ℕ) (lent : asking.lent_right memory turn output ≡ true) where
      -- nobody but a holder has a frame due
      pub idle_station : holds station ≡ false → (asking.ask_of station memory turn output).station ≡ station
      idle_station e = rw (lent, in_ring.participates, e)

      pub idle_answer : holds station ≡ false → (asking.ask_of station memory turn output).answer ≡ Err refusals.NotDue
      idle_answer e = rw (lent, in_ring.participates, e)

      within : ltb station.block (blocks_of station.own.areas) ≡ true
      within = lt-ltb _ _ in_ring.place

      -- a holder sends a block
      pub asked_station : holds station ≡ true → (asking.ask_of station memory turn output).station ≡ asking.block_sent station
      asked_station e = rw (lent, in_ring.participates, e, in_ring.areas, within)

      pub asked_answer : holds station ≡ true → (asking.ask_of station memory turn output).answer ≡ Ok (whole_length sends)
      asked_answer e = rw (lent, in_ring.participates, e, in_ring.areas, within)

      -- and what it writes reads back
      pub asked_read : holds station ≡ true → read_of (take (whole_length sends) (asking.ask_of station memory turn output).output) ≡ Ok sends
      asked_read e = asked_back station memory turn output (whole_length sends) can_send (asked_answer e)
