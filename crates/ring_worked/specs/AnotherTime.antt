-- Why a request heard with another watch time ends the cover of demand 3 (paper 02, E1). In a ring whose time is 2 ms all name station 3, and
-- station 1 alone hears a request of station 3 with 1 ms. After ten ticks it has given station 3 up and takes itself for the holder, while
-- station 3 still holds. Each of these events could come but for the time of that request: no holder's watch ends, and nobody is missed three
-- times running. Assumes nothing.
use Rattle.laws.specs.Usual.{refl, sym, ◌∙◌, Bool, true, false, cond, List, [], ℕ, suc, arith, replicate, eqb}
use Rattle.std.specs.Prelude.{Ok, ◌≡◌, ◌&&◌, ◌∷◌, zero}
use Rattle.std.proofs.Common.{append-nil}
use Rattle.frame.specs.Codes.{is_cyclic}
use Rattle.frame_reading.specs.Reading.{fields_of, read_of}
use Rattle.frame_round_trip.specs.Sent.{request_fields}
use Rattle.frame_writing.specs.Writing.{no_areas, frame_of, header_of, front_of, back_of, fixed_for}
use Rattle.laws.specs.Tests.{first, second}
use Rattle.misses.proofs.CoverThird.{brought_more, reached_brought}
use Rattle.misses.specs.MissHistory.{Brought}
use Rattle.settling.specs.Ring.{◌∈◌}
use Rattle.settling.specs.Steps.{after_all, EachFinds}
use Rattle.station.specs.Rules.Calls.{Call, tick, after, unrefused, verdict}
use Rattle.station.specs.Rules.Waits.{counts_as}
use Rattle.station.specs.Types.{Fields}
use Rattle.ring_worked.specs.Bringing.{token_octets, hears, one_heard, three_heard, numbers, at_1, at_3, each}
use Rattle.ring.specs.Demand.{Disturbed, RingSettles}
use Rattle.ring.proofs.DemandThree.{left_by_calls}
use Rattle.ring.specs.Events.{Stations, Event, ticked, stray, after_event, AllName, CanCome}
use Rattle.ring_worked.specs.Worked.{Fits, disturbed, passed_on, others_1, others_3, two_fits}
use Rattle.ring_worked.specs.WorkedSilence.{AllBrought, all_fine, tick_comes}

-- Station 2 has just passed the token to station 3, and the others had station 2 in view.
abbrev pub stations : Stations
stations = passed_on (token_octets 3 2) (token_octets 1 2)

pub worked : Disturbed numbers stations
unfolding header_of front_of back_of fixed_for fields_of
worked =
    disturbed stations
    (each (λ n. Fits n (stations n))
    (record { last = one_heard (token_octets 3 2) refl refl; own = refl; participates = refl; list = refl; watch = refl; times = others_1 (stations 1) refl refl; view = at_3 })
    two_fits
    (record { last = three_heard (token_octets 1 2) refl refl; own = refl; participates = refl; list = refl; watch = refl; times = others_3 (stations 3) refl refl; view = at_3 }))

views : (number : ℕ) → number ∈ numbers → (stations number).view ≡ 3
unfolding header_of front_of back_of fixed_for fields_of
views = each (λ n. (stations n).view ≡ 3) refl refl refl

pub all_agree : AllName numbers stations
all_agree n m p q = views n p ∙ sym (views m q)

-- the request
abbrev pub request : Fields
request = request_fields 3 no_areas (record { 0 = 1 })

abbrev pub octets : List ℕ
octets = frame_of request []

abbrev pub hears_request : Event
hears_request = stray 1 (hears octets)

-- It is heard, and is a stray that can come but for its time.
pub is_heard : verdict (stations 1) (hears octets) ≡ unrefused
unfolding header_of front_of back_of fixed_for fields_of
is_heard = refl

pub is_read : (read_of octets ≡ Ok request) × (is_cyclic request.code ≡ false) × (request.source ∈ numbers)
unfolding header_of front_of back_of fixed_for fields_of read_of
is_read = (refl, refl, at_3)

pub another_time : ((counts_as request.watch).0 ≡ 1) × ((stations 1).own.watch.0 ≡ 2)
unfolding header_of front_of back_of fixed_for fields_of
another_time = (refl, refl)

-- so many ticks, each of which can come
abbrev fine_for : ℕ → Stations → Bool
fine_for zero now = true
fine_for (suc ticks) now = all_fine now && fine_for ticks (after_event now ticked)

ticks_come : (ticks : ℕ) (now : Stations) → AllBrought now → fine_for ticks now ≡ true
    → EachFinds after_event (CanCome numbers) now (replicate ticks ticked)
ticks_come zero now brought e = tt
ticks_come (suc ticks) now brought e = (
  tick_comes now brought (first (all_fine now) (fine_for ticks (after_event now ticked)) e),
  ticks_come ticks (after_event now ticked) (λ n m. brought_more (brought n m) tick) (second (all_fine now) (fine_for ticks (after_event now ticked)) e),
)

-- each was brought there by calls since off
brought : AllBrought stations
brought n m = reached_brought (left_by_calls (worked.last n m))

-- and so was each after a call at station 1
brought_on : (now : Stations) → AllBrought now → (call : Call) → AllBrought (after_event now (stray 1 call))
brought_on now all call n m = by (eqb n 1)
  where
    by : (test : Bool) → Brought (cond test (after (now 1) call) (now n))
    by true = brought_more (all 1 at_1) call
    by false = all n m

pub can_come : EachFinds after_event (CanCome numbers) (after_event stations hears_request) (replicate 10 ticked)
unfolding header_of front_of back_of fixed_for fields_of
can_come =
    ticks_come 10 (after_event stations hears_request) (brought_on stations brought (hears octets)) refl

-- then stations 1 and 3 both hold
abbrev pub events : List Event
events = hears_request ∷ replicate 10 ticked

pub views_part : ((after_all after_event stations events 1).view ≡ 1) × ((after_all after_event stations events 3).view ≡ 3)
unfolding header_of front_of back_of fixed_for fields_of
views_part = (refl, refl)

-- So demand 3 does not hold of these events: "from that first time on they all name one holder" is false.
pub not_covered : ¬ RingSettles numbers stations [] events
not_covered settles = 1≢3 (sym views_part.0 ∙ parted 1 3 at_1 at_3 ∙ views_part.1)
  where
    parted : AllName numbers (after_all after_event stations events)
    parted = settles.stays all_agree events [] (sym (append-nil events))

    1≢3 : ◌≡◌ {A = ℕ} 1 3 → ⊥
    1≢3 e = omega arith
