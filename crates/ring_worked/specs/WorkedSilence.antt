-- Rings of three stations in which nobody holds: a silence comes, and agreement follows. Assumes nothing.
use Rattle.laws.specs.Usual.{refl, sym, ◌∙◌, Bool, true, false, cond, not, false≢true, List, [], ℕ, suc, arith, replicate, eqb}
use Rattle.std.proofs.Common.{inr, append-nil}
use Rattle.std.specs.Prelude.{◌≡◌, ◌&&◌, ◌||◌, ◌∷◌, ◌++◌, zero}
use Rattle.std.proofs.lemmas.Bool.{eqb-false}
use Rattle.laws.specs.Tests.{first, second, implied}
use Rattle.misses.proofs.CoverThird.{brought_more, reached_brought, cover_third}
use Rattle.misses.specs.CoverThird.{strikes_in_view}
use Rattle.misses.specs.MissHistory.{Brought}
use Rattle.frame_reading.specs.Reading.{fields_of, read_of, is_station}
use Rattle.settling.specs.First.{FirstAgreement}
use Rattle.settling.specs.Ring.{◌∈◌}
use Rattle.settling.specs.Steps.{after_all, EachFinds}
use Rattle.station.specs.Rules.Calls.{tick}
use Rattle.station.specs.Rules.State.{is_participating, holds}
use Rattle.station.specs.Rules.Ticking.{watch_ends}
use Rattle.station.specs.declared.Station.{Station}
use Rattle.frame_writing.specs.Writing.{header_of, front_of, back_of, fixed_for}
use Rattle.ring_worked.specs.Bringing.{token_octets, one, two, three, one_reached, two_reached, three_reached, one_heard, three_heard, numbers, ascending, at_1, at_2, at_3, each}
use Rattle.ring.specs.Counts.{passes, silences}
use Rattle.ring.specs.Demand.{Disturbed, RingSettles}
use Rattle.ring.proofs.DemandThree.{left_by_calls, demand_three}
use Rattle.ring.specs.Events.{Stations, Event, ticked, after_event, AllName, ends_watch, CanCome}
use Rattle.ring.specs.Member.{InRing}
use Rattle.ring.proofs.Settles.{settles_from}
use Rattle.ring.proofs.Steps.{KeptRing}
use Rattle.ring_worked.specs.Worked.{Fits, disturbed, passed_on, others_1, others_2, others_3, two_fits, asks_one, can_come}

-- a station whose watch ends does not hold, and strikes nobody
abbrev pub fine : Station → Bool
fine station = not (ends_watch station) || (not (holds station) && not (strikes_in_view station))

abbrev pub all_fine : Stations → Bool
all_fine now = fine (now 1) && (fine (now 2) && fine (now 3))

-- the views of 1 and 3 differ
abbrev apart : Stations → Bool
apart now = not (eqb (now 1).view (now 3).view)

denied : (a : Bool) → not a ≡ true → a ≡ false
denied true e = absurd (false≢true e)
denied false e = refl

-- each was brought there by calls since off
abbrev pub AllBrought : Stations → Type 0
AllBrought now = (n : ℕ) → n ∈ numbers → Brought (now n)

pub tick_comes : (now : Stations) → AllBrought now → all_fine now ≡ true → CanCome numbers now ticked
tick_comes now brought e = (
  λ n m d. denied _ (first (not (holds (now n))) (not (strikes_in_view (now n))) (at_end n m d)),
  λ n m d.
      (cover_third (now n) (brought n m) (first (is_participating (now n).phase) (watch_ends (now n)) d)
      (second (is_participating (now n).phase) (watch_ends (now n)) d)).0
      (denied _ (second (not (holds (now n))) (not (strikes_in_view (now n))) (at_end n m d))),
)
  where
    rest : (fine (now 2) && fine (now 3)) ≡ true
    rest = second (fine (now 1)) (fine (now 2) && fine (now 3)) e

    at_end : (n : ℕ) → n ∈ numbers → ends_watch (now n) ≡ true → (not (holds (now n)) && not (strikes_in_view (now n))) ≡ true
    at_end n m =
        implied (ends_watch (now n)) (not (holds (now n)) && not (strikes_in_view (now n)))
        (each (λ k. fine (now k) ≡ true) (first (fine (now 1)) (fine (now 2) && fine (now 3)) e)
        (first (fine (now 2)) (fine (now 3)) rest) (second (fine (now 2)) (fine (now 3)) rest) n m)

views_differ : (now : Stations) → apart now ≡ true → ¬ AllName numbers now
views_differ now e agreed = eqb-false _ _ (denied _ e) (agreed 1 3 at_1 at_3)

-- so many ticks that can come, each before the views agree
abbrev unsettled_for : ℕ → Stations → Bool
unsettled_for zero now = true
unsettled_for (suc ticks) now = (all_fine now && apart now) && unsettled_for ticks (after_event now ticked)

ticks_come : (ticks : ℕ) (now : Stations) (rest : List Event) → AllBrought now → unsettled_for ticks now ≡ true
    → EachFinds after_event (CanCome numbers) (after_all after_event now (replicate ticks ticked)) rest
    → EachFinds after_event (CanCome numbers) now (replicate ticks ticked ++ rest)
ticks_come zero now rest brought e come = come
ticks_come (suc ticks) now rest brought e come =
    let more = unsettled_for ticks (after_event now ticked) in (
      tick_comes now brought (first (all_fine now) (apart now) (first (all_fine now && apart now) more e)),
      ticks_come ticks (after_event now ticked) rest (λ n m. brought_more (brought n m) tick) (second (all_fine now && apart now) more e) come,
    )

ticks_differ : (ticks : ℕ) (now : Stations) (rest : List Event) → unsettled_for ticks now ≡ true
    → EachFinds after_event (λ state event. ¬ AllName numbers state) (after_all after_event now (replicate ticks ticked)) rest
    → EachFinds after_event (λ state event. ¬ AllName numbers state) now (replicate ticks ticked ++ rest)
ticks_differ zero now rest e differ = differ
ticks_differ (suc ticks) now rest e differ =
    let more = unsettled_for ticks (after_event now ticked) in (
      views_differ now (second (all_fine now) (apart now) (first (all_fine now && apart now) more e)),
      ticks_differ ticks (after_event now ticked) rest (second (all_fine now && apart now) more e) differ,
    )

-- so many ticks, and then station 1 is asked
abbrev pub ticks_then_pass : ℕ → List Event
ticks_then_pass ticks = replicate ticks ticked ++ (asks_one ∷ [])

abbrev pub after_ticks : Stations → ℕ → Stations
after_ticks now ticks = after_all after_event now (replicate ticks ticked)

-- a ring in which that leads to agreement, and not before
record Agrees (now : Stations) (ticks : ℕ) : Type 0 where
  brought : AllBrought now
  waits : unsettled_for ticks now ≡ true
  differ : apart (after_ticks now ticks) ≡ true
  after : (number : ℕ) → number ∈ numbers → (after_all after_event now (ticks_then_pass ticks) number).view ≡ 2

module _ (now : Stations) (ticks : ℕ) (agrees : Agrees now ticks) where
  come : EachFinds after_event (CanCome numbers) now (ticks_then_pass ticks)
  come = ticks_come ticks now (asks_one ∷ []) agrees.brought agrees.waits (can_come (after_ticks now ticks), tt)

  first_time : FirstAgreement after_event (AllName numbers) now (ticks_then_pass ticks) (ticks_then_pass ticks) []
  first_time = record {
    split = sym (append-nil (ticks_then_pass ticks));
    differing = ticks_differ ticks now (asks_one ∷ []) agrees.waits (views_differ (after_ticks now ticks) agrees.differ, tt);
    reached = inr (λ n m p q. agrees.after n p ∙ sym (agrees.after m q));
  }

-- The paper's `settle` example, by full stations: the views are 3, 3 and 1, and all have just sent or heard one token frame.
abbrev pub stations : Stations
stations = passed_on (token_octets 3 2) (token_octets 2 1)

pub worked : Disturbed numbers stations
unfolding header_of front_of back_of fixed_for fields_of
worked =
    disturbed stations
    (each (λ n. Fits n (stations n))
    (record { last = one_heard (token_octets 3 2) refl refl; own = refl; participates = refl; list = refl; watch = refl; times = others_1 (stations 1) refl refl; view = at_3 })
    two_fits
    (record { last = three_heard (token_octets 2 1) refl refl; own = refl; participates = refl; list = refl; watch = refl; times = others_3 (stations 3) refl refl; view = at_1 }))

pub views_before : ((stations 1).view ≡ 3) × ((stations 2).view ≡ 3) × ((stations 3).view ≡ 1)
unfolding header_of front_of back_of fixed_for fields_of
views_before = (refl, refl, refl)

-- the silence comes with the twentieth tick: the views are 1, 1 and 2 then
abbrev pub silent : Stations
silent = after_ticks stations 20

pub views_silent : ((silent 1).view ≡ 1) × ((silent 2).view ≡ 1) × ((silent 3).view ≡ 2)
unfolding header_of front_of back_of fixed_for fields_of
views_silent = (refl, refl, refl)

-- "E,1,1,1": one pass, one silence
pub counted : (passes stations (ticks_then_pass 20) ≡ 1) × (silences numbers stations (ticks_then_pass 20) ≡ 1)
unfolding header_of front_of back_of fixed_for fields_of read_of
counted = (refl, refl)

agrees : Agrees stations 20
unfolding header_of front_of back_of fixed_for fields_of
agrees = record {
  brought = λ n m. reached_brought (left_by_calls (worked.last n m));
  waits = refl;
  differ = refl;
  after = each (λ n. (after_all after_event stations (ticks_then_pass 20) n).view ≡ 2) refl refl refl;
}

pub settled : RingSettles numbers stations (ticks_then_pass 20) []
settled = demand_three worked (come stations 20 agrees) (first_time stations 20 agrees)

-- "three stations with views 2, 3, 1", each brought up by calls and just begun to participate. (No token frame that all sent or heard leaves
-- these views, so this ring is not among those that demand 3 begins with; the same theorem holds from here.)
abbrev pub cycle : Stations
cycle number = cond (eqb number 1) (one (token_octets 3 2)) (cond (eqb number 2) (two (token_octets 1 3)) (three (token_octets 2 1)))

pub cycle_views : ((cycle 1).view ≡ 2) × ((cycle 2).view ≡ 3) × ((cycle 3).view ≡ 1)
unfolding header_of front_of back_of fixed_for fields_of
cycle_views = (refl, refl, refl)

cycle_times : (n : ℕ) → n ∈ numbers → ((cycle n).own.watch.0 ≡ 2) × ((cycle n).elapsed.0 ≡ 0)
unfolding header_of front_of back_of fixed_for fields_of
cycle_times = each (λ n. ((cycle n).own.watch.0 ≡ 2) × ((cycle n).elapsed.0 ≡ 0)) (refl, refl) (refl, refl) (refl, refl)

cycle_brought : AllBrought cycle
unfolding header_of front_of back_of fixed_for fields_of
cycle_brought =
    each (λ n. Brought (cycle n))
    (reached_brought (one_reached (token_octets 3 2) refl))
    (reached_brought (two_reached (token_octets 1 3) refl))
    (reached_brought (three_reached (token_octets 2 1) refl))

cycle_ok : KeptRing numbers cycle
unfolding header_of front_of back_of fixed_for fields_of
cycle_ok = record {
  each =
      each (λ n. InRing numbers n (cycle n))
      (record { participates = refl; own = refl; list = refl; times = others_1 (cycle 1) refl refl; view = at_2; areas = refl; place = omega arith })
      (record { participates = refl; own = refl; list = refl; times = others_2 (cycle 2) refl refl; view = at_3; areas = refl; place = omega arith })
      (record { participates = refl; own = refl; list = refl; times = others_3 (cycle 3) refl refl; view = at_1; areas = refl; place = omega arith });
  watch = λ n k p q. (cycle_times n p).0 ∙ sym (cycle_times k q).0;
  elapsed = λ n k p q. (cycle_times n p).1 ∙ sym (cycle_times k q).1;
  brought = cycle_brought;
}

-- views 3, 1, 2 after one silence, and 1, 2, 3 after another; then station 1 passes
pub cycle_once : ((after_ticks cycle 20 1).view ≡ 3) × ((after_ticks cycle 20 2).view ≡ 1) × ((after_ticks cycle 20 3).view ≡ 2)
unfolding header_of front_of back_of fixed_for fields_of
cycle_once = (refl, refl, refl)

pub cycle_twice : ((after_ticks cycle 40 1).view ≡ 1) × ((after_ticks cycle 40 2).view ≡ 2) × ((after_ticks cycle 40 3).view ≡ 3)
unfolding header_of front_of back_of fixed_for fields_of
cycle_twice = (refl, refl, refl)

pub cycle_counted : (passes cycle (ticks_then_pass 40) ≡ 1) × (silences numbers cycle (ticks_then_pass 40) ≡ 2)
unfolding header_of front_of back_of fixed_for fields_of read_of
cycle_counted = (refl, refl)

cycle_agrees : Agrees cycle 40
unfolding header_of front_of back_of fixed_for fields_of
cycle_agrees = record {
  brought = cycle_brought;
  waits = refl;
  differ = refl;
  after = each (λ n. (after_all after_event cycle (ticks_then_pass 40) n).view ≡ 2) refl refl refl;
}

pub cycle_settled : RingSettles numbers cycle (ticks_then_pass 40) []
cycle_settled =
    settles_from ascending (each (λ n. is_station n ≡ true) refl refl refl) cycle_ok (come cycle 40 cycle_agrees) (first_time cycle 40 cycle_agrees)
