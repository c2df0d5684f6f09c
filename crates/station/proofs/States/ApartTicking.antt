-- A tick keeps the areas apart. Assumes nothing.
use Rattle.std.specs.Prelude.{◌≡◌, ◌&&◌, ◌+◌, ◌≤◌}
use Rattle.laws.specs.Usual.{refl, sym, ◌∙◌, Bool, true, false, cond, false≢true, min, arith, eqb, leb, ltb}
use Rattle.std.proofs.Common.{leb-true, ltb-false, le-leb}
use Rattle.laws.specs.Tests.{both, first, second}
use Rattle.members.specs.Listing.{bare, overlaps_listed}
use Rattle.station.specs.States.Disjoint.{Apart}
use Rattle.station.proofs.States.Disjoint.{no_overlap, disjoint_none, clear_none, disjoint_missed, clear_missed}
use Rattle.station.proofs.States.KeepsStarting.{station_from, station_to}
use Rattle.station.specs.States.Reachable.{Sound}
use Rattle.station.specs.Rules.Starting.{request_fallen}
use Rattle.station.specs.Rules.State.{fresh, counted}
use Rattle.station.specs.Outcomes.TickCases.{TickCases, off, listens, starts, lapses, begins, gives_up, learns, waits, ends, runs}
use Rattle.station.proofs.Outcomes.TickCases.{tick_cases}
use Rattle.station.specs.Rules.Ticking.{later, falls_due, joining_wait, tick_of, Ticking}
use Rattle.station.specs.Rules.Waits.{detection_wait, acceptance_time, number_wait}
use Rattle.station.specs.Types.{Ticks, Panel, Settings, Phase, Listening, Joining, Station}

pub fresh_apart : (phase : Phase) (own : Settings) → Apart (fresh phase own)
fresh_apart phase own = record { listed = disjoint_none; ours = λ e. clear_none own.areas }

module _ (station : Station) (ok : Sound station) (apart : Apart station) where
  -- our own settings with both sizes 0
  abbrev bared : Settings
  bared = record { number = station.own.number; areas = bare station.own.areas; watch = station.own.watch }

  -- a tick in which our request may fall due
  module _ (elapsed waited : Ticks) (panel : Panel) (from to : Ticks)
      (falls : request_fallen station.phase (counted station station.own elapsed waited panel) ≡ true
      → leb (number_wait station.own.number) to.0 ≡ true)
      (fell : request_fallen station.phase (counted station station.own elapsed waited panel) ≡ true
      → leb (number_wait station.own.number) from.0 ≡ true → request_fallen station.phase station ≡ true) where
    due_apart : (unfallen falls_in overlaps : Bool) → ltb from.0 (number_wait station.own.number) ≡ unfallen
        → leb (number_wait station.own.number) to.0 ≡ falls_in → overlaps_listed station.members station.own.areas ≡ overlaps
        → Apart (counted station (cond (unfallen && falls_in) (cond overlaps bared station.own) station.own) elapsed waited panel)
    due_apart true true true u t o = record { listed = apart.listed; ours = λ z n l. refl }
    due_apart true true false u t o = record {
      listed = apart.listed;
      ours = λ z n l. no_overlap station.members 0 station.own.areas o n
          (λ q. let some = station_from n (ok.list.each n l).station in omega arith) l;
    }
    due_apart true false overlaps u t o = record { listed = apart.listed; ours = λ z. absurd (false≢true (sym t ∙ falls z)) }
    due_apart false falls_in overlaps u t o = record {
      listed = apart.listed;
      ours = λ z. apart.ours (fell z (le-leb _ _ (ltb-false from.0 (number_wait station.own.number) u)));
    }

    falls_apart : Apart (counted station (falls_due station from to) elapsed waited panel)
    falls_apart =
        due_apart (ltb from.0 (number_wait station.own.number)) (leb (number_wait station.own.number) to.0)
        (overlaps_listed station.members station.own.areas) refl refl refl

  -- joining goes on
  joining_apart : station.phase ≡ Joining → (waited : Ticks) → Apart (joining_wait station (later detection_wait station.elapsed) waited)
  joining_apart e waited =
      falls_apart (later detection_wait station.elapsed) waited station.panel station.waited waited
      (λ z. second (eqb station.rounds 3) (leb (number_wait station.own.number) waited.0) (rw e at z))
      (λ z f. rw e (both (first (eqb station.rounds 3) (leb (number_wait station.own.number) waited.0) (rw e at z)) f))

  apart_in : {result : Ticking} → TickCases station result → Apart result.station
  apart_in (off e) = apart
  apart_in (listens e) = record { listed = apart.listed; ours = λ z. absurd (false≢true (rw e at z)) }
  apart_in (starts e t) =
      falls_apart (later acceptance_time station.elapsed) station.waited station.panel station.elapsed (later acceptance_time station.elapsed)
      (λ z. rw e at z) (λ z f. rw e f)
  apart_in (lapses e t) = fresh_apart Listening station.own
  apart_in (begins e t) =
      let long = leb-true acceptance_time (min acceptance_time (station.elapsed.0 + 1)) t in
      let small = station_to station.own.number (ok.ours (rw e)).number in
      let come : number_wait station.own.number ≤ station.elapsed.0 = omega arith in
      record { listed = apart.listed; ours = λ z. apart.ours (rw e (le-leb _ _ come)) }
  apart_in (gives_up e t) = fresh_apart Listening station.own
  apart_in (learns e t r) = joining_apart e station.waited
  apart_in (waits e t r) = joining_apart e (later (number_wait station.own.number) station.waited)
  apart_in (ends e t) = record {
    listed = disjoint_missed station.members station.view apart.listed;
    ours = λ z. clear_missed station.members station.view station.own.areas (apart.ours (rw e));
  }
  apart_in (runs e t) = record { listed = apart.listed; ours = λ z. apart.ours (rw e) }

  pub tick_apart : Apart (tick_of station).station
  tick_apart = apart_in (tick_cases station)
