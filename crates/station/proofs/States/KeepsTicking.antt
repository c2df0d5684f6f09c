-- What is proved of the definitions in specs/States/KeepsTicking.antt.
use Rattle.std.specs.Prelude.{◌≡◌, ◌&&◌, ◌||◌, ◌+◌, ◌<◌, ◌≤◌}
use Rattle.laws.specs.Usual.{refl, sym, ◌∙◌, Bool, true, false, cond, not, false≢true, min, arith, eqb, leb, ltb}
use Rattle.std.proofs.Common.{leb-true, leb-false, le-leb}
use Rattle.std.proofs.lemmas.Bool.{eqb-false}
use Rattle.laws.specs.Tests.{both, first, second}
use Rattle.members.specs.Listing.{overlaps_listed}
use Rattle.members.specs.Members.{nobody, is_listed, strikes, missed, struck, entry_of, with_entry, misses_set, smallest, next_after}
use Rattle.panel.specs.Panel.{ticked}
use Rattle.station.specs.Rules.Data.{without}
use Rattle.station.proofs.States.KeepsStarting.{ticked_shown, listening_sound, begun_sound, restarted_sound}
use Rattle.station.proofs.States.ListKept.{missed_kept, next_station_lem, smallest_station, bare_range, placed_with, placed_misses}
use Rattle.station.specs.States.Reachable.{Placed, Shown, limit_of, Sound}
use Rattle.station.specs.Rules.Starting.{request_fallen}
use Rattle.station.specs.Rules.State.{is_off, is_participating, nothing, holds, counted}
use Rattle.station.proofs.Outcomes.TickCases.{tick_cases}
use Rattle.station.specs.Outcomes.TickCases.{TickCases, off, listens, starts, lapses, begins, gives_up, learns, waits, ends, runs}
use Rattle.station.specs.Rules.Ticking.{later, falls_due, watch_time, watch_of, tick_of, Ticking}
use Rattle.station.specs.Rules.Waits.{detection_wait, acceptance_time, number_wait, listening_time, counts_as, longest_watch}
use Rattle.station.specs.Types.{Ticks, Panel, Phase, Off, Listening, Startup, Joining, Participating, Station}
use Rattle.station.specs.States.KeepsTicking.{bared}

-- no watch runs longer than the longest
pub watch_within : (station : Station) → Sound station → is_off station.phase ≡ false → (watch_time station).0 ≤ 255
watch_within station ok on = by (holds station) (is_listed station.members station.view) refl
  where
    ours : station.own.watch.0 ≤ 255
    ours = (ok.ours on).watch_to

    by : (held listed : Bool) → is_listed station.members station.view ≡ listed
        → (cond (held || not listed) station.own.watch (counts_as (entry_of station.members station.view).watch)).0 ≤ 255
    by true listed l = ours
    by false true l = omega (arith, (ok.list.each station.view l).watch)
    by false false l = ours

-- other counts of ticks, and our sizes 0 or not
module _ (station : Station) (elapsed waited : Ticks) (panel : Panel) (ok : Sound station)
    (below : elapsed.0 < limit_of station.phase station.own.number)
    (most : waited.0 ≤ number_wait station.own.number) (early : eqb station.rounds 3 ≡ false → waited.0 ≡ 0) (shown : Shown panel)
    (asked : station.sent ≡ true → request_fallen station.phase (counted station station.own elapsed waited panel) ≡ true) where
  counted_sound : Sound (counted station station.own elapsed waited panel)
  counted_sound = record {
    list = ok.list;
    empty = ok.empty;
    number = ok.number;
    ours = ok.ours;
    rounds = ok.rounds;
    elapsed = below;
    waited = most;
    unwaited = early;
    sent = asked;
    view = ok.view;
    unseen = ok.unseen;
    place = ok.place;
    unheld = ok.unheld;
    gathering = ok.gathering;
    ungathered = ok.ungathered;
    panel = shown;
  }

  -- our number stays, and with it when our request falls due
  bared_fallen : (phase : Phase)
      → request_fallen phase (counted station (bared station.own) elapsed waited panel) ≡ request_fallen phase (counted station station.own elapsed waited panel)
  bared_fallen Off = refl
  bared_fallen Listening = refl
  bared_fallen Startup = refl
  bared_fallen Joining = refl
  bared_fallen Participating = refl

  bared_sound : is_participating station.phase ≡ false → Sound (counted station (bared station.own) elapsed waited panel)
  bared_sound before =
      let unsent : station.block ≡ 0 = ok.unheld (rw before) in
      record {
        list = ok.list;
        empty = ok.empty;
        number = ok.number;
        ours = λ e. let ours = ok.ours e in record {
          number = ours.number;
          watch_from = ours.watch_from;
          watch_to = ours.watch_to;
          areas = bare_range station.own.areas ours.areas;
        };
        rounds = ok.rounds;
        elapsed = below;
        waited = most;
        unwaited = early;
        sent = λ s. bared_fallen station.phase ∙ asked s;
        view = ok.view;
        unseen = ok.unseen;
        place = omega arith;
        unheld = ok.unheld;
        gathering = ok.gathering;
        ungathered = ok.ungathered;
        panel = shown;
      }

  due_sound : is_participating station.phase ≡ false → (falls overlaps : Bool)
      → Sound (counted station (cond falls (cond overlaps (bared station.own) station.own) station.own) elapsed waited panel)
  due_sound before true true = bared_sound before
  due_sound before true false = counted_sound
  due_sound before false overlaps = counted_sound

  falls_sound : is_participating station.phase ≡ false → (from to : Ticks) → Sound (counted station (falls_due station from to) elapsed waited panel)
  falls_sound before from to =
      due_sound before (ltb from.0 (number_wait station.own.number) && leb (number_wait station.own.number) to.0)
      (overlaps_listed station.members station.own.areas)

module _ (station : Station) (ok : Sound station) where
  -- what was gathered when the watch ends
  struck_placed : (listed strike same : Bool) → eqb station.view station.gathering.source ≡ same
      → eqb (cond (listed && strike) (cond same nothing station.gathering) station.gathering).source 0 ≡ false
      → Placed
      (cond listed
      (cond strike
      (struck station.members station.view)
      (with_entry station.members station.view
      (misses_set ((entry_of station.members station.view).misses + 1) (entry_of station.members station.view))))
      station.members)
      (cond (listed && strike) (cond same nothing station.gathering) station.gathering)
  struck_placed true true true s e = absurd (false≢true (sym e))
  struck_placed true true false s e =
      placed_with (ok.gathering e) station.view nobody (λ same. absurd (eqb-false station.view station.gathering.source s (sym same)))
  struck_placed true false same s e = placed_misses (ok.gathering e) station.view ((entry_of station.members station.view).misses + 1)
  struck_placed false strike same s e = ok.gathering e

  -- a request that was sent stays fallen due
  startup_asked : station.phase ≡ Startup → station.sent ≡ true → request_fallen station.phase
      (counted station station.own (later acceptance_time station.elapsed) station.waited station.panel) ≡ true
  startup_asked e s =
      let come = leb-true (number_wait station.own.number) station.elapsed.0 (rw e at (ok.sent s)) in
      let below : station.elapsed.0 < acceptance_time = rw e at ok.elapsed in
      rw e (le-leb (number_wait station.own.number) (min acceptance_time (station.elapsed.0 + 1)) (omega arith))

  joining_asked : station.phase ≡ Joining → station.sent ≡ true → request_fallen station.phase
      (counted station station.own (later detection_wait station.elapsed) (later (number_wait station.own.number) station.waited) station.panel)
      ≡ true
  joining_asked e s =
      let fell = rw e at (ok.sent s) in
      let come = leb-true (number_wait station.own.number) station.waited.0
      (second (eqb station.rounds 3) (leb (number_wait station.own.number) station.waited.0) fell) in
      rw e (both (first (eqb station.rounds 3) (leb (number_wait station.own.number) station.waited.0) fell)
      (le-leb (number_wait station.own.number) (min (number_wait station.own.number) (station.waited.0 + 1)) (omega arith)))

  sound_in : {result : Ticking} → TickCases station result → Sound result.station
  sound_in (off e) = ok
  sound_in (listens e) =
      counted_sound station (later (listening_time station.own.number) station.elapsed) station.waited station.panel ok
      (rw e (omega arith)) ok.waited ok.unwaited ok.panel (λ s. absurd (false≢true (rw e at (ok.sent s))))
  sound_in (starts e t) =
      falls_sound station (later acceptance_time station.elapsed) station.waited station.panel ok
      (rw e (leb-false acceptance_time (min acceptance_time (station.elapsed.0 + 1)) t)) ok.waited ok.unwaited ok.panel (startup_asked e) (rw e)
      station.elapsed (later acceptance_time station.elapsed)
  sound_in (lapses e t) = listening_sound station.own (ok.ours (rw e))
  sound_in (begins e t) =
      let ours = ok.ours (rw e) in
      begun_sound station.own station.members (smallest station.own.number station.members) ours ok.list
      (smallest_station ok.list ours.number)
  sound_in (gives_up e t) = listening_sound station.own (ok.ours (rw e))
  sound_in (learns e t r) =
      falls_sound station (later detection_wait station.elapsed) station.waited station.panel ok
      (rw e (leb-false detection_wait (min detection_wait (station.elapsed.0 + 1)) t)) ok.waited ok.unwaited ok.panel
      (λ s. rw e (rw e at (ok.sent s))) (rw e) station.waited station.waited
  sound_in (waits e t r) =
      falls_sound station (later detection_wait station.elapsed) (later (number_wait station.own.number) station.waited) station.panel ok
      (rw e (leb-false detection_wait (min detection_wait (station.elapsed.0 + 1)) t)) (omega arith) (λ z. absurd (false≢true (sym z ∙ r))) ok.panel
      (joining_asked e) (rw e) station.waited (later (number_wait station.own.number) station.waited)
  sound_in (ends e t) =
      let ours = ok.ours (rw e) in
      restarted_sound station (missed station.members station.view)
      (next_after station.own.number station.members station.view)
      (cond (is_listed station.members station.view && strikes station.members station.view)
      (without station.view station.gathering)
      station.gathering)
      (ticked station.panel) ok ours
      (missed_kept ok.list station.view)
      (next_station_lem ok.list station.view ours.number (ok.view (rw e)))
      (struck_placed (is_listed station.members station.view) (strikes station.members station.view)
      (eqb station.view station.gathering.source) refl)
      (ticked_shown ok.panel)
  sound_in (runs e t) =
      let most = watch_within station ok (rw e) in
      let more = leb-false (watch_of station) (station.elapsed.0 + 1) t in
      counted_sound station (later longest_watch station.elapsed) station.waited (ticked station.panel) ok (rw e (omega arith)) ok.waited
      ok.unwaited (ticked_shown ok.panel) (λ s. rw e)

  pub tick_sound : Sound (tick_of station).station
  tick_sound = sound_in (tick_cases station)
