-- What is proved of the definitions in specs/WatchTold.antt.
use Rattle.std.specs.Prelude.{◌≡◌, ◌&&◌, ◌||◌, ◌∷◌, ◌+◌, ◌*◌}
use Rattle.laws.specs.Usual.{[], refl, sym, ap, ◌∙◌, Bool, true, false, not, false≢true, List, ℕ, arith, leb}
use Rattle.std.proofs.Common.{add-one, leb-false}
use Rattle.frame.specs.Codes.{is_cyclic}
use Rattle.frame_reading.specs.Reading.{read_of}
use Rattle.frame_round_trip.proofs.Accepted.{reads}
use Rattle.station.specs.Rules.Calls.{Call, start, stop, tick, hear, ask, after, heard_verdict, asked_verdict}
use Rattle.station.specs.Rules.Hearing.{Hearing}
use Rattle.station.specs.Panel.History.{Step, step_of, steps_on, history, state_after, participates, is_tick}
use Rattle.station.proofs.States.KeepsTicking.{watch_within}
use Rattle.station.proofs.States.Sound.{kept, sound}
use Rattle.station.specs.States.Reachable.{unstarted, Sound}
use Rattle.station.specs.States.Reached.{AllTyped}
use Rattle.station.specs.Rules.State.{never}
use Rattle.station.proofs.Outcomes.SwitchCases.{switched_to, start_cases, stop_cases}
use Rattle.station.specs.Rules.Ticking.{watch_of, watch_ends, Ticking}
use Rattle.station.specs.declared.Station.{Station}
use Rattle.station.specs.Rules.Asking.{Asking}
use Rattle.misses.specs.MissHistory.{is_unrefused, reads_as, hears}
use Rattle.misses.specs.WatchHistory.{sends, restarts, milliseconds, ends_after, run_after, watch_run}
use Rattle.misses.specs.WatchTold.{Runs, Told}
use Rattle.misses.proofs.WatchTime.{same_time}
use Rattle.station.proofs.Outcomes.AskCases as on_asking_told
use Rattle.station.proofs.Outcomes.HearCases as on_hearing_told
use Rattle.station.proofs.Outcomes.TickCases as on_tick_told
use Rattle.station.specs.Outcomes.AskCases as on_asking
use Rattle.station.specs.Outcomes.HearCases as on_hearing
use Rattle.station.specs.Outcomes.TickCases as on_tick

module _ {station left : Station} {restarted ticks : Bool} where
  -- nothing is asked of whoever does not participate after it
  out : participates left ≡ false → Runs station restarted ticks left
  out e = record { run = λ inside. absurd (false≢true (sym e ∙ inside)) }

  goes : left.elapsed.0 ≡ run_after restarted ticks (ends_after (milliseconds station) station.elapsed.0) station.elapsed.0
      → Runs station restarted ticks left
  goes e = record { run = λ inside. e }

-- where nothing is done the watch is as it was
still : (station : Station) → Runs station (not (participates station) || false) false station
still station = record { run = by (participates station) }
  where
    by : (inside : Bool) → inside ≡ true
        → station.elapsed.0 ≡ run_after (not inside || false) false (ends_after (milliseconds station) station.elapsed.0) station.elapsed.0
    by true e = refl
    by false e = absurd (false≢true e)

-- a tick ends the watch where the history says
same_end : (station : Station) → watch_ends station ≡ ends_after (milliseconds station) station.elapsed.0
same_end station = ap (λ (time : ℕ). leb (time * 10) (station.elapsed.0 + 1)) (same_time station) ∙ ap (leb _) (add-one station.elapsed.0)

tick_runs : {station : Station} {result : Ticking} → Sound station → on_tick.TickCases station result
    → Runs station (not (participates station) || false) true result.station
tick_runs ok (on_tick.off e) = out (rw e)
tick_runs ok (on_tick.listens e) = out (rw e)
tick_runs ok (on_tick.starts e t) = out (rw e)
tick_runs ok (on_tick.lapses e t) = out refl
tick_runs ok (on_tick.begins e t) = goes (rw e)
tick_runs ok (on_tick.gives_up e t) = out refl
tick_runs ok (on_tick.learns e t r) = out (rw e)
tick_runs ok (on_tick.waits e t r) = out (rw e)
tick_runs {station} ok (on_tick.ends e t) = goes (rw (e, ← same_end station, t))
tick_runs {station} ok (on_tick.runs e t) =
    let most = watch_within station ok (rw e) in
    let below = leb-false (watch_of station) (station.elapsed.0 + 1) t in
    goes (rw (e, ← same_end station, t) (omega arith))

hear_runs : {station : Station} {octets memory assembly : List ℕ} {result : Hearing} → on_hearing.HearCases station octets memory assembly result
    → Runs station
    (not (participates station) || ((is_unrefused (heard_verdict result.answer) && reads_as (λ frame. is_cyclic frame.code) (read_of octets)) || false))
    false result.station
hear_runs {station} (on_hearing.refuses refusal) = still station
hear_runs (on_hearing.turns_off before) = out refl
hear_runs (on_hearing.gathers frame from parts) = goes (rw (from.participates, reads (on_hearing_told.whole_of from.accepts), from.cyclic))
hear_runs {station} {octets} (on_hearing.heeds frame facts entered) =
    let read = reads (on_hearing_told.whole_of facts) in
    on_hearing_told.entering {station = station} {frame = frame}
    (λ left answer. Runs station
    (not (participates station) || ((is_unrefused (heard_verdict answer) && reads_as (λ frame. is_cyclic frame.code) (read_of octets)) || false))
    false left)
    (λ e. out (rw e)) (λ e c. out refl) (λ e c. out refl) (λ e c. out (on_hearing_told.awaits_outside e)) (λ e c. out refl)
    (λ e c. rw (read, c) (record { run = (still station).run })) (λ e. rw (read, on_hearing_told.unnamed_plain e) (still station)) entered

ask_runs : {station : Station} {memory turn output : List ℕ} {result : Asking} → on_asking.AskCases station memory turn output result
    → Runs station (not (participates station) || is_unrefused (asked_verdict result.answer)) false result.station
ask_runs {station} (on_asking.refuses refusal) = still station
ask_runs (on_asking.sends lent is (on_asking.triggers e due)) = out refl
ask_runs (on_asking.sends lent is (on_asking.requests e fallen)) = out (rw e)
ask_runs (on_asking.sends lent is (on_asking.begins e fallen)) = goes (rw e)
ask_runs (on_asking.sends lent is (on_asking.passes e held placed)) = goes (rw e)

runs : (station : Station) (call : Call) → Sound station → Runs station (restarts station call) (is_tick call) (after station call)
runs station (start own) ok =
    switched_to (Runs station (not (participates station) || false) false) (start_cases station own) (still station) (λ starts. out refl)
runs station stop ok = switched_to (Runs station (not (participates station) || false) false) (stop_cases station) (still station) (λ on. out refl)
runs station tick ok = tick_runs ok (on_tick_told.tick_cases station)
runs station (hear octets memory assembly) ok = hear_runs (on_hearing_told.hear_cases station octets memory assembly)
runs station (ask memory turn output) ok = ask_runs (on_asking_told.ask_cases station memory turn output)

told_step : (steps : List Step) (station : Station) (call : Call) → Sound station → Told steps station → Told (step_of station call ∷ steps) (after station call)
told_step steps station call ok told e = (runs station call ok).run e ∙ by (participates station) refl
  where
    other : Bool
    other = hears (λ frame. is_cyclic frame.code) station call || sends station call

    by : (inside : Bool) → participates station ≡ inside
        → run_after (not inside || other) (is_tick call) (ends_after (milliseconds station) station.elapsed.0) station.elapsed.0
        ≡ run_after (not inside || other) (is_tick call) (ends_after (milliseconds station) (watch_run steps)) (watch_run steps)
    by true p = ap (λ (run : ℕ). run_after other (is_tick call) (ends_after (milliseconds station) run) run) (told p)
    by false p = refl

told_on : (calls : List Call) (steps : List Step) (station : Station) → AllTyped calls → Sound station → Told steps station
    → Told (steps_on steps station calls) (state_after station calls)
told_on [] steps station typed ok told = told
told_on (call ∷ rest) steps station typed ok told =
    told_on rest (step_of station call ∷ steps) (after station call) typed.1 (kept station call typed.0 ok) (told_step steps station call ok told)

-- For every list of calls since a station was made, a tick ends a participant's watch just where it is at least the tenth for each millisecond,
-- as list and view then stand, since the watch last restarted.
pub watch_told : (calls : List Call) → AllTyped calls → participates (state_after never calls) ≡ true
    → watch_ends (state_after never calls) ≡ ends_after (milliseconds (state_after never calls)) (watch_run (history never calls))
watch_told calls typed inside =
    same_end (state_after never calls)
    ∙ ap (ends_after (milliseconds (state_after never calls))) (told_on calls [] never typed (sound never unstarted) (λ e. absurd (false≢true e)) inside)
