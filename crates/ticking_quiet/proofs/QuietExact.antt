-- The ticks that are said to be quiet are: none of them brings news, and the next one does; or no tick ever will. In every state whose watch
-- times, own and listed, are octets, as each is. Assumes nothing.
use Rattle.laws.specs.Usual.{refl, ap, subst, Bool, true, false, cond, not, ℕ, suc, arith}
use Rattle.std.specs.Prelude.{◌≡◌, ◌||◌, ◌+◌, ◌<◌, zero}
use Rattle.members.specs.Members.{nobody, no_members, entry_of, is_listed, with_entry, misses_set, struck, strikes}
use Rattle.members.specs.declared.Entry.{Entry}
use Rattle.station.proofs.Outcomes.TickCases.{tick_cases}
use Rattle.station.specs.Outcomes.TickCases.{TickCases, off, listens, starts, lapses, begins, gives_up, learns, waits, ends, runs}
use Rattle.station.specs.Rules.State.{holds}
use Rattle.station.specs.Rules.Ticking.{Ticking, later, watch_time, tick_of}
use Rattle.station.specs.Rules.Waits.{acceptance_time, number_wait, counts_as}
use Rattle.station.proofs.States.ListKept.{all_nobody, set_either}
use Rattle.station.specs.declared.Station.{Station}
use Rattle.ticking_quiet.specs.Many.{after_ticks}
use Rattle.ticking_quiet.specs.Quiet.{is_news, tick_is_news, Quiet, never, till, Timed, Exactly, quiet_of}
use Rattle.ticking_quiet.proofs.Step.{settings_kept, step, Step, now, later_on, never_on}

module _ (station : Station) where
  -- a tick leaves our watch time as it is
  watch_kept : (tick_of station).station.own.watch ≡ station.own.watch
  watch_kept = by (tick_cases station)
    where
      by : {result : Ticking} → TickCases station result → result.station.own.watch ≡ station.own.watch
      by (off p) = refl
      by (listens p) = refl
      by (starts p t) = (settings_kept station station.elapsed (later acceptance_time station.elapsed)).1
      by (lapses p t) = refl
      by (begins p t) = refl
      by (gives_up p t) = refl
      by (learns p t r) = (settings_kept station station.waited station.waited).1
      by (waits p t r) = (settings_kept station station.waited (later (number_wait station.own.number) station.waited)).1
      by (ends p t) = refl
      by (runs p t) = refl

  module _ (timed : Timed station) where
    -- and the listed times, or leaves fewer of them
    listed_after : (number : ℕ) → (entry_of (tick_of station).station.members number).watch.0 < 256
    listed_after number = by (tick_cases station)
      where
        none : (entry_of no_members number).watch.0 < 256
        none = let empty : (entry_of no_members number).watch.0 ≡ 0 = ap (λ (entry : Entry). entry.watch.0) (all_nobody 256 number) in omega arith

        by : {result : Ticking} → TickCases station result → (entry_of result.station.members number).watch.0 < 256
        by (off p) = timed.listed number
        by (listens p) = timed.listed number
        by (starts p t) = timed.listed number
        by (lapses p t) = none
        by (begins p t) = timed.listed number
        by (gives_up p t) = none
        by (learns p t r) = timed.listed number
        by (waits p t r) = timed.listed number
        by (ends p t) = missed_timed (is_listed station.members station.view) (strikes station.members station.view)
          where
            entry : ℕ → Entry
            entry misses = misses_set misses (entry_of station.members station.view)

            put : (new : Entry) → new.watch.0 < 256 → (entry_of (with_entry station.members station.view new) number).watch.0 < 256
            put new few =
                set_either (λ (there : Entry). there.watch.0 < 256) station.members.entries station.view new number (λ same. few) (timed.listed number)

            missed_timed : (there third : Bool) → (entry_of
                (cond there
                (cond third (struck station.members station.view) (with_entry station.members station.view (entry ((entry_of station.members station.view).misses + 1))))
                station.members) number).watch.0 < 256
            missed_timed true true = put nobody (omega arith)
            missed_timed true false = put (entry ((entry_of station.members station.view).misses + 1)) (timed.listed station.view)
            missed_timed false third = timed.listed number
        by (runs p t) = timed.listed number

    timed_after : Timed (tick_of station).station
    timed_after = record { own = rw watch_kept timed.own; listed = listed_after }

    -- so the watch runs for an octet of milliseconds
    few : (watch_time station).0 < 256
    few = by (holds station || not (is_listed station.members station.view))
      where
        by : (ours : Bool) → (cond ours station.own.watch (counts_as (entry_of station.members station.view).watch)).0 < 256
        by true = timed.own
        by false = omega (arith, timed.listed station.view)

    told : {quiet : Quiet} → quiet_of station ≡ quiet → Step station (tick_of station).station quiet
    told e = subst (Step station (tick_of station).station) e (step station few)

-- what a step says of each answer
stays : {station after : Station} → Step station after never → (is_news station after ≡ false) × (quiet_of after ≡ never)
stays (never_on quiet rest) = (quiet, rest)

comes : {station after : Station} → Step station after (till 0) → is_news station after ≡ true
comes (now news) = news

nears : {station after : Station} {ticks : ℕ} → Step station after (till (suc ticks)) → (is_news station after ≡ false) × (quiet_of after ≡ till ticks)
nears (later_on ticks quiet rest) = (quiet, rest)

never_news : (count : ℕ) (station : Station) → Timed station → quiet_of station ≡ never → tick_is_news (after_ticks count station) ≡ false
never_news zero station timed e = (stays (told station timed e)).0
never_news (suc count) station timed e = never_news count (tick_of station).station (timed_after station timed) (stays (told station timed e)).1

exactly_till : (ticks : ℕ) (station : Station) → Timed station → quiet_of station ≡ till ticks → Exactly station (till ticks)
exactly_till zero station timed e = (λ count h. absurd (omega arith), comes (told station timed e))
exactly_till (suc ticks) station timed e =
    let rest = exactly_till ticks (tick_of station).station (timed_after station timed) (nears (told station timed e)).1 in
    (by rest.0, rest.1)
  where
    by : ((count : ℕ) → count < ticks → tick_is_news (after_ticks count (tick_of station).station) ≡ false)
        → (count : ℕ) → count < suc ticks → tick_is_news (after_ticks count station) ≡ false
    by rest zero h = (nears (told station timed e)).0
    by rest (suc count) h = rest count (omega arith)

pub quiet_exact : (station : Station) → Timed station → Exactly station (quiet_of station)
quiet_exact station timed = by (quiet_of station) refl
  where
    by : (quiet : Quiet) → quiet_of station ≡ quiet → Exactly station quiet
    by never e = λ count. never_news count station timed e
    by (till ticks) e = exactly_till ticks station timed e
