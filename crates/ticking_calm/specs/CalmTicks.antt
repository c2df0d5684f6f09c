-- Ticks that only count leave the counts that are said. Assumes nothing.
use Rattle.laws.specs.Usual.{refl, sym, ap, ◌∙◌, Bool, true, false, cond, false≢true, ℕ, suc, min, arith, eqb, leb, ltb}
use Rattle.std.specs.Prelude.{◌≡◌, ◌&&◌, ◌+◌, ◌<◌, ◌≤◌, zero}
use Rattle.std.proofs.Math.Bool.{and-false}
use Rattle.std.proofs.Common.{le_refl, le-ltb, ltb-true, ltb-false}
use Rattle.std.proofs.lemmas.Bool.{lt-leb}
use Rattle.station.specs.Rules.State.{counted}
use Rattle.station.specs.Rules.Ticking.{later, wait_ends, watch_time, watch_of, ticked_by, tick_of}
use Rattle.station.specs.Rules.Waits.{detection_wait, acceptance_time, number_wait, longest_watch}
use Rattle.station.specs.declared.Phase.{Phase}
use Rattle.station.specs.declared.Phase.TheVariants.{Off, Listening, Startup, Joining, Participating}
use Rattle.station.specs.declared.Station.{Station}
use Rattle.units.specs.declared.Milliseconds.{Milliseconds}
use Rattle.units.specs.declared.Ticks.{Ticks}
use Rattle.ticking_quiet.specs.Many.{after_ticks}
use Rattle.ticking_quiet.proofs.ManyLaws.{one_more}
use Rattle.ticking_quiet.specs.Quiet.{before, before_request}
use Rattle.ticking_calm.specs.Calm.{calm_in, later_by, counts_after, counts_of, with_counts, calm_of, calm_after}
use Rattle.ticking_calm.specs.Sums.{not_above, not_below}

-- a tick up to a limit does not end the wait for our number, where it has ended before or goes on
runs_on : (number most count : ℕ) (ticks : Ticks) (more : Bool) → ltb ticks.0 (number_wait number) ≡ more
    → (more ≡ true → ticks.0 + count + 1 < number_wait number) → (more ≡ false → number_wait number ≤ most)
    → wait_ends number (later_by most count ticks) (later most (later_by most count ticks)) ≡ false
runs_on number most count ticks true r f g =
    let sum = not_above most count ticks in
    let short = f refl in
    rw (lt-leb (number_wait number) (min most ((later_by most count ticks).0 + 1)) (omega (arith, sum, short)))
    (and-false (ltb (later_by most count ticks).0 (number_wait number)))
runs_on number most count ticks false r f g =
    let h = ltb-false ticks.0 (number_wait number) r in
    rw (le-ltb (later_by most count ticks).0 (number_wait number) (not_below most count (number_wait number) ticks h (g refl)))

-- a wait that does not run does not end
stands : (number : ℕ) (ticks : Ticks) → wait_ends number ticks ticks ≡ false
stands number ticks = by (ltb ticks.0 (number_wait number)) refl
  where
    by : (more : Bool) → ltb ticks.0 (number_wait number) ≡ more → (more && leb (number_wait number) ticks.0) ≡ false
    by true r = lt-leb (number_wait number) ticks.0 (ltb-true ticks.0 (number_wait number) r)
    by false r = refl

module _ (station : Station) (count i : ℕ) where
  abbrev number : ℕ
  number = station.own.number

  abbrev CountsOn : Phase → Type 0
  CountsOn phase =
      ticked_by phase (with_counts station (counts_after phase station.own.number station.rounds i (counts_of station)))
      ≡ with_counts station (counts_after phase station.own.number station.rounds (suc i) (counts_of station))

  abbrev calm : Phase → ℕ
  calm phase = calm_in phase station.own.number (watch_time station) station.rounds station.elapsed station.waited count

  participant_on : i < calm Participating → CountsOn Participating
  participant_on h =
      let sum = not_above longest_watch i station.elapsed in
      rw (lt-leb (watch_of station) ((later_by longest_watch i station.elapsed).0 + 1) (omega (arith, sum)))

  startup_on : i < calm Startup → CountsOn Startup
  startup_on = by (ltb station.elapsed.0 (number_wait number)) refl
    where
      by : (more : Bool) → ltb station.elapsed.0 (number_wait number) ≡ more
          → i < min count (before_request more (before (number_wait number) station.elapsed.0) (before acceptance_time station.elapsed.0))
          → CountsOn Startup
      by more r h =
          let sum = not_above acceptance_time i station.elapsed in
          let short : station.elapsed.0 + i + 1 < acceptance_time = ends more h in
          rw (
            lt-leb acceptance_time (min acceptance_time ((later_by acceptance_time i station.elapsed).0 + 1)) (omega (arith, sum, short)),
            runs_on number acceptance_time i station.elapsed more r (goes more h) (over more r short),
          )
        where
          ends : (more : Bool) → i < min count (before_request more (before (number_wait number) station.elapsed.0) (before acceptance_time station.elapsed.0))
              → station.elapsed.0 + i + 1 < acceptance_time
          ends true h = omega arith
          ends false h = omega arith

          goes : (more : Bool) → i < min count (before_request more (before (number_wait number) station.elapsed.0) (before acceptance_time station.elapsed.0))
              → more ≡ true → station.elapsed.0 + i + 1 < number_wait number
          goes true h e = omega arith
          goes false h e = absurd (false≢true e)

          over : (more : Bool) → ltb station.elapsed.0 (number_wait number) ≡ more → station.elapsed.0 + i + 1 < acceptance_time
              → more ≡ false → number_wait number ≤ acceptance_time
          over true r short e = absurd (false≢true (sym e))
          over false r short e = let long = ltb-false station.elapsed.0 (number_wait number) r in omega arith

  joining_on : i < calm Joining → CountsOn Joining
  joining_on = by (eqb station.rounds 3) refl (ltb station.waited.0 (number_wait number)) refl
    where
      by : (third : Bool) → eqb station.rounds 3 ≡ third → (more : Bool) → ltb station.waited.0 (number_wait number) ≡ more
          → i < min count (before_request (third && more) (before (number_wait number) station.waited.0) (before detection_wait station.elapsed.0))
          → CountsOn Joining
      by third t more r h = on third t more r h (omega (arith, sum, ends (third && more) h))
        where
          sum : (later_by detection_wait i station.elapsed).0 ≤ station.elapsed.0 + i
          sum = not_above detection_wait i station.elapsed

          ends : (awaited : Bool) → i < min count (before_request awaited (before (number_wait number) station.waited.0) (before detection_wait station.elapsed.0))
              → station.elapsed.0 + i + 1 < detection_wait
          ends true h = omega arith
          ends false h = omega arith

          goes : (more : Bool) → i < min count (before_request more (before (number_wait number) station.waited.0) (before detection_wait station.elapsed.0))
              → more ≡ true → station.waited.0 + i + 1 < number_wait number
          goes true h e = omega arith
          goes false h e = absurd (false≢true e)

          on : (third : Bool) → eqb station.rounds 3 ≡ third → (more : Bool) → ltb station.waited.0 (number_wait number) ≡ more
              → i < min count (before_request (third && more) (before (number_wait number) station.waited.0) (before detection_wait station.elapsed.0))
              → min detection_wait ((later_by detection_wait i station.elapsed).0 + 1) < detection_wait
              → CountsOn Joining
          on true t more r h short =
              rw (
                t,
                lt-leb detection_wait (min detection_wait ((later_by detection_wait i station.elapsed).0 + 1)) short,
                runs_on number (number_wait number) i station.waited more r (goes more h) (λ _. le_refl (number_wait number)),
              )
          on false t more r h short =
              rw (t, lt-leb detection_wait (min detection_wait ((later_by detection_wait i station.elapsed).0 + 1)) short, stands number station.waited)

  calm_tick : i < calm_of station count → (tick_of (calm_after i station)).station ≡ calm_after (suc i) station
  calm_tick = by station.phase
    where
      by : (phase : Phase) → i < calm phase → CountsOn phase
      by Off h = refl
      by Listening h = refl
      by Startup h = startup_on h
      by Joining h = joining_on h
      by Participating h = participant_on h

-- no tick changes nothing
none : (station : Station) → station ≡ calm_after 0 station
none station = by station.phase
  where
    waits : (third : Bool) → station.waited ≡ cond third station.waited station.waited
    waits true = refl
    waits false = refl

    by : (phase : Phase) → station ≡ with_counts station (counts_after phase station.own.number station.rounds 0 (counts_of station))
    by Off = refl
    by Listening = refl
    by Startup = refl
    by Joining = ap (λ (ticks : Ticks). counted station station.own station.elapsed ticks station.panel) (waits (eqb station.rounds 3))
    by Participating = refl

pub calm_ticks : (station : Station) (count ticks : ℕ) → ticks ≤ calm_of station count → after_ticks ticks station ≡ calm_after ticks station
calm_ticks station count zero h = none station
calm_ticks station count (suc ticks) h =
    sym (one_more ticks station)
    ∙ ap (λ (s : Station). (tick_of s).station) (calm_ticks station count ticks (omega arith))
    ∙ calm_tick station count ticks (omega arith)

-- no more of them than were asked about
pub calm_few : (phase : Phase) (number : ℕ) (time : Milliseconds) (rounds : ℕ) (elapsed waited : Ticks) (count : ℕ)
    → calm_in phase number time rounds elapsed waited count ≤ count
calm_few Off number time rounds elapsed waited count = le_refl count
calm_few Listening number time rounds elapsed waited count = le_refl count
calm_few Startup number time rounds elapsed waited count = omega arith
calm_few Joining number time rounds elapsed waited count = omega arith
calm_few Participating number time rounds elapsed waited count = omega arith
