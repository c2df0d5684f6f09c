-- What one tick does to the ticks that are left. Assumes nothing.
use Rattle.laws.specs.Usual.{[], refl, sym, ap, ap₂, ◌∙◌, Bool, true, false, cond, not, false≢true, List, ℕ, suc, min, arith, eqb, leb, ltb}
use Rattle.std.specs.Prelude.{◌≡◌, ◌&&◌, ◌||◌, ◌∷◌, ◌+◌, ◌-◌, ◌<◌, ◌≤◌, zero}
use Rattle.std.proofs.Math.Bool.{and-false}
use Rattle.std.proofs.Common.{le_refl, eq-eqb, eqb-true, le-leb, leb-true, leb-false, ltb-true, ltb-false, lt-ltb, le-ltb}
use Rattle.std.proofs.lemmas.Bool.{lt-leb}
use Rattle.members.specs.Members.{numbers_of}
use Rattle.panel.specs.Panel.{ticked}
use Rattle.station.specs.Rules.Answers.{phase_number}
use Rattle.members.specs.Listing.{bare, overlaps_listed}
use Rattle.station.specs.Rules.Asking.{placed_in}
use Rattle.station.specs.Rules.Starting.{started_up}
use Rattle.station.specs.Rules.State.{counted, fresh}
use Rattle.station.specs.Rules.Ticking.{later, wait_ends, waited_then, falls_due, joining_wait, watch_ended, watch_time, watch_ends, watch_of, ticked_by, tick_of}
use Rattle.station.specs.Rules.Waits.{detection_wait, acceptance_time, number_wait, listening_time, longest_watch}
use Rattle.station.specs.declared.Phase.{Phase}
use Rattle.station.specs.declared.Phase.TheVariants.{Off, Listening, Startup, Joining, Participating}
use Rattle.station.specs.declared.Settings.{Settings}
use Rattle.station.specs.declared.Station.{Station}
use Rattle.units.specs.declared.Ticks.{Ticks}
use Rattle.ticking_quiet.proofs.Alone.{still_alone}
use Rattle.ticking_quiet.specs.Quiet.{is_due, is_news, Quiet, never, till, before, before_request, runs, quiet_in, next_in_view, quiet_of}

-- news now, or later by one tick less, or never still
pub data Step (station after : Station) : Quiet → Type 0 where
  now : is_news station after ≡ true → Step station after (till 0)
  later_on : (ticks : ℕ) → is_news station after ≡ false → quiet_of after ≡ till ticks → Step station after (till (suc ticks))
  never_on : is_news station after ≡ false → quiet_of after ≡ never → Step station after never

module _ (station after : Station) where
  pub no_news : after.phase ≡ station.phase → after.view ≡ station.view → (is_due after ≡ true → is_due station ≡ true) → is_news station after ≡ false
  no_news p v d =
      rw (eq-eqb (phase_number after.phase) (phase_number station.phase) (ap phase_number p), eq-eqb after.view station.view v)
      (by (is_due after) (is_due station) d)
    where
      by : (now before : Bool) → (now ≡ true → before ≡ true) → (now && not before) ≡ false
      by true before f = rw (f refl)
      by false before f = refl

  due_news : is_due after ≡ true → is_due station ≡ false → is_news station after ≡ true
  due_news d n =
      rw (d, n) (by (not (eqb (phase_number after.phase) (phase_number station.phase))) (not (eqb after.view station.view)))
    where
      by : (a b : Bool) → (a || (b || true)) ≡ true
      by true b = refl
      by false true = refl
      by false false = refl

  view_news : eqb after.view station.view ≡ false → is_news station after ≡ true
  view_news v = rw v (by (not (eqb (phase_number after.phase) (phase_number station.phase))))
    where
      by : (a : Bool) → (a || true) ≡ true
      by true = refl
      by false = refl

  phase_news : eqb (phase_number after.phase) (phase_number station.phase) ≡ false → is_news station after ≡ true
  phase_news p = rw p

  -- no frame is due, or none that was not
  none_due : after.phase ≡ station.phase → after.view ≡ station.view → is_due after ≡ false → is_news station after ≡ false
  none_due p v d = no_news p v (λ due. absurd (false≢true (sym d ∙ due)))

  due_before : after.phase ≡ station.phase → after.view ≡ station.view → is_due station ≡ true → is_news station after ≡ false
  due_before p v d = no_news p v (λ _. d)

module _ (station : Station) where
  abbrev elapsed : ℕ
  elapsed = station.elapsed.0

  abbrev waited : ℕ
  waited = station.waited.0

  abbrev wait : ℕ
  wait = number_wait station.own.number

  listening_step : station.phase ≡ Listening → Step station (ticked_by Listening station) (quiet_in Listening (next_in_view station) station)
  listening_step p = by (leb time elapsed) refl (before time elapsed) refl
    where
      time : ℕ
      time = listening_time station.own.number

      after : Station
      after = ticked_by Listening station

      by : (due : Bool) → leb time elapsed ≡ due → (left : ℕ) → before time elapsed ≡ left → Step station after (cond due never (till left))
      by true d left l =
          let h = leb-true time elapsed d in
          let full : min time (elapsed + 1) ≡ time = omega arith in
          never_on (due_before station after refl refl (rw (p, d))) (rw (p, full, le-leb time time (le_refl time)))
      by false d zero l =
          let h = leb-false time elapsed d in
          now (due_news station after (rw p (le-leb time (min time (elapsed + 1)) (omega arith))) (rw (p, d)))
      by false d (suc left) l =
          let h = leb-false time elapsed d in
          let short : min time (elapsed + 1) < time = omega arith in
          later_on left (none_due station after refl refl (rw (p, lt-leb time (min time (elapsed + 1)) short)))
          (rw (p, lt-leb time (min time (elapsed + 1)) short) (ap till (omega arith)))

  -- with one tick more, one tick less is left of each wait, and of the one that ends first
  one_less : (time count : ℕ) → before time (count + 1) ≡ before time count - 1
  one_less time count = omega arith

  less_one : (a b ticks : ℕ) → min a b ≡ suc ticks → min (a - 1) (b - 1) ≡ ticks
  less_one a b ticks e = omega arith

  sooner : (time count time' count' ticks : ℕ) → min (before time count) (before time' count') ≡ suc ticks
      → min (before time (count + 1)) (before time' (count' + 1)) ≡ ticks
  sooner time count time' count' ticks e =
      ap₂ min (one_less time count) (one_less time' count') ∙ less_one (before time count) (before time' count') ticks e

  -- a wait that ends with this tick leaves none before it
  at_once : (awaited : Bool) (request ticks : ℕ) → ticks ≡ 0 → before_request awaited request ticks ≡ 0
  at_once true request ticks e = omega arith
  at_once false request ticks e = omega arith

  -- ring startup goes on, with our settings as they then are
  startup_goes : station.phase ≡ Startup → leb acceptance_time (min acceptance_time (elapsed + 1)) ≡ false
      → (own : Settings) → own.number ≡ station.own.number
      → Step station (counted station own (later acceptance_time station.elapsed) station.waited station.panel) (quiet_in Startup (next_in_view station) station)
  startup_goes p goes own same =
      by station.sent refl (ltb elapsed wait) refl
      (before_request (not station.sent && runs station.own.number station.elapsed) (before wait elapsed) (before acceptance_time elapsed)) refl
    where
      after : Station
      after = counted station own (later acceptance_time station.elapsed) station.waited station.panel

      left : ℕ
      left = before acceptance_time elapsed

      short : elapsed + 1 < acceptance_time
      short = omega (arith, leb-false acceptance_time (min acceptance_time (elapsed + 1)) goes)

      grown : min acceptance_time (elapsed + 1) ≡ elapsed + 1
      grown = omega (arith, short)

      -- our request falls due with this tick
      at_last : (sent : Bool) → station.sent ≡ sent → (more : Bool) → ltb elapsed wait ≡ more
          → before_request (not sent && more) (before wait elapsed) left ≡ 0 → Step station after (till 0)
      at_last true s more r l = absurd (omega (arith, short))
      at_last false s true r l =
          let h = ltb-true elapsed wait r in
          now
          (due_news station after (rw (p, s, same, le-leb wait (min acceptance_time (elapsed + 1)) (omega (arith, short))))
          (rw (p, s, lt-leb wait elapsed h)))
      at_last false s false r l = absurd (omega (arith, short))

      by : (sent : Bool) → station.sent ≡ sent → (more : Bool) → ltb elapsed wait ≡ more
          → (ticks : ℕ) → before_request (not sent && more) (before wait elapsed) left ≡ ticks → Step station after (till ticks)
      by sent s more r zero l = at_last sent s more r l
      by true s more r (suc ticks) l =
          later_on ticks (none_due station after refl refl (rw (p, s) (and-false (leb (number_wait own.number) (min acceptance_time (elapsed + 1))))))
          (rw (p, s) (ap till (omega arith)))
      by false s true r (suc ticks) l =
          let h = ltb-true elapsed wait r in
          let short : min acceptance_time (elapsed + 1) < wait = omega arith in
          later_on ticks (none_due station after refl refl (rw (p, s, same, lt-leb wait (min acceptance_time (elapsed + 1)) short)))
          (rw (p, s, same, lt-ltb (min acceptance_time (elapsed + 1)) wait short, grown)
          (ap till (sooner acceptance_time elapsed wait elapsed ticks l)))
      by false s false r (suc ticks) l =
          let h = ltb-false elapsed wait r in
          let long : wait ≤ min acceptance_time (elapsed + 1) = omega arith in
          later_on ticks (due_before station after refl refl (rw (p, s, le-leb wait elapsed h)))
          (rw (p, s, same, le-ltb (min acceptance_time (elapsed + 1)) wait long) (ap till (omega arith)))

  -- joining goes on
  joining_goes : station.phase ≡ Joining → leb detection_wait (min detection_wait (elapsed + 1)) ≡ false
      → (third : Bool) → eqb station.rounds 3 ≡ third → (own : Settings) → own.number ≡ station.own.number
      → Step station (counted station own (later detection_wait station.elapsed) (cond third (later wait station.waited) station.waited) station.panel)
      (quiet_in Joining (next_in_view station) station)
  joining_goes p goes third t own same =
      by third t (ltb waited wait) refl
      (before_request (eqb station.rounds 3 && runs station.own.number station.waited) (before wait waited) (before detection_wait elapsed)) (rw t)
    where
      after : Bool → Station
      after third = counted station own (later detection_wait station.elapsed) (cond third (later wait station.waited) station.waited) station.panel

      left : ℕ
      left = before detection_wait elapsed

      short : elapsed + 1 < detection_wait
      short = omega (arith, leb-false detection_wait (min detection_wait (elapsed + 1)) goes)

      grown : min detection_wait (elapsed + 1) ≡ elapsed + 1
      grown = omega (arith, short)

      -- our request falls due with this tick
      at_last : (third : Bool) → eqb station.rounds 3 ≡ third → (more : Bool) → ltb waited wait ≡ more
          → before_request (third && more) (before wait waited) left ≡ 0 → Step station (after third) (till 0)
      at_last false t more r l = absurd (omega (arith, short))
      at_last true t true r l =
          let h = ltb-true waited wait r in
          now
          (due_news station (after true) (rw (p, t, same, le-leb wait (min wait (waited + 1)) (omega (arith, short))))
          (rw (p, t, lt-leb wait waited h)))
      at_last true t false r l = absurd (omega (arith, short))

      by : (third : Bool) → eqb station.rounds 3 ≡ third → (more : Bool) → ltb waited wait ≡ more
          → (ticks : ℕ) → before_request (third && more) (before wait waited) left ≡ ticks → Step station (after third) (till ticks)
      by third t more r zero l = at_last third t more r l
      by false t more r (suc ticks) l =
          later_on ticks (none_due station (after false) refl refl (rw (p, t)))
          (rw (p, t, grown) (ap till (omega arith)))
      by true t true r (suc ticks) l =
          let h = ltb-true waited wait r in
          let grows : min wait (waited + 1) ≡ waited + 1 = omega arith in
          let more : waited + 1 < wait = omega arith in
          later_on ticks (none_due station (after true) refl refl (rw (p, t, same, grows, lt-leb wait (waited + 1) more)))
          (rw (p, t, same, grows, lt-ltb (waited + 1) wait more, grown)
          (ap till (sooner detection_wait elapsed wait waited ticks l)))
      by true t false r (suc ticks) l =
          let h = ltb-false waited wait r in
          let full : min wait (waited + 1) ≡ wait = omega arith in
          later_on ticks (due_before station (after true) refl refl (rw (p, t, le-leb wait waited h)))
          (rw (p, t, same, full, le-ltb wait wait (le_refl wait), grown) (ap till (omega arith)))

  -- our number and our watch time stay, whatever falls due
  pub settings_kept : (count count' : Ticks)
      → ((falls_due station count count').number ≡ station.own.number) × ((falls_due station count count').watch ≡ station.own.watch)
  settings_kept count count' = by (wait_ends station.own.number count count') (overlaps_listed station.members station.own.areas)
    where
      due : Bool → Bool → Settings
      due ends overlap =
          cond ends
          (cond overlap (record { number = station.own.number; areas = bare station.own.areas; watch = station.own.watch }) station.own)
          station.own

      by : (ends overlap : Bool) → ((due ends overlap).number ≡ station.own.number) × ((due ends overlap).watch ≡ station.own.watch)
      by true true = (refl, refl)
      by true false = (refl, refl)
      by false overlap = (refl, refl)

  startup_step : station.phase ≡ Startup → Step station (ticked_by Startup station) (quiet_in Startup (next_in_view station) station)
  startup_step p = by (leb acceptance_time (min acceptance_time (elapsed + 1))) refl
    where
      ended : (numbers : List ℕ) → is_news station (started_up station.own station.members numbers) ≡ true
      ended [] = phase_news station (started_up station.own station.members []) (rw p)
      ended (number ∷ rest) = phase_news station (started_up station.own station.members (number ∷ rest)) (rw p)

      by : (ends : Bool) → leb acceptance_time (min acceptance_time (elapsed + 1)) ≡ ends
          → Step station
          (cond ends
          (started_up station.own station.members (numbers_of station.members))
          (counted station (falls_due station station.elapsed (later acceptance_time station.elapsed)) (later acceptance_time station.elapsed) station.waited station.panel))
          (quiet_in Startup (next_in_view station) station)
      by true e =
          let h = leb-true acceptance_time (min acceptance_time (elapsed + 1)) e in
          rw (at_once (not station.sent && runs station.own.number station.elapsed) (before wait elapsed) (before acceptance_time elapsed) (omega arith))
          (now (ended (numbers_of station.members)))
      by false e =
          startup_goes p e (falls_due station station.elapsed (later acceptance_time station.elapsed))
          (settings_kept station.elapsed (later acceptance_time station.elapsed)).0

  joining_step : station.phase ≡ Joining → Step station (ticked_by Joining station) (quiet_in Joining (next_in_view station) station)
  joining_step p = by (leb detection_wait (min detection_wait (elapsed + 1))) refl
    where
      counts : Ticks
      counts = waited_then station.own.number station.rounds station.waited

      by : (ends : Bool) → leb detection_wait (min detection_wait (elapsed + 1)) ≡ ends
          → Step station (cond ends (fresh Listening station.own) (joining_wait station (later detection_wait station.elapsed) counts))
          (quiet_in Joining (next_in_view station) station)
      by true e =
          let h = leb-true detection_wait (min detection_wait (elapsed + 1)) e in
          rw (at_once (eqb station.rounds 3 && runs station.own.number station.waited) (before wait waited) (before detection_wait elapsed) (omega arith))
          (now (phase_news station (fresh Listening station.own) (rw p)))
      by false e =
          joining_goes p e (eqb station.rounds 3) refl (falls_due station station.waited counts) (settings_kept station.waited counts).0

  module _ (p : station.phase ≡ Participating) (few : (watch_time station).0 < 256) where
    -- the watch ends, and the view stays: we hold and are alone
    alone_ended : next_in_view station ≡ station.view → Step station (watch_ended station) never
    alone_ended same =
        never_on (no_news station (watch_ended station) (sym p) same (λ due. rw p (by (eqb station.view station.own.number) (rw same at due))))
        (rw (same, still_alone station.own.number station.view station.members same, eq-eqb station.view station.view refl))
      where
        by : (held : Bool)
            → (held && placed_in station.own.areas (cond held station.block 0)) ≡ true → (held && placed_in station.own.areas station.block) ≡ true
        by true due = due
        by false due = due

    abbrev running : Station
    running = counted station station.own (later longest_watch station.elapsed) station.waited (ticked station.panel)

    no_news_running : is_news station running ≡ false
    no_news_running = no_news station running refl refl (λ due. rw p (rw p at due))

    participant_step : Step station (ticked_by Participating station) (quiet_in Participating (next_in_view station) station)
    participant_step = by (watch_ends station) refl (eqb (next_in_view station) station.view) refl (before (watch_of station) elapsed) refl
      where
        by : (ends : Bool) → watch_ends station ≡ ends → (alone : Bool) → eqb (next_in_view station) station.view ≡ alone
            → (left : ℕ) → before (watch_of station) elapsed ≡ left → Step station (cond ends (watch_ended station) running) (cond alone never (till left))
        by true e true a left l = alone_ended (eqb-true (next_in_view station) station.view a)
        by true e false a zero l = now (view_news station (watch_ended station) a)
        by true e false a (suc left) l = absurd (omega (arith, leb-true (watch_of station) (elapsed + 1) e))
        by false e true a left l = never_on no_news_running (rw (p, a))
        by false e false a zero l = absurd (omega (arith, leb-false (watch_of station) (elapsed + 1) e))
        by false e false a (suc left) l =
            let h = leb-false (watch_of station) (elapsed + 1) e in
            let grown : min longest_watch (elapsed + 1) ≡ elapsed + 1 = omega arith in
            later_on left no_news_running (rw (p, a, grown) (ap till (omega arith)))

  pub step : (watch_time station).0 < 256 → Step station (tick_of station).station (quiet_of station)
  step few = by station.phase refl
    where
      by : (phase : Phase) → station.phase ≡ phase → Step station (ticked_by phase station) (quiet_in phase (next_in_view station) station)
      by Off p = never_on (no_news station station refl refl (λ due. due)) (rw p)
      by Listening p = listening_step p
      by Startup p = startup_step p
      by Joining p = joining_step p
      by Participating p = participant_step p few
