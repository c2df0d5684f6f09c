-- A participant that holds and is alone: whenever its watch ends, it is its own next, and the watch restarts. Its ticks go round its watch. Assumes
-- nothing.
use Rattle.laws.specs.Usual.{refl, sym, ap, ◌∙◌, Bool, true, false, not, false≢true, ℕ, suc, min, arith, eqb, leb}
use Rattle.std.specs.Prelude.{◌≡◌, ◌&&◌, ◌+◌, ◌*◌, ◌/◌, ◌%◌, ◌<◌, ◌≤◌, zero}
use Rattle.std.proofs.Common.{div-add-mod', mod-lt, mod-eq_of_lt, suc-mul, eqb-true, eq-eqb, ltb-true, leb-true, leb-false}
use Rattle.std.proofs.lemmas.Bool.{not-true}
use Rattle.std.proofs.Math.Arith.{digits_mod}
use Rattle.laws.specs.Tests.{first, second}
use Rattle.members.specs.Members.{is_listed, next_after}
use Rattle.station.specs.Rules.State.{is_participating, holds, counted}
use Rattle.station.specs.Rules.Ticking.{watch_time, watch_of, tick_of}
use Rattle.station.specs.Rules.Waits.{longest_watch}
use Rattle.station.specs.declared.Phase.{Phase}
use Rattle.station.specs.declared.Phase.TheVariants.{Off, Listening, Startup, Joining, Participating}
use Rattle.station.specs.declared.Station.{Station}
use Rattle.ticking_quiet.specs.Many.{after_ticks}
use Rattle.ticking_quiet.proofs.ManyLaws.{one_more}
use Rattle.ticking_calm.specs.Calm.{counts_of, with_counts}
use Rattle.ticking_jump.specs.Jump.{is_alone, in_time, round_after}

abbrev pub alone_after : ℕ → Station → Station
alone_after count station = with_counts station (round_after (watch_time station) (counts_of station) count)

-- one tick more around: the watch ends, or not
module _ (watch elapsed count : ℕ) (some : 0 < watch) where
  abbrev place : ℕ
  place = (elapsed + count) % watch

  abbrev rounds : ℕ
  rounds = (elapsed + count) / watch

  parts : rounds * watch + place ≡ elapsed + count
  parts = div-add-mod' (elapsed + count) watch

  ended : watch ≤ place + 1 → (elapsed + suc count) % watch ≡ 0
  ended h =
      let below = mod-lt (elapsed + count) some in
      let full : elapsed + suc count ≡ (rounds * watch + watch) + 0 = omega (arith, parts, below) in
      let more : elapsed + suc count ≡ suc rounds * watch + 0 = full ∙ ap (λ (n : ℕ). n + 0) (sym (suc-mul rounds watch)) in
      ap (λ (n : ℕ). n % watch) more ∙ digits_mod (suc rounds) some

  goes_on : place + 1 < watch → (elapsed + suc count) % watch ≡ place + 1
  goes_on h =
      let more : elapsed + suc count ≡ rounds * watch + (place + 1) = omega (arith, parts) in
      ap (λ (n : ℕ). n % watch) more ∙ digits_mod rounds h

-- what is known of a station that is alone
module _ (station : Station) (alone : (is_alone station && in_time (watch_time station) (counts_of station)) ≡ true) where
  abbrev ours : ℕ
  ours = station.own.number

  abbrev held : Bool
  held = is_participating station.phase && holds station

  abbrev nobody_else : Bool
  nobody_else = eqb (next_after ours station.members ours) ours && not (is_listed station.members ours)

  left_alone : (held && nobody_else) ≡ true
  left_alone = first (held && nobody_else) (in_time (watch_time station) (counts_of station)) alone

  participates : station.phase ≡ Participating
  participates = by station.phase (first (is_participating station.phase) (holds station) (first held nobody_else left_alone))
    where
      by : (phase : Phase) → is_participating phase ≡ true → phase ≡ Participating
      by Off e = absurd (false≢true e)
      by Listening e = absurd (false≢true e)
      by Startup e = absurd (false≢true e)
      by Joining e = absurd (false≢true e)
      by Participating e = refl

  views_itself : station.view ≡ ours
  views_itself = eqb-true station.view ours (second (is_participating station.phase) (holds station) (first held nobody_else left_alone))

  own_next : next_after ours station.members ours ≡ ours
  own_next = eqb-true (next_after ours station.members ours) ours (first (eqb (next_after ours station.members ours) ours) (not (is_listed station.members ours)) (second held nobody_else left_alone))

  not_listed : is_listed station.members ours ≡ false
  not_listed = not-true (is_listed station.members ours) (second (eqb (next_after ours station.members ours) ours) (not (is_listed station.members ours)) (second held nobody_else left_alone))

  short : station.elapsed.0 < watch_of station
  short = ltb-true station.elapsed.0 (watch_of station) (second (held && nobody_else) (in_time (watch_time station) (counts_of station)) alone)

  -- it holds, so its watch runs for its own time
  pub own_time : watch_time station ≡ station.own.watch
  own_time = rw (second (is_participating station.phase) (holds station) (first held nobody_else left_alone))

  module _ (few : (watch_time station).0 < 256) where
    abbrev turn : ℕ → ℕ
    turn count = (station.elapsed.0 + count) % watch_of station

    alone_tick : (count : ℕ) → (tick_of (alone_after count station)).station ≡ alone_after (suc count) station
    alone_tick count = by (leb (watch_of station) (turn count + 1)) refl
      where
        some : 0 < watch_of station
        some = omega (arith, short)

        by : (ends : Bool) → leb (watch_of station) (turn count + 1) ≡ ends → (tick_of (alone_after count station)).station ≡ alone_after (suc count) station
        by true e =
            rw (
              participates,
              e,
              ended (watch_of station) station.elapsed.0 count some (leb-true (watch_of station) (turn count + 1) e),
              views_itself,
              own_next,
              not_listed,
              eq-eqb ours ours refl,
            )
        by false e =
            let below = leb-false (watch_of station) (turn count + 1) e in
            let within : min longest_watch (turn count + 1) ≡ turn count + 1 = omega (arith, below) in
            rw (participates, e, within, goes_on (watch_of station) station.elapsed.0 count some below)

    pub alone_ticks : (count : ℕ) → after_ticks count station ≡ alone_after count station
    alone_ticks zero =
        let none : station.elapsed.0 + 0 ≡ station.elapsed.0 = omega arith in
        let start : turn 0 ≡ station.elapsed.0 = ap (λ (n : ℕ). n % watch_of station) none ∙ mod-eq_of_lt short in
        ap (λ (n : ℕ). counted station station.own (record { 0 = n }) station.waited station.panel) (sym start)
    alone_ticks (suc count) =
        sym (one_more count station) ∙ ap (λ (s : Station). (tick_of s).station) (alone_ticks count) ∙ alone_tick count
