-- To jump over ticks is to make them. Assumes nothing.
use Rattle.std.specs.Prelude.{◌≡◌, ◌&&◌, ◌+◌, ◌-◌, ◌<◌, ◌≤◌}
use Rattle.laws.specs.Usual.{refl, sym, ap, ◌∙◌, Bool, true, false, cond, ℕ, suc, arith}
use Rattle.std.proofs.Common.{le_refl}
use Rattle.station.specs.Rules.Ticking.{watch_time, tick_of}
use Rattle.station.specs.declared.Station.{Station}
use Rattle.ticking_quiet.specs.Many.{after_ticks}
use Rattle.ticking_quiet.proofs.ManyLaws.{one_more, some_more}
use Rattle.ticking_calm.specs.Calm.{counts_of, with_counts, calm_of}
use Rattle.ticking_calm.specs.CalmTicks.{calm_few, calm_ticks}
use Rattle.ticking_jump.specs.declared.Jumped.{Jumped}
use Rattle.ticking_jump.specs.Jump.{is_alone, in_time, skipped, round_after, jump_of}
use Rattle.ticking_jump.specs.Alone.{own_time, alone_ticks}

-- no more ticks are left than there were, and the station with the counts is the one after the others
abbrev pub Jumps : Station → ℕ → Jumped → Type 0
Jumps station count jumped = (jumped.ticks ≤ count) × (with_counts station jumped.counts ≡ after_ticks (count - jumped.ticks) station)

pub jump_ticks : (station : Station) (count : ℕ) → station.own.watch.0 < 256 → Jumps station count (jump_of station count)
jump_ticks station count few = by (is_alone station && in_time (watch_time station) (counts_of station)) refl
  where
    by : (alone : Bool) → (is_alone station && in_time (watch_time station) (counts_of station)) ≡ alone
        → Jumps station count
        (cond alone
        (record { counts = round_after (watch_time station) (counts_of station) count; ticks = 0 })
        (skipped station.phase station.own.number (watch_time station) station.rounds (counts_of station) count))
    by true e =
        let all : count ≡ count - 0 = omega arith in
        let short : (watch_time station).0 < 256 = rw (own_time station e) few in
        (omega arith, sym (alone_ticks station e short count) ∙ ap (λ (n : ℕ). after_ticks n station) all)
    by false e =
        let calm = calm_of station count in
        let same : calm ≡ count - (count - calm) = omega (arith, calm_few station.phase station.own.number (watch_time station) station.rounds station.elapsed station.waited count) in
        (omega arith, sym (calm_ticks station count calm (le_refl calm)) ∙ ap (λ (n : ℕ). after_ticks n station) same)

-- a loop that jumps over some of the ticks that are left, but not the last, and makes the next: the others lead where all of them did
pub tick_on : (station before after : Station) (left still : ℕ) → 0 < left → still ≤ left - 1
    → before ≡ after_ticks (left - 1 - still) station → after ≡ (tick_of before).station → after_ticks still after ≡ after_ticks left station
tick_on station before after left still some few jumped ticked =
    let passed = left - 1 - still in
    let all : suc passed + still ≡ left = omega arith in
    ap (after_ticks still) (ticked ∙ ap (λ (s : Station). (tick_of s).station) jumped ∙ one_more passed station)
    ∙ some_more (suc passed) still station
    ∙ ap (λ (n : ℕ). after_ticks n station) all
