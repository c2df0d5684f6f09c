-- Many ticks more are one sum. Assumes nothing.
use Rattle.laws.specs.Usual.{refl, ap, ◌∙◌, ℕ, suc, min, arith}
use Rattle.std.specs.Prelude.{◌≡◌, ◌+◌, ◌≤◌, zero}
use Rattle.panel.specs.declared.Panel.{Panel}
use Rattle.units.specs.declared.Ticks.{Ticks}
use Rattle.ticking_calm.specs.Calm.{later_by, ticked_by}

pub later_by_lem : (most count : ℕ) (ticks : Ticks) → (later_by most (suc count) ticks).0 ≡ min most (ticks.0 + suc count)
later_by_lem most zero ticks = refl
later_by_lem most (suc count) ticks = let less = later_by_lem most count ticks in omega (arith, less)

-- no more than the ticks that came
pub not_above : (most count : ℕ) (ticks : Ticks) → (later_by most count ticks).0 ≤ ticks.0 + count
not_above most zero ticks = omega arith
not_above most (suc count) ticks = let sum = later_by_lem most count ticks in omega (arith, sum)

-- a count that has reached a time stays there
pub not_below : (most count time : ℕ) (ticks : Ticks) → time ≤ ticks.0 → time ≤ most → time ≤ (later_by most count ticks).0
not_below most zero time ticks h m = h
not_below most (suc count) time ticks h m = let sum = later_by_lem most count ticks in omega (arith, sum)

-- the panel counts its ticks likewise
pub ticked_by_lem : (count : ℕ) (panel : Panel)
    → ticked_by count panel ≡ record { takings = panel.takings; running = later_by 65536 count panel.running; gap = panel.gap }
ticked_by_lem zero panel = refl
ticked_by_lem (suc count) panel = rw (ticked_by_lem count panel)

-- what a loop of one tick each would find
pub later_sum : (most count : ℕ) (ticks : Ticks) (sum : ℕ) → (count ≡ 0 → ⊥) → min most (ticks.0 + count) ≡ sum
    → later_by most count ticks ≡ record { 0 = sum }
later_sum most zero ticks sum some e = absurd (some refl)
later_sum most (suc count) ticks sum some e = ap made (later_by_lem most count ticks ∙ e)
  where
    made : ℕ → Ticks
    made n = record { 0 = n }
