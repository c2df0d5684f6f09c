-- The panel's counters, which stop at 65,536 ticks and at 2 takings, against the plain times of the takings. Assumes nothing.
use Rattle.std.specs.Prelude.{◌≡◌, ◌∷◌, ◌-◌, ◌≤◌}
use Rattle.laws.specs.Usual.{[], List, ℕ, min}
use Rattle.panel.specs.declared.Panel.{Panel}
use Rattle.station.specs.Panel.History.{takings}

-- the counters at a time, with one taking or more behind us
pub record Running (now last : ℕ) (panel : Panel) : Type 0 where
  pub past : last ≤ now
  pub running : panel.running.0 ≡ min 65536 (now - last)

-- the counters at a time, after takings at these times, the latest first
abbrev pub Counts : ℕ → List ℕ → Panel → Type 0
Counts now [] panel = panel.takings ≡ 0
Counts now (last ∷ []) panel = (panel.takings ≡ 1) × Running now last panel
Counts now (last ∷ previous ∷ rest) panel = (panel.takings ≡ 2) × Running now last panel × (panel.gap.0 ≡ min 65536 (last - previous))

-- the times of takings, the latest first, none later than now: so a gap is the one time less the other, and nothing is cut off at 0
abbrev pub Falling : ℕ → List ℕ → Type 0
Falling now [] = Unit
Falling now (last ∷ earlier) = (last ≤ now) × Falling last earlier
