-- What an event does to one view, by cases, in a ring with the laws of next.
use Rattle.laws.specs.Usual.{List, ℕ}
use Rattle.std.specs.Prelude.{◌≡◌, ◌<◌, ◌≤◌, ◌⊎◌}
use mathlib.Core.List.Memᴰ
use Rattle.settling.specs.Ring.{next, view_after_pass}

-- a pass by x leaves the view u, which is below x, as it is; or it takes u to the destination
abbrev pub PassCase : List ℕ → ℕ → ℕ → Type 0
PassCase ns x u = ((u < x) × (view_after_pass ns x u ≡ u)) ⊎ ((x ≤ u) × (view_after_pass ns x u ≡ next ns x))
