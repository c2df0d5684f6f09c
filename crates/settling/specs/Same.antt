-- Views are read only at the numbers of the ring: views that are the same there have the same runs.
use Rattle.std.specs.Prelude.{◌≡◌}
use Rattle.laws.specs.Usual.{[], List, ℕ}
use Rattle.settling.specs.Ring.{◌∈◌, Views}

-- every station of the ring has the same view in both
abbrev pub Same : List ℕ → Views → Views → Type 0
Same ns v w = (x : ℕ) → x ∈ ns → v x ≡ w x
