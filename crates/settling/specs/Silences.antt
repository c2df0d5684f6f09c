-- How many silences can come before the views agree: at most 2n - 3.
-- The station with the smallest number decides it. While it names itself it holds, and no silence can come. Else each silence moves
-- its view up, until it names the largest number, and then itself.
use Rattle.std.specs.Prelude.{◌≤◌}
use Rattle.laws.specs.Usual.{[], List, ℕ}
use Rattle.settling.specs.Ring.{◌∈◌, Views}

-- the smallest sees the largest view
abbrev pub SeesMost : List ℕ → ℕ → Views → Type 0
SeesMost ns smallest views = (y : ℕ) → y ∈ ns → views y ≤ views smallest

-- no view is below b
abbrev pub NoneBelow : List ℕ → ℕ → Views → Type 0
NoneBelow ns b views = (y : ℕ) → y ∈ ns → b ≤ views y
