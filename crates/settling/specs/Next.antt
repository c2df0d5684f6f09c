-- What the proofs use of `next`, and that `next` has it.
use Rattle.laws.specs.Usual.{[], List, ℕ}
use Rattle.std.specs.Prelude.{◌≡◌, ◌<◌, ◌≤◌, ◌⊎◌}
use mathlib.Core.List.Memᴰ
use Rattle.settling.specs.Ring.{◌∈◌}

-- r is the closest number of the list above x; or no number of the list is above x, and r is d
abbrev pub FirstAbove : ℕ → List ℕ → ℕ → ℕ → Type 0
FirstAbove x ns d r = ((r ∈ ns) × (x < r) × ((y : ℕ) → y ∈ ns → x < y → r ≤ y)) ⊎ (((y : ℕ) → y ∈ ns → y ≤ x) × (r ≡ d))

-- What is used of "next" in a ring whose smallest number is `smallest` and whose largest is `largest`. Another search that has these
-- laws gives the same (`one_next`).
pub record NextLaws (ns : List ℕ) (next_of : ℕ → ℕ) (smallest largest : ℕ) : Type 0 where
  pub smallest_in : smallest ∈ ns
  pub largest_in : largest ∈ ns
  pub least : (x : ℕ) → x ∈ ns → smallest ≤ x
  pub most : (x : ℕ) → x ∈ ns → x ≤ largest
  pub stays_in : (x : ℕ) → x ∈ ns → next_of x ∈ ns
  pub up : (x : ℕ) → x < largest → x < next_of x
  pub closest : (x y : ℕ) → y ∈ ns → x < y → next_of x ≤ y
  pub wraps : next_of largest ≡ smallest
