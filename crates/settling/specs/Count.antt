-- Sums and counts over the numbers of a list.
use Rattle.std.specs.Prelude.{◌∷◌, ◌+◌}
use Rattle.laws.specs.Usual.{[], List, ℕ}
use mathlib.Core.List.Memᴰ

-- m where A holds, and 0 where it does not
unfoldable pub only : {A : Type 0} → Dec A → ℕ → ℕ
only (yes a) m = m
only (no h) m = 0

-- 1 where A holds, and 0 where it does not
abbrev pub tally : {A : Type 0} → Dec A → ℕ
tally d = only d 1

-- the sum of f over a list
unfoldable pub sum : (ℕ → ℕ) → List ℕ → ℕ
sum f [] = 0
sum f (x ∷ ns) = f x + sum f ns
