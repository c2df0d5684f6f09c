-- Who holds and is alone in the list stays so when its watch ends, also where its own number is listed. Assumes nothing.
use Rattle.std.specs.Prelude.{◌∷◌, ◌≤◌}
use Rattle.laws.specs.Usual.{[], List, ℕ}

-- a fact of each number of a list
abbrev pub Each : (ℕ → Type 0) → List ℕ → Type 0
Each P [] = Unit {0}
Each P (number ∷ rest) = P number × Each P rest

-- the first number is the smallest
abbrev pub Least : List ℕ → Type 0
Least [] = Unit {0}
Least (number ∷ rest) = Each (λ n. number ≤ n) rest
