-- The running counts of `settle`. Words in quotes are paper 02's, E3.
use Rattle.std.specs.Prelude.{◌∷◌, ◌+◌}
use Rattle.laws.specs.Usual.{[], Bool, cond, List, map, ℕ, suc, min, eqb}
use Rattle.settle_views.specs.Views.{stations_of, views_of}
use Rattle.settle_views.specs.declared.Ring.{Ring}
use Rattle.settle_moves.specs.Moves.{each}
use Rattle.settle_counts.specs.declared.Counts.{Counts}

-- the views of the stations, in the order of the stations
abbrev pub views_in : Ring → List ℕ
views_in ring = map (views_of ring) (stations_of ring)

-- "the count of stations with that view": how often a view stands in a list
abbrev pub count_in : ℕ → List ℕ → ℕ
count_in view [] = 0
count_in view (first ∷ rest) = cond (eqb first view) (suc (count_in view rest)) (count_in view rest)

-- "the count of numbers above 0"
abbrev pub above_zero : List ℕ → ℕ
above_zero [] = 0
above_zero (number ∷ rest) = cond (eqb number 0) (above_zero rest) (suc (above_zero rest))

-- numbers with their total
abbrev pub with_total : List ℕ → Counts
with_total numbers = record { numbers = numbers; total = above_zero numbers }

-- "a running number for each view and the total", as a ring has them. No station has the view 0.
abbrev pub counts_of : Ring → Counts
counts_of ring = with_total (each (λ view. count_in view (views_in ring)) 0 256)

-- the sum of those numbers that a test picks by their view, the first of them the number of `view`
abbrev pub sum_of : (ℕ → Bool) → ℕ → List ℕ → ℕ
sum_of picks view [] = 0
sum_of picks view (number ∷ rest) = cond (picks view) (number + sum_of picks (suc view) rest) (sum_of picks (suc view) rest)

-- the largest number that is held. No ring reaches it: its numbers add up to at most 254.
abbrev pub most : ℕ
most = 65535

-- each number goes to where its view goes
abbrev pub carried_numbers : (ℕ → ℕ) → List ℕ → List ℕ
carried_numbers after numbers = each (λ to. min most (sum_of (λ view. eqb (after view) to) 0 numbers)) 0 256

-- "adjust them at every pass and silence": the counts after an event that takes every view to `after` of it
abbrev pub carried : (ℕ → ℕ) → Counts → Counts
carried after counts = with_total (carried_numbers after counts.numbers)
