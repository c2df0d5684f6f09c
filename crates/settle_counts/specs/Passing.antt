-- How a pass moves the numbers: those of the views that it moves go to the destination, and the others stay. Assumes nothing.
use Rattle.std.specs.Prelude.{◌≡◌, ◌&&◌, ◌||◌}
use Rattle.laws.specs.Usual.{Bool, true, false, cond, not, List, ℕ, get_or, eqb, ltb}
use Rattle.settle_moves.specs.Moves.{passed_view, each}

-- a pass moves the view of its source, and those above its destination
abbrev pub is_moved : ℕ → ℕ → ℕ → Bool
is_moved from to view = not (eqb view 0) && (eqb view from || ltb to view)

-- the numbers without those of the moved views
abbrev pub without_moved : ℕ → ℕ → List ℕ → List ℕ
without_moved from to numbers = each (λ view. cond (is_moved from to view) 0 (get_or numbers view 0)) 0 256

-- what a pass does to a view, with whether it is moved
pub data Passed (from to view : ℕ) : Type 0 where
  moves : is_moved from to view ≡ true → passed_view view from to ≡ to → Passed from to view
  stays : is_moved from to view ≡ false → passed_view view from to ≡ view → Passed from to view
