-- How far the loops over numbers are. Assumes nothing.
use Rattle.std.specs.Prelude.{◌≡◌, ◌+◌, ◌*◌, ◌<◌, ◌≤◌}
use Rattle.laws.specs.Usual.{cond, not, List, ℕ, min, length, get_or, take, drop, eqb}
use Rattle.std.specs.List.{filter}
use Rattle.settle_counts.specs.Counts.{count_in, sum_of, most}
use Rattle.settle_counts.specs.Passing.{is_moved}

-- the stations among the first `station` numbers are counted
pub record Counting (views numbers : List ℕ) (station : ℕ) : Type 0 where
  pub long : length numbers ≡ 256
  pub counts : (view : ℕ) → view < 256 → get_or numbers view 0 ≡ count_in view (filter (λ v. not (eqb v 0)) (take station views))
  pub few : (view : ℕ) → view < 256 → get_or numbers view 0 ≤ station

-- the moved views below `view` are taken away
pub record Taking (from to : ℕ) (old new : List ℕ) (moved view : ℕ) : Type 0 where
  pub long : length new ≡ 256
  pub sum : moved + sum_of (is_moved from to) view (drop view old) ≡ sum_of (is_moved from to) 0 old
  pub before : (i : ℕ) → i < view → get_or new i 0 ≡ cond (is_moved from to i) 0 (get_or old i 0)
  pub after : (i : ℕ) → view ≤ i → get_or new i 0 ≡ get_or old i 0
  pub few : moved ≤ 65535 * view

-- the numbers of the views below `view` are carried
pub record Carrying (moves old new : List ℕ) (view : ℕ) : Type 0 where
  pub long : length new ≡ 256
  pub sums : (to : ℕ) → to < 256 → get_or new to 0 ≡ min most (sum_of (λ v. eqb (get_or moves v 0) to) 0 (take view old))
