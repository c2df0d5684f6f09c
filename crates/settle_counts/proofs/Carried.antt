-- The count of a view after every view has gone elsewhere, from the counts before. Assumes nothing.
use Rattle.std.specs.Prelude.{◌≡◌, ◌∷◌, ◌+◌, ◌<◌, ◌≤◌}
use Rattle.laws.specs.Usual.{[], refl, sym, ap, ap₂, ◌∙◌, Bool, true, false, cond, List, map, ℕ, suc, arith, length, eqb}
use mathlib.Core.List.Memᴰ
use Prim.Native.Nat.{zero}
use Rattle.std.proofs.Math.Decide.{ℕ_discrete}
use Rattle.std.proofs.Common.{eq-eqb, ne_eqb}
use Rattle.settle_moves.specs.Moves.{each}
use Rattle.settle_moves.specs.Each.{each_same}
use Rattle.settle_counts.specs.Counts.{count_in, sum_of}
use Rattle.settle_counts.specs.Carried.{Octets}

-- a view is counted at most as often as the list is long
pub count_most : (view : ℕ) (l : List ℕ) → count_in view l ≤ length l
count_most view [] = omega arith
count_most view (x ∷ l) = by (eqb x view) (count_most view l)
  where
    by : (t : Bool) → count_in view l ≤ length l → cond t (suc (count_in view l)) (count_in view l) ≤ suc (length l)
    by true h = omega arith
    by false h = omega arith

module _ (picks : ℕ → Bool) where
  -- the sum of two numbers for each view
  sum_add : (f g : ℕ → ℕ) (view count : ℕ) → sum_of picks view (each (λ v. f v + g v) view count) ≡ sum_of picks view (each f view count) + sum_of picks view (each g view count)
  unfolding each
  sum_add f g view zero = refl
  sum_add f g view (suc count) = by (picks view) (sum_add f g (suc view) count)
    where
      by : (t : Bool)
          → sum_of picks (suc view) (each (λ v. f v + g v) (suc view) count) ≡ sum_of picks (suc view) (each f (suc view) count) + sum_of picks (suc view) (each g (suc view) count)
          → cond t ((f view + g view) + sum_of picks (suc view) (each (λ v. f v + g v) (suc view) count)) (sum_of picks (suc view) (each (λ v. f v + g v) (suc view) count))
          ≡ cond t (f view + sum_of picks (suc view) (each f (suc view) count)) (sum_of picks (suc view) (each f (suc view) count))
          + cond t (g view + sum_of picks (suc view) (each g (suc view) count)) (sum_of picks (suc view) (each g (suc view) count))
      by true e = omega (arith, e)
      by false e = e

  sum_zero : (view count : ℕ) → sum_of picks view (each (λ v. 0) view count) ≡ 0
  unfolding each
  sum_zero view zero = refl
  sum_zero view (suc count) = by (picks view) (sum_zero (suc view) count)
    where
      by : (t : Bool) → sum_of picks (suc view) (each (λ v. 0) (suc view) count) ≡ 0
          → cond t (0 + sum_of picks (suc view) (each (λ v. 0) (suc view) count)) (sum_of picks (suc view) (each (λ v. 0) (suc view) count)) ≡ 0
      by true e = omega (arith, e)
      by false e = e

  -- 1 for one view alone
  one_past : (x view count : ℕ) → x < view → sum_of picks view (each (λ v. cond (eqb x v) 1 0) view count) ≡ 0
  unfolding each
  one_past x view zero low = refl
  one_past x view (suc count) low =
      rw (ne_eqb x view (λ e. omega arith)) (by (picks view) (one_past x (suc view) count (omega arith)))
    where
      by : (t : Bool) → sum_of picks (suc view) (each (λ v. cond (eqb x v) 1 0) (suc view) count) ≡ 0
          → cond t (0 + sum_of picks (suc view) (each (λ v. cond (eqb x v) 1 0) (suc view) count)) (sum_of picks (suc view) (each (λ v. cond (eqb x v) 1 0) (suc view) count)) ≡ 0
      by true e = omega (arith, e)
      by false e = e

  one_at : (x view count : ℕ) → view ≤ x → x < view + count → sum_of picks view (each (λ v. cond (eqb x v) 1 0) view count) ≡ cond (picks x) 1 0
  unfolding each
  one_at x view zero low high = absurd (omega arith)
  one_at x view (suc count) low high = by (ℕ_discrete x view) (one_at x (suc view) count)
    where
      rest : ℕ
      rest = sum_of picks (suc view) (each (λ v. cond (eqb x v) 1 0) (suc view) count)

      here : (t : Bool) → rest ≡ 0 → cond t (1 + rest) rest ≡ cond t 1 0
      here true e = omega (arith, e)
      here false e = e

      there : (t : Bool) → cond t (0 + rest) rest ≡ rest
      there true = omega arith
      there false = refl

      by : Dec (x ≡ view) → (suc view ≤ x → x < suc view + count → rest ≡ cond (picks x) 1 0)
          → cond (picks view) (cond (eqb x view) 1 0 + rest) rest ≡ cond (picks x) 1 0
      by (yes e) more =
          ap (λ (t : Bool). cond (picks view) (cond t 1 0 + rest) rest) (eq-eqb x view e)
          ∙ here (picks view) (one_past x (suc view) count (omega arith))
          ∙ ap (λ (v : ℕ). cond (picks v) 1 0) (sym e)
      by (no n) more =
          ap (λ (t : Bool). cond (picks view) (cond t 1 0 + rest) rest) (ne_eqb x view n)
          ∙ there (picks view)
          ∙ more (omega arith) (omega arith)

-- one more view in the list is one more in its number
one_more : (t : Bool) (c : ℕ) → cond t (suc c) c ≡ cond t 1 0 + c
one_more true c = omega arith
one_more false c = omega arith

-- a view's count, once every view has gone where `after` takes it, is the sum of the counts of those that go there
pub count_carried : (after : ℕ → ℕ) (to : ℕ) (l : List ℕ) → Octets l
    → sum_of (λ view. eqb (after view) to) 0 (each (λ view. count_in view l) 0 256) ≡ count_in to (map after l)
count_carried after to [] small = sum_zero (λ view. eqb (after view) to) 0 256
count_carried after to (x ∷ l) small =
    let picks : ℕ → Bool = λ view. eqb (after view) to in
    ap (sum_of picks 0) (each_same (λ view. count_in view (x ∷ l)) (λ view. cond (eqb x view) 1 0 + count_in view l) 256 (λ view low. one_more (eqb x view) (count_in view l)))
    ∙ sum_add picks (λ view. cond (eqb x view) 1 0) (λ view. count_in view l) 0 256
    ∙ ap₂ ◌+◌ (one_at picks x 0 256 (omega arith) (omega (arith, small x (Memᴰ.head refl)))) (count_carried after to l (λ y m. small y (Memᴰ.tail m)))
    ∙ sym (one_more (eqb (after x) to) (count_in to (map after l)))
