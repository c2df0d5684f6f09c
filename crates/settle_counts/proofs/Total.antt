-- The total of a ring's counts is its number of different views. Assumes nothing.
use Rattle.std.specs.Prelude.{◌≡◌, ◌||◌, ◌∷◌, ◌+◌, ◌<◌, ◌≤◌}
use Rattle.laws.specs.Usual.{[], refl, sym, ap, ap₂, ◌∙◌, Bool, true, false, cond, not, List, map, ℕ, suc, arith, eqb}
use mathlib.Core.List.Memᴰ
use Prim.Native.Nat.{zero}
use Rattle.std.proofs.Math.Decide.{ℕ_discrete}
use Rattle.std.proofs.Common.{eq-eqb, ne_eqb}
use Rattle.settle_views.specs.Views.{stations_of, views_of, member, different, different_views}
use Rattle.settle_views.specs.Agreement.{of_map}
use Rattle.settle_views.specs.declared.Ring.{Ring}
use Rattle.settle_moves.specs.Moves.{each}
use Rattle.settle_counts.specs.Counts.{count_in, above_zero, counts_of}
use Rattle.settle_counts.specs.Carried.{Octets}

-- a view stands in a list where its count is above 0
counted : (x : ℕ) (l : List ℕ) → eqb (count_in x l) 0 ≡ not (member x l)
counted x [] = refl
counted x (y ∷ l) = by (ℕ_discrete x y) (counted x l)
  where
    by : Dec (x ≡ y) → eqb (count_in x l) 0 ≡ not (member x l) → eqb (cond (eqb y x) (suc (count_in x l)) (count_in x l)) 0 ≡ not (eqb x y || member x l)
    by (yes e) h = rw (eq-eqb y x (sym e), eq-eqb x y e) (ne_eqb (suc (count_in x l)) 0 (λ z. omega arith))
    by (no n) h = rw (ne_eqb y x (λ e. n (sym e)), ne_eqb x y n) h

above_zeros : (view count : ℕ) → above_zero (each (λ v. 0) view count) ≡ 0
unfolding each
above_zeros view zero = refl
above_zeros view (suc count) = above_zeros (suc view) count

-- one more for one view: the total is one more where its number was 0
module _ (x : ℕ) (number : ℕ → ℕ) where
  more : ℕ → ℕ
  more view = cond (eqb x view) (suc (number view)) (number view)

  above_past : (view count : ℕ) → x < view → above_zero (each more view count) ≡ above_zero (each number view count)
  unfolding each more
  above_past view zero low = refl
  above_past view (suc count) low =
      rw (ne_eqb x view (λ e. omega arith)) (ap (λ (k : ℕ). cond (eqb (number view) 0) k (suc k)) (above_past (suc view) count (omega arith)))

  above_at : (view count : ℕ) → view ≤ x → x < view + count
      → above_zero (each more view count) ≡ cond (eqb (number x) 0) (suc (above_zero (each number view count))) (above_zero (each number view count))
  unfolding each more
  above_at view zero low high = absurd (omega arith)
  above_at view (suc count) low high = by (ℕ_discrete x view) (above_at (suc view) count)
    where
      rest : ℕ
      rest = above_zero (each number (suc view) count)

      here : (t : Bool) → suc rest ≡ cond t (suc (cond t rest (suc rest))) (cond t rest (suc rest))
      here true = refl
      here false = refl

      there : (s t : Bool) → cond s (cond t (suc rest) rest) (suc (cond t (suc rest) rest)) ≡ cond t (suc (cond s rest (suc rest))) (cond s rest (suc rest))
      there true true = refl
      there true false = refl
      there false true = refl
      there false false = refl

      by : Dec (x ≡ view) → (suc view ≤ x → x < suc view + count → above_zero (each more (suc view) count) ≡ cond (eqb (number x) 0) (suc rest) rest)
          → cond (eqb (more view) 0) (above_zero (each more (suc view) count)) (suc (above_zero (each more (suc view) count)))
          ≡ cond (eqb (number x) 0) (suc (cond (eqb (number view) 0) rest (suc rest))) (cond (eqb (number view) 0) rest (suc rest))
      by (yes e) later =
          rw (eq-eqb x view e, above_past (suc view) count (omega arith), ne_eqb (suc (number view)) 0 (λ z. omega arith))
          (here (eqb (number view) 0)
          ∙ ap (λ (v : ℕ). cond (eqb (number v) 0) (suc (cond (eqb (number view) 0) rest (suc rest))) (cond (eqb (number view) 0) rest (suc rest))) (sym e))
      by (no n) later =
          rw (ne_eqb x view n, later (omega arith) (omega arith)) (there (eqb (number view) 0) (eqb (number x) 0))

above_different : (l : List ℕ) → Octets l → above_zero (each (λ view. count_in view l) 0 256) ≡ different l
unfolding more
above_different [] small = above_zeros 0 256
above_different (x ∷ l) small =
    above_at x (λ view. count_in view l) 0 256 (omega arith) (omega (arith, small x (Memᴰ.head refl)))
    ∙ ap₂ (λ (t : Bool) (k : ℕ). cond t (suc k) k) (counted x l) (above_different l (λ y m. small y (Memᴰ.tail m)))
    ∙ by (member x l)
  where
    by : (t : Bool) → cond (not t) (suc (different l)) (different l) ≡ cond t (different l) (suc (different l))
    by true = refl
    by false = refl

-- "the total the count of numbers above 0": it is the number of different views, in every ring of octets
pub total_different : (ring : Ring) → ((x : ℕ) → views_of ring x < 256) → (counts_of ring).total ≡ different_views (stations_of ring) (views_of ring)
total_different ring octets = above_different (map (views_of ring) (stations_of ring)) small
  where
    small : Octets (map (views_of ring) (stations_of ring))
    small v m = let (x, i, e) = of_map (stations_of ring) (views_of ring) v m in omega (arith, octets x, e)
