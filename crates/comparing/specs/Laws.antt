-- Laws of comparing two lists. Assumes nothing.
use Rattle.std.specs.Prelude.{◌≡◌, ◌&&◌, ◌∷◌, ◌+◌, ◌<◌, ◌≤◌}
use Rattle.laws.specs.Usual.{refl, ap, ap₂, Bool, true, false, false≢true, List, [], ℕ, length, get_or, drop, eqb}
use Rattle.std.proofs.Common.{drop_of_length-le, drop-cons, add-one, eqb-true, eq-eqb}
use Rattle.laws.specs.Tests.{first, second}
use Rattle.comparing.specs.Same.{same}

-- what is found the same is the same
pub same_is : (a b : List ℕ) → same a b ≡ true → a ≡ b
same_is [] [] e = refl
same_is [] (y ∷ ys) e = absurd (false≢true e)
same_is (x ∷ xs) [] e = absurd (false≢true e)
same_is (x ∷ xs) (y ∷ ys) e =
    ap₂ (λ (z : ℕ) (zs : List ℕ). z ∷ zs) (eqb-true x y (first (eqb x y) (same xs ys) e)) (same_is xs ys (second (eqb x y) (same xs ys) e))

-- and a list is the same as itself
pub same_self : (a : List ℕ) → same a a ≡ true
same_self [] = refl
same_self (x ∷ xs) = rw (eq-eqb x x refl) (same_self xs)

-- lists of two lengths differ
pub same_unlike : (a b : List ℕ) → (length a ≡ length b → ⊥) → same a b ≡ false
same_unlike a b unlike = by (same a b) refl
  where
    by : (test : Bool) → same a b ≡ test → same a b ≡ false
    by true e = absurd (unlike (ap length (same_is a b e)))
    by false e = e

-- one octet more
pub same_from : (a b : List ℕ) (i : ℕ) → i < length a → i < length b
    → same (drop i a) (drop i b) ≡ eqb (get_or a i 0) (get_or b i 0) && same (drop (i + 1) a) (drop (i + 1) b)
same_from a b i p q = rw (drop-cons a i 0 p, drop-cons b i 0 q, add-one i)

-- none left
pub same_done : (a b : List ℕ) (i : ℕ) → length a ≤ i → length b ≤ i → same (drop i a) (drop i b) ≡ true
same_done a b i p q = rw (drop_of_length-le a p, drop_of_length-le b q)
