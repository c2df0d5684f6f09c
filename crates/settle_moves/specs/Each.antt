-- A list that has what a function gives for each number. Assumes nothing.
use Rattle.laws.specs.Usual.{refl, sym, ap, ◌∙◌, List, ℕ, suc, arith, length, get_or}
use Rattle.std.specs.Prelude.{◌≡◌, ◌+◌, ◌<◌, zero}
use Rattle.std.proofs.Common.{ext_get_or}
use Rattle.settle_moves.specs.Moves.{each}

pub length_each : (f : ℕ → ℕ) (number count : ℕ) → length (each f number count) ≡ count
unfolding each
length_each f number zero = refl
length_each f number (suc count) = ap suc (length_each f (suc number) count)

pub get_d_each : (f : ℕ → ℕ) (number count i : ℕ) → i < count → get_or (each f number count) i 0 ≡ f (number + i)
unfolding each
get_d_each f number (suc count) zero h = let same : number ≡ number + 0 = omega arith in ap f same
get_d_each f number (suc count) (suc i) h =
    let same : suc number + i ≡ number + suc i = omega arith in
    get_d_each f (suc number) count i (omega arith) ∙ ap f same
get_d_each f number zero i h = elim h [ ]

module _ (f : ℕ → ℕ) where
  -- the value at a number below the count
  pub at_each : (count i : ℕ) → i < count → get_or (each f 0 count) i 0 ≡ f i
  at_each count i h = let same : 0 + i ≡ i = omega arith in get_d_each f 0 count i h ∙ ap f same

  -- a list of so many numbers, each as the function gives it
  pub is_each : (count : ℕ) (l : List ℕ) → length l ≡ count → ((i : ℕ) → i < count → get_or l i 0 ≡ f i) → l ≡ each f 0 count
  is_each count l e h =
      ext_get_or 0 l (each f 0 count) (e ∙ sym (length_each f 0 count)) (λ i low. h i (omega (arith, e)) ∙ sym (at_each count i (omega (arith, e))))

-- two functions that give the same for each number give the same list
pub each_same : (f g : ℕ → ℕ) (count : ℕ) → ((i : ℕ) → i < count → f i ≡ g i) → each f 0 count ≡ each g 0 count
each_same f g count h = is_each g count (each f 0 count) (length_each f 0 count) (λ i low. at_each f count i low ∙ h i low)
