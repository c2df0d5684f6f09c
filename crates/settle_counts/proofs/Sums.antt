-- Laws of sums of picked numbers. Assumes nothing.
use Rattle.laws.specs.Usual.{[], refl, sym, ap, ap₂, ◌∙◌, Bool, true, false, cond, false≢true, List, ℕ, suc, min, arith, length, get_or, eqb}
use Rattle.std.specs.Prelude.{◌≡◌, ◌||◌, ◌∷◌, ◌++◌, ◌+◌, ◌<◌, zero}
use Rattle.std.proofs.Common.{eq-eqb, ne_eqb}
use Rattle.settle_moves.specs.Each.{each_same}
use Rattle.settle_counts.specs.Counts.{sum_of, most, carried_numbers}

-- two tests that pick the same
pub sum_same : (p q : ℕ → Bool) (view : ℕ) (numbers : List ℕ) → ((v : ℕ) → v < view + length numbers → p v ≡ q v) → sum_of p view numbers ≡ sum_of q view numbers
sum_same p q view [] h = refl
sum_same p q view (number ∷ rest) h =
    ap₂ (λ (t : Bool) (k : ℕ). cond t (number + k) k) (h view (omega arith)) (sum_same p q (suc view) rest (λ v low. h v (omega arith)))

-- a test that picks nothing
pub sum_none : (p : ℕ → Bool) (view : ℕ) (numbers : List ℕ) → ((v : ℕ) → v < view + length numbers → p v ≡ false) → sum_of p view numbers ≡ 0
sum_none p view [] h = refl
sum_none p view (number ∷ rest) h = rw (h view (omega arith)) (sum_none p (suc view) rest (λ v low. h v (omega arith)))

-- one that picks the number of one view
sum_past : (w view : ℕ) (numbers : List ℕ) → w < view → sum_of (λ v. eqb v w) view numbers ≡ 0
sum_past w view [] h = refl
sum_past w view (number ∷ rest) h = rw (ne_eqb view w (λ e. omega arith)) (sum_past w (suc view) rest (omega arith))

sum_at : (view i : ℕ) (numbers : List ℕ) → sum_of (λ v. eqb v (view + i)) view numbers ≡ get_or numbers i 0
sum_at view i [] = refl
sum_at view zero (number ∷ rest) =
    rw (eq-eqb view (view + 0) (omega arith)) (omega (arith, sum_past (view + 0) (suc view) rest (omega arith)))
sum_at view (suc i) (number ∷ rest) =
    let next : suc view + i ≡ view + suc i = omega arith in
    rw (ne_eqb view (view + suc i) (λ e. omega arith)) (ap (λ (w : ℕ). sum_of (λ v. eqb v w) (suc view) rest) (sym next) ∙ sum_at (suc view) i rest)

pub sum_one : (w : ℕ) (numbers : List ℕ) → sum_of (λ v. eqb v w) 0 numbers ≡ get_or numbers w 0
sum_one w numbers = let same : w ≡ 0 + w = omega arith in ap (λ (x : ℕ). sum_of (λ v. eqb v x) 0 numbers) same ∙ sum_at 0 w numbers

-- one that picks what either of two picks, never both
pub sum_either : (p q : ℕ → Bool) (view : ℕ) (numbers : List ℕ) → ((v : ℕ) → p v ≡ true → q v ≡ false)
    → sum_of (λ v. p v || q v) view numbers ≡ sum_of p view numbers + sum_of q view numbers
sum_either p q view [] apart = refl
sum_either p q view (number ∷ rest) apart = by (p view) (q view) (apart view) (sum_either p q (suc view) rest apart)
  where
    by : (s t : Bool) → (s ≡ true → t ≡ false) → sum_of (λ v. p v || q v) (suc view) rest ≡ sum_of p (suc view) rest + sum_of q (suc view) rest
        → cond (s || t) (number + sum_of (λ v. p v || q v) (suc view) rest) (sum_of (λ v. p v || q v) (suc view) rest)
        ≡ cond s (number + sum_of p (suc view) rest) (sum_of p (suc view) rest) + cond t (number + sum_of q (suc view) rest) (sum_of q (suc view) rest)
    by true true off e = absurd (false≢true (sym (off refl)))
    by true false off e = omega (arith, e)
    by false true off e = omega (arith, e)
    by false false off e = e

-- one number more at the end
pub sum_more : (p : ℕ → Bool) (view : ℕ) (numbers : List ℕ) (last : ℕ)
    → sum_of p view (numbers ++ (last ∷ [])) ≡ sum_of p view numbers + cond (p (view + length numbers)) last 0
sum_more p view [] last = let same : view ≡ view + 0 = omega arith in ap (λ (v : ℕ). cond (p v) (last + 0) 0) same ∙ by (p (view + 0))
  where
    by : (t : Bool) → cond t (last + 0) 0 ≡ 0 + cond t last 0
    by true = omega arith
    by false = refl
sum_more p view (number ∷ rest) last =
    let next : suc view + length rest ≡ view + suc (length rest) = omega arith in
    by (p view) (sum_more p (suc view) rest last ∙ ap (λ (v : ℕ). sum_of p (suc view) rest + cond (p v) last 0) next)
  where
    by : (t : Bool) → sum_of p (suc view) (rest ++ (last ∷ [])) ≡ sum_of p (suc view) rest + cond (p (view + suc (length rest))) last 0
        → cond t (number + sum_of p (suc view) (rest ++ (last ∷ []))) (sum_of p (suc view) (rest ++ (last ∷ [])))
        ≡ cond t (number + sum_of p (suc view) rest) (sum_of p (suc view) rest) + cond (p (view + suc (length rest))) last 0
    by true e = omega (arith, e)
    by false e = e

-- two moves that take each view to the same carry the same
pub carried_same : (f g : ℕ → ℕ) (numbers : List ℕ) → ((view : ℕ) → view < length numbers → f view ≡ g view) → carried_numbers f numbers ≡ carried_numbers g numbers
carried_same f g numbers h =
    each_same _ _ 256 (λ to low. ap (min most) (sum_same (λ view. eqb (f view) to) (λ view. eqb (g view) to) 0 numbers (λ view small. ap (λ (x : ℕ). eqb x to) (h view (omega arith)))))
