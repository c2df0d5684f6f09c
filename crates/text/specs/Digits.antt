-- Laws of decimal text. Assumes nothing.
use Rattle.laws.specs.Usual.{sym, ap, ◌∙◌, Bool, true, false, List, [], ℕ, suc, arith, length, ltb}
use Rattle.std.specs.Prelude.{◌≡◌, ◌∷◌, ◌++◌, ◌+◌, ◌/◌, ◌%◌, ◌<◌, ◌≤◌, zero, ◌^◌}
use Rattle.std.proofs.Common.{length-append, pow-suc, lt-ltb, le-ltb}
use Rattle.text.specs.Decimal.{behind, decimal_at, decimal_of}

-- no more digits than were allowed
pub at_most : (most number : ℕ) → length (decimal_at most number) ≤ most
unfolding decimal_at
at_most zero number = omega arith
at_most (suc most) number = by (ltb number 10) (decimal_at most (number / 10)) (at_most most (number / 10))
  where
    by : (test : Bool) (others : List ℕ) → length others ≤ most → length (behind test others (48 + number % 10)) ≤ suc most
    by true others h = omega arith
    by false others h = rw (length-append others ((48 + number % 10) ∷ [])) (omega arith)

-- a number that so many digits hold has no more of them where one more is allowed
pub one_more : (most number : ℕ) → number < 10 ^ suc most → decimal_at (suc (suc most)) number ≡ decimal_at (suc most) number
unfolding decimal_at
one_more zero number h =
    let low : ltb number 10 ≡ true = lt-ltb number 10 (omega arith) in
    simp low
one_more (suc most) number h =
    let less : number / 10 < 10 ^ suc most = omega (arith, rw (pow-suc 10 (suc most)) at h) in
    ap (λ (others : List ℕ). behind (ltb number 10) others (48 + number % 10)) (one_more most (number / 10) less)

-- a number of 32 bits that is ten or more: its last digit stands behind the others
pub last_digit : (number : ℕ) → number < 2 ^ 32 → 10 ≤ number → decimal_of number ≡ decimal_of (number / 10) ++ ((48 + number % 10) ∷ [])
unfolding decimal_at
last_digit number small h =
    let others = decimal_at 9 (number / 10) in
    ap (λ (test : Bool). behind test others (48 + number % 10)) (le-ltb number 10 h)
    ∙ ap (λ (l : List ℕ). l ++ ((48 + number % 10) ∷ [])) (sym (one_more 8 (number / 10) (omega arith)))

-- and then the others are at most nine
pub nine : (number : ℕ) → number < 2 ^ 32 → length (decimal_of (number / 10)) ≤ 9
nine number small = rw (one_more 8 (number / 10) (omega arith)) (at_most 9 (number / 10))

pub one_digit : (number : ℕ) → number < 10 → decimal_of number ≡ (48 + number % 10) ∷ []
unfolding decimal_at
one_digit number h = simp (lt-ltb number 10 h)
