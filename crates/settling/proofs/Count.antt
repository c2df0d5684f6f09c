-- Sums and counts over the numbers of a list.
use Rattle.std.specs.Prelude.{◌≡◌, ◌∷◌, ◌+◌, ◌*◌, ◌<◌, ◌≤◌}
use Rattle.laws.specs.Usual.{[], refl, sym, ap, cond, List, ℕ, arith, length, eqb}
use mathlib.Core.List.Memᴰ
use Rattle.std.proofs.Common.{le_refl, le_antisymm, le_of_eq, mul-suc, mul-zero}
use Rattle.std.proofs.Math.Decide.{ℕ_discrete, dec_lt}
use Rattle.settling.specs.Ring.{◌∈◌, Ascending}
use Rattle.settling.proofs.Next.{by_eqb}
use Rattle.settling.specs.Count.{only, tally, sum}

pub only_yes : {A : Type 0} (d : Dec A) (m : ℕ) → A → only d m ≡ m
unfolding only
only_yes (yes a) m x = refl
only_yes (no h) m x = absurd (h x)

pub only_no : {A : Type 0} (d : Dec A) (m : ℕ) → ¬ A → only d m ≡ 0
unfolding only
only_no (yes a) m x = absurd (x a)
only_no (no h) m x = refl

pub only_most : {A : Type 0} (d : Dec A) (m : ℕ) → only d m ≤ m
unfolding only
only_most (yes a) m = le_refl m
only_most (no h) m = omega arith

-- what holds in fewer cases, or is worth less, counts less
pub only_le : {A B : Type 0} (d : Dec A) (e : Dec B) (m k : ℕ) → (A → B) → (A → m ≤ k) → only d m ≤ only e k
unfolding only
only_le (yes a) (yes b) m k f g = g a
only_le (yes a) (no h) m k f g = absurd (h (f a))
only_le (no h) e m k f g = omega arith

pub tally_yes : {A : Type 0} (d : Dec A) → A → tally d ≡ 1
tally_yes d a = only_yes d 1 a

pub tally_no : {A : Type 0} (d : Dec A) → ¬ A → tally d ≡ 0
tally_no d h = only_no d 1 h

pub tally_most : {A : Type 0} (d : Dec A) → tally d ≤ 1
tally_most d = only_most d 1

pub tally_le : {A B : Type 0} (d : Dec A) (e : Dec B) → (A → B) → tally d ≤ tally e
tally_le d e f = only_le d e 1 1 f (λ a. le_refl 1)

pub sum_le : (f g : ℕ → ℕ) (ns : List ℕ) → ((x : ℕ) → x ∈ ns → f x ≤ g x) → sum f ns ≤ sum g ns
unfolding sum
sum_le f g [] h = le_refl 0
sum_le f g (x ∷ ns) h = omega (arith, h x (Memᴰ.head refl), sum_le f g ns (λ y m. h y (Memᴰ.tail m)))

-- one place where f is less makes the sum less
pub sum_lt : (f g : ℕ → ℕ) (ns : List ℕ) → ((x : ℕ) → x ∈ ns → f x ≤ g x) → (y : ℕ) → y ∈ ns → f y < g y → sum f ns < sum g ns
unfolding sum
sum_lt f g (x ∷ ns) h y (Memᴰ.head e) l =
    omega (arith, ap f e, ap g e, sum_le f g ns (λ z m. h z (Memᴰ.tail m)))
sum_lt f g (x ∷ ns) h y (Memᴰ.tail m) l =
    omega (arith, h x (Memᴰ.head refl), sum_lt f g ns (λ z k. h z (Memᴰ.tail k)) y m l)
sum_lt f g [] h y x3 l = elim x3 [ ]

pub sum_eq : (f g : ℕ → ℕ) (ns : List ℕ) → ((x : ℕ) → x ∈ ns → f x ≡ g x) → sum f ns ≡ sum g ns
sum_eq f g ns h = le_antisymm (sum_le f g ns (λ x m. le_of_eq (h x m))) (sum_le g f ns (λ x m. le_of_eq (sym (h x m))))

pub sum_add : (f g : ℕ → ℕ) (ns : List ℕ) → sum (λ x. f x + g x) ns ≡ sum f ns + sum g ns
unfolding sum
sum_add f g [] = refl
sum_add f g (x ∷ ns) = omega (arith, sum_add f g ns)

pub sum_const : (c : ℕ) (ns : List ℕ) → sum (λ x. c) ns ≡ c * length ns
unfolding sum
sum_const c [] = sym (mul-zero c)
sum_const c (x ∷ ns) = omega (arith, sum_const c ns, mul-suc c (length ns))

-- the sum is no less than each of its parts
pub sum_at : (f : ℕ → ℕ) (ns : List ℕ) (y : ℕ) → y ∈ ns → f y ≤ sum f ns
unfolding sum
sum_at f (x ∷ ns) y (Memᴰ.head e) = omega (arith, ap f e)
sum_at f (x ∷ ns) y (Memᴰ.tail m) = omega (arith, sum_at f ns y m)
sum_at f [] y x' = elim x' [ ]

-- how many numbers of a list are larger than u
pub above : List ℕ → ℕ → ℕ
above ns u = sum (λ x. tally (dec_lt u x)) ns

-- a larger number has fewer above it
pub above_falls : (ns : List ℕ) (u w : ℕ) → w ∈ ns → u < w → above ns w < above ns u
unfolding above
above_falls ns u w m h =
    sum_lt _ _ ns (λ x k. tally_le (dec_lt w x) (dec_lt u x) (λ l. omega arith)) w m
    (omega (arith, tally_no (dec_lt w w) (λ l. omega arith), tally_yes (dec_lt u w) h))

pub above_below_length : (ns : List ℕ) (u : ℕ) → u ∈ ns → above ns u < length ns
unfolding above
above_below_length ns u m =
    let fewer : above ns u < sum (λ x. 1) ns =
    sum_lt _ _ ns (λ x k. tally_most (dec_lt u x)) u m (omega (arith, tally_no (dec_lt u u) (λ l. omega arith))) in
    omega (arith, sum_const 1 ns)

-- 1 where a and b are equal, and 0 where they are not
pub same : ℕ → ℕ → ℕ
same a b = tally (ℕ_discrete a b)

pub same_yes : (a b : ℕ) → a ≡ b → same a b ≡ 1
unfolding same
same_yes a b e = tally_yes (ℕ_discrete a b) e

pub same_no : (a b : ℕ) → ¬ (a ≡ b) → same a b ≡ 0
unfolding same
same_no a b h = tally_no (ℕ_discrete a b) h

pub same_cond : (a b : ℕ) → cond (eqb a b) 1 0 ≡ same a b
same_cond a b = by_eqb (λ r. r ≡ same a b) a b (λ e. sym (same_yes a b e)) (λ h. sym (same_no a b h))

-- a number of an ascending list stands in it once
pub once : (ns : List ℕ) → Ascending ns → (y : ℕ) → y ∈ ns → sum (same y) ns ≡ 1
unfolding sum
once (z ∷ ns) a y (Memᴰ.head e) =
    let rest : sum (same y) ns ≡ sum (λ x. 0) ns = sum_eq _ _ ns (λ x m. same_no y x (λ s. omega (arith, a.0 x m))) in
    omega (arith, sum_const 0 ns, same_yes y z e)
once (z ∷ ns) a y (Memᴰ.tail m) = omega (arith, same_no y z (λ s. omega (arith, a.0 y m)), once ns a.1 y m)
once [] a y x'' = elim x'' [ ]
