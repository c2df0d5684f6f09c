-- What the proofs use of `next`, and that `next` has it.
use Rattle.laws.specs.Usual.{[], refl, sym, ap, subst, ◌∙◌, Bool, true, false, cond, not, List, ℕ, arith, eqb, ltb}
use Rattle.std.specs.Prelude.{◌≡◌, ◌∷◌, ◌<◌, ◌≤◌, T}
use Rattle.std.proofs.Common.{inl, inr, not-suc-le-zero, ltb→lt, nltb→le, eqb→eq}
use mathlib.Core.List.Memᴰ
use Rattle.std.proofs.Math.Decide.{ℕ_discrete}
use Rattle.std.proofs.Math.Dec.{eqb_refl}
use Rattle.settling.specs.Ring.{◌∈◌, Ascending, Stations, first_above, next}
use Rattle.settling.specs.Next.{FirstAbove, NextLaws}

-- a choice by the test x < y
pub by_ltb : (P : ℕ → Type 0) (x y : ℕ) {a b : ℕ} → (x < y → P a) → (y ≤ x → P b) → P (cond (ltb x y) a b)
by_ltb P x y {a} {b} f g = go (ltb x y) refl
  where
    go : (t : Bool) → ltb x y ≡ t → P (cond t a b)
    go true e = f (ltb→lt x y (subst T (sym e) tt))
    go false e = g (nltb→le x y (subst (λ t. T (not t)) (sym e) tt))

-- a choice by the test x = y
pub by_eqb : (P : ℕ → Type 0) (x y : ℕ) {a b : ℕ} → (x ≡ y → P a) → (¬ (x ≡ y) → P b) → P (cond (eqb x y) a b)
by_eqb P x y {a} {b} f g = go (eqb x y) refl
  where
    go : (t : Bool) → eqb x y ≡ t → P (cond t a b)
    go true e = f (eqb→eq x y (subst T (sym e) tt))
    go false e = g (λ same. subst T e (subst (λ z. T (eqb x z)) same (eqb_refl x)))

first_above_lem : (x : ℕ) (ns : List ℕ) (d : ℕ) → Ascending ns → FirstAbove x ns d (first_above x ns d)
first_above_lem x [] d a = inr (λ y m. elim m [ ], refl)
first_above_lem x (z ∷ ns) d a =
    by_ltb (FirstAbove x (z ∷ ns) d) x z (λ h. inl (Memᴰ.head refl, h, λ y m k. at y m)) (λ h. later h (first_above_lem x ns d a.1))
  where
    at : (y : ℕ) → y ∈ (z ∷ ns) → z ≤ y
    at y (Memᴰ.head e) = omega arith
    at y (Memᴰ.tail m) = omega (arith, a.0 y m)

    closest : z ≤ x → (r : ℕ) → ((y : ℕ) → y ∈ ns → x < y → r ≤ y) → (y : ℕ) → y ∈ (z ∷ ns) → x < y → r ≤ y
    closest h r f y (Memᴰ.head e) k = absurd (omega arith)
    closest h r f y (Memᴰ.tail m) k = f y m k

    none : z ≤ x → ((y : ℕ) → y ∈ ns → y ≤ x) → (y : ℕ) → y ∈ (z ∷ ns) → y ≤ x
    none h f y (Memᴰ.head e) = omega arith
    none h f y (Memᴰ.tail m) = f y m

    later : z ≤ x → FirstAbove x ns d (first_above x ns d) → FirstAbove x (z ∷ ns) d (first_above x ns d)
    later h (inl f) = inl (Memᴰ.tail f.0, f.1, closest h (first_above x ns d) f.2)
    later h (inr f) = inr (none h f.0, f.1)

-- the last number of a list, or x if the list is empty
last : ℕ → List ℕ → ℕ
last x [] = x
last x (y ∷ ns) = last y ns

last_in : (x : ℕ) (ns : List ℕ) → last x ns ∈ (x ∷ ns)
unfolding last
last_in x [] = Memᴰ.head refl
last_in x (y ∷ ns) = Memᴰ.tail (last_in y ns)

last_most : (x : ℕ) (ns : List ℕ) → Ascending (x ∷ ns) → (y : ℕ) → y ∈ (x ∷ ns) → y ≤ last x ns
unfolding last
last_most x [] a y (Memᴰ.head e) = omega arith
last_most x [] a y (Memᴰ.tail m) = elim m [ ]
last_most x (z ∷ ns) a y (Memᴰ.head e) =
    let first : z ∈ (z ∷ ns) = Memᴰ.head refl in
    omega (arith, last_most z ns a.1 z first, a.0 z first)
last_most x (z ∷ ns) a y (Memᴰ.tail m) = last_most z ns a.1 y m

-- the first number of an ascending list is the smallest
first_least : (x : ℕ) (ns : List ℕ) → Ascending (x ∷ ns) → (y : ℕ) → y ∈ (x ∷ ns) → x ≤ y
first_least x ns a y (Memᴰ.head e) = omega arith
first_least x ns a y (Memᴰ.tail m) = omega (arith, a.0 y m)

-- an ascending list with a smaller number in front of it is ascending
pub ascending_cons : (x y : ℕ) (ns : List ℕ) → x < y → Ascending (y ∷ ns) → Ascending (x ∷ y ∷ ns)
ascending_cons x y ns h a = (λ z m. omega (arith, first_least y ns a z m), a)

-- `next` has the laws, in every ring
next_laws : (smallest : ℕ) (rest : List ℕ) → Ascending (smallest ∷ rest)
    → NextLaws (smallest ∷ rest) (next (smallest ∷ rest)) smallest (last smallest rest)
next_laws smallest rest a = record {
  smallest_in = Memᴰ.head refl;
  largest_in = last_in smallest rest;
  least = first_least smallest rest a;
  most = last_most smallest rest a;
  stays_in = λ x m. inside x (found x);
  up = λ x h. above x h (found x);
  closest = λ x y m h. nearest x y m h (found x);
  wraps = top (found largest);
}
  where
    ns : List ℕ
    ns = smallest ∷ rest

    largest : ℕ
    largest = last smallest rest

    found : (x : ℕ) → FirstAbove x ns smallest (next ns x)
    found x = first_above_lem x ns smallest a

    inside : (x : ℕ) → FirstAbove x ns smallest (next ns x) → next ns x ∈ ns
    inside x (inl f) = f.0
    inside x (inr f) = Memᴰ.head f.1

    above : (x : ℕ) → x < largest → FirstAbove x ns smallest (next ns x) → x < next ns x
    above x h (inl f) = f.1
    above x h (inr f) = absurd (omega (arith, f.0 largest (last_in smallest rest)))

    nearest : (x y : ℕ) → y ∈ ns → x < y → FirstAbove x ns smallest (next ns x) → next ns x ≤ y
    nearest x y m h (inl f) = f.2 y m h
    nearest x y m h (inr f) = absurd (omega (arith, f.0 y m))

    top : FirstAbove largest ns smallest (next ns largest) → next ns largest ≡ smallest
    top (inl f) = absurd (omega (arith, f.1, last_most smallest rest a (next ns largest) f.0))
    top (inr f) = f.1

-- a ring has a smallest and a largest number, with the laws
pub laws_of : (ns : List ℕ) → Stations ns → (smallest : ℕ) × (largest : ℕ) × NextLaws ns (next ns) smallest largest
laws_of [] s = absurd (not-suc-le-zero s.some)
laws_of (smallest ∷ ns) s = (smallest, last smallest ns, next_laws smallest ns s.ascending)

-- two searches with the laws give the same for every number of the ring
pub one_next : {ns : List ℕ} {f g : ℕ → ℕ} {smallest largest : ℕ} → NextLaws ns f smallest largest → NextLaws ns g smallest largest
    → (x : ℕ) → x ∈ ns → f x ≡ g x
one_next {f = f} {g = g} {smallest} {largest} F G x m = go (ℕ_discrete x largest)
  where
    go : Dec (x ≡ largest) → f x ≡ g x
    go (yes e) = ap f e ∙ F.wraps ∙ sym (ap g e ∙ G.wraps)
    go (no h) =
        let l : x < largest = omega (arith, F.most x m) in
        omega (arith, F.closest x (g x) (G.stays_in x m) (G.up x l), G.closest x (f x) (F.stays_in x m) (F.up x l))
