-- All views are equal where the number of different views is at most 1. Assumes nothing.
use Rattle.std.specs.Prelude.{◌≡◌, ◌∷◌, ◌<◌, ◌≤◌}
use Rattle.laws.specs.Usual.{refl, sym, ap, ◌∙◌, Bool, true, false, cond, false≢true, List, [], map, ℕ, suc, arith, length, eqb}
use Rattle.std.proofs.Math.Bool.{or-true}
use mathlib.Core.List.Memᴰ
use Rattle.std.proofs.Common.{eqb-true, eq-eqb}
use Rattle.settling.specs.Ring.{◌∈◌, Views, Agreed}
use Rattle.settle_views.specs.Views.{member, different, different_views}

-- the views of the stations of a list
at_map : (ns : List ℕ) (views : Views) (x : ℕ) → x ∈ ns → views x ∈ map views ns
at_map (y ∷ ns) views x (Memᴰ.head e) = Memᴰ.head (ap views e)
at_map (y ∷ ns) views x (Memᴰ.tail m) = Memᴰ.tail (at_map ns views x m)
at_map [] views x x3 = elim x3 [ ]

pub of_map : (ns : List ℕ) (views : Views) (v : ℕ) → v ∈ map views ns → (x : ℕ) × (x ∈ ns) × (v ≡ views x)
of_map [] views v m = elim m [ ]
of_map (y ∷ ns) views v (Memᴰ.head e) = (y, Memᴰ.head refl, e)
of_map (y ∷ ns) views v (Memᴰ.tail m) = let (x, k, e) = of_map ns views v m in (x, Memᴰ.tail k, e)

pub member_in : (x : ℕ) (l : List ℕ) → member x l ≡ true → x ∈ l
member_in x [] e = absurd (false≢true e)
member_in x (y ∷ l) e = go (eqb x y) refl (member_in x l)
  where
    go : (t : Bool) → eqb x y ≡ t → (member x l ≡ true → x ∈ l) → x ∈ (y ∷ l)
    go true p rest = Memᴰ.head (eqb-true x y p)
    go false p rest = Memᴰ.tail (rest (rw p at e))

pub in_member : (x : ℕ) (l : List ℕ) → x ∈ l → member x l ≡ true
in_member x (y ∷ l) (Memᴰ.head e) = rw (eq-eqb x y e)
in_member x (y ∷ l) (Memᴰ.tail m) = rw (in_member x l m, or-true (eqb x y))
in_member x [] x'' = elim x'' [ ]

-- all numbers of a list are equal
abbrev AllEqual : List ℕ → Type 0
AllEqual l = (x y : ℕ) → x ∈ l → y ∈ l → x ≡ y

-- only the empty list has no number
none : (l : List ℕ) → different l ≤ 0 → (x : ℕ) → x ∈ l → ⊥
none (y ∷ l) h x m = go (member y l) refl (none l)
  where
    go : (t : Bool) → member y l ≡ t → (different l ≤ 0 → (x : ℕ) → x ∈ l → ⊥) → ⊥
    go true e rest = rest (rw e at h) y (member_in y l e)
    go false e rest = omega (arith, rw e at h)
none [] h x m = elim m [ ]

one_equal : (l : List ℕ) → different l ≤ 1 → AllEqual l
one_equal (z ∷ l) h x y a b = go (member z l) refl (one_equal l) a b
  where
    go : (t : Bool) → member z l ≡ t → (different l ≤ 1 → AllEqual l) → x ∈ (z ∷ l) → y ∈ (z ∷ l) → x ≡ y
    go true e rest a b =
        let same : AllEqual l = rest (rw e at h) in
        same x y (into e a) (into e b)
      where
        into : member z l ≡ true → {w : ℕ} → w ∈ (z ∷ l) → w ∈ l
        into e (Memᴰ.head p) = Memᴰ.cast p (member_in z l e)
        into e (Memᴰ.tail m) = m
    go false e rest (Memᴰ.head p) (Memᴰ.head q) = p ∙ sym q
    go false e rest (Memᴰ.head p) (Memᴰ.tail k) = absurd (none l (omega (arith, rw e at h)) y k)
    go false e rest (Memᴰ.tail m) b = absurd (none l (omega (arith, rw e at h)) x m)
one_equal [] h x y a b = elim a [ ]

equal_one : (l : List ℕ) → AllEqual l → different l ≤ 1
equal_one [] f = omega arith
equal_one (z ∷ []) f = omega arith
equal_one (z ∷ w ∷ l) f =
    let again : member z (w ∷ l) ≡ true = in_member z (w ∷ l) (Memᴰ.head (f z w (Memᴰ.head refl) (Memᴰ.tail (Memᴰ.head refl)))) in
    rw again (equal_one (w ∷ l) (λ x y a b. f x y (Memᴰ.tail a) (Memᴰ.tail b)))

pub one_agreed : (ns : List ℕ) (views : Views) → different_views ns views ≤ 1 → Agreed ns views
one_agreed ns views h x y a b = one_equal (map views ns) h (views x) (views y) (at_map ns views x a) (at_map ns views y b)

pub agreed_one : (ns : List ℕ) (views : Views) → Agreed ns views → different_views ns views ≤ 1
agreed_one ns views f = equal_one (map views ns) same
  where
    same : AllEqual (map views ns)
    same v w a b =
        let (x, i, e) = of_map ns views v a in
        let (y, j, d) = of_map ns views w b in
        e ∙ f x y i j ∙ sym d

-- a ring with a station has a view
some_different : (x : ℕ) (l : List ℕ) → 1 ≤ different (x ∷ l)
some_different x [] = omega arith
some_different x (y ∷ l) = go (member x (y ∷ l)) (some_different y l)
  where
    go : (t : Bool) → 1 ≤ different (y ∷ l) → 1 ≤ cond t (different (y ∷ l)) (suc (different (y ∷ l)))
    go true h = h
    go false h = omega arith

pub some_view : (ns : List ℕ) (views : Views) → 0 < length ns → 1 ≤ different_views ns views
some_view [] views h = absurd (omega arith)
some_view (x ∷ ns) views h = some_different (views x) (map views ns)
