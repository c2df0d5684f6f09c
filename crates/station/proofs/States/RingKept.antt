-- The list with ours is a ring of different numbers in ascending order: our own, and those listed. Assumes nothing.
use Rattle.laws.specs.Usual.{[], refl, sym, subst, Bool, true, false, cond, false≢true, List, ℕ, suc, arith, length, get_or, ltb}
use Rattle.std.specs.Prelude.{◌≡◌, ◌∷◌, ◌+◌, ◌<◌, ◌⊎◌, zero}
use Rattle.std.proofs.Common.{inl, inr, ltb-true, ltb-false}
use mathlib.Core.List.Memᴰ
use Rattle.std.proofs.lemmas.Bool.{eqb-false}
use Rattle.members.specs.Members.{nobody, is_listed, numbers_from, numbers_of, with_ours, ring_of}
use Rattle.station.specs.Types.{Entry, Members}
use Rattle.settling.specs.Ring.{◌∈◌, Ascending, Stations}
use Rattle.station.specs.States.Reachable.{Listed}
use Rattle.station.specs.States.RingKept.{Found}

found : (entries : List Entry) (from x : ℕ) → x ∈ numbers_from from entries → Found entries from x
found [] from x m = elim m [ ]
found (entry ∷ rest) from x m = by entry.listed refl (found rest (suc from) x) m
  where
    later : Found rest (suc from) x → Found (entry ∷ rest) from x
    later f = let p = f.1 in (suc f.0, omega arith, f.2)

    by : (listed : Bool) → entry.listed ≡ listed → (x ∈ numbers_from (suc from) rest → Found rest (suc from) x)
        → x ∈ cond listed (from ∷ numbers_from (suc from) rest) (numbers_from (suc from) rest) → Found (entry ∷ rest) from x
    by true e more (Memᴰ.head p) = (0, omega arith, e)
    by true e more (Memᴰ.tail n) = later (more n)
    by false e more n = later (more n)

stands : (entries : List Entry) (from i : ℕ) → (get_or entries i nobody).listed ≡ true → (from + i) ∈ numbers_from from entries
stands [] from i e = absurd (false≢true e)
stands (entry ∷ rest) from zero e = subst (λ (t : Bool). (from + 0) ∈ cond t (from ∷ numbers_from (suc from) rest) (numbers_from (suc from) rest)) (sym e) (Memᴰ.head (omega arith))
stands (entry ∷ rest) from (suc i) e = by entry.listed (stands rest (suc from) i e)
  where
    by : (listed : Bool) → (suc from + i) ∈ numbers_from (suc from) rest
        → (from + suc i) ∈ cond listed (from ∷ numbers_from (suc from) rest) (numbers_from (suc from) rest)
    by true m = let s : suc from + i ≡ from + suc i = omega arith in Memᴰ.tail (subst (λ (n : ℕ). n ∈ numbers_from (suc from) rest) s m)
    by false m = let s : suc from + i ≡ from + suc i = omega arith in subst (λ (n : ℕ). n ∈ numbers_from (suc from) rest) s m

numbers_ascend : (entries : List Entry) (from : ℕ) → Ascending (numbers_from from entries)
numbers_ascend [] from = tt
numbers_ascend (entry ∷ rest) from = by entry.listed (numbers_ascend rest (suc from))
  where
    by : (listed : Bool) → Ascending (numbers_from (suc from) rest)
        → Ascending (cond listed (from ∷ numbers_from (suc from) rest) (numbers_from (suc from) rest))
    by true more = (λ y m. let f = found rest (suc from) y m in let p = f.1 in omega arith, more)
    by false more = more

-- with ours
module _ (ours : ℕ) where
  ours_in : (numbers : List ℕ) → ours ∈ with_ours ours numbers
  ours_in [] = Memᴰ.head refl
  ours_in (number ∷ rest) = by (ltb ours number) (ours_in rest)
    where
      by : (test : Bool) → ours ∈ with_ours ours rest → ours ∈ cond test (ours ∷ number ∷ rest) (number ∷ with_ours ours rest)
      by true m = Memᴰ.head refl
      by false m = Memᴰ.tail m

  others_in : (numbers : List ℕ) (x : ℕ) → x ∈ numbers → x ∈ with_ours ours numbers
  others_in [] x m = elim m [ ]
  others_in (number ∷ rest) x m = by (ltb ours number) (others_in rest x) m
    where
      by : (test : Bool) → (x ∈ rest → x ∈ with_ours ours rest) → x ∈ (number ∷ rest) → x ∈ cond test (ours ∷ number ∷ rest) (number ∷ with_ours ours rest)
      by true more m = Memᴰ.tail m
      by false more (Memᴰ.head p) = Memᴰ.head p
      by false more (Memᴰ.tail n) = Memᴰ.tail (more n)

  which : (numbers : List ℕ) (x : ℕ) → x ∈ with_ours ours numbers → (x ≡ ours) ⊎ (x ∈ numbers)
  which [] x (Memᴰ.head p) = inl p
  which [] x (Memᴰ.tail m) = elim m [ ]
  which (number ∷ rest) x m = by (ltb ours number) (which rest x) m
    where
      later : (x ≡ ours) ⊎ (x ∈ rest) → (x ≡ ours) ⊎ (x ∈ (number ∷ rest))
      later (inl p) = inl p
      later (inr n) = inr (Memᴰ.tail n)

      by : (test : Bool) → (x ∈ with_ours ours rest → (x ≡ ours) ⊎ (x ∈ rest)) → x ∈ cond test (ours ∷ number ∷ rest) (number ∷ with_ours ours rest)
          → (x ≡ ours) ⊎ (x ∈ (number ∷ rest))
      by true more (Memᴰ.head p) = inl p
      by true more (Memᴰ.tail n) = inr n
      by false more (Memᴰ.head p) = inr (Memᴰ.head p)
      by false more (Memᴰ.tail n) = later (more n)

  ascends : (numbers : List ℕ) → Ascending numbers → ((x : ℕ) → x ∈ numbers → ¬ (x ≡ ours)) → Ascending (with_ours ours numbers)
  ascends [] a other = (λ y m. elim m [ ], tt)
  ascends (number ∷ rest) a other = by (ltb ours number) refl (ascends rest a.1 (λ x m. other x (Memᴰ.tail m)))
    where
      above : ours < number → (y : ℕ) → y ∈ (number ∷ rest) → ours < y
      above h y (Memᴰ.head p) = omega arith
      above h y (Memᴰ.tail m) = omega (arith, a.0 y m)

      below : number < ours → (y : ℕ) → (y ≡ ours) ⊎ (y ∈ rest) → number < y
      below h y (inl p) = omega arith
      below h y (inr m) = a.0 y m

      by : (test : Bool) → ltb ours number ≡ test → Ascending (with_ours ours rest)
          → Ascending (cond test (ours ∷ number ∷ rest) (number ∷ with_ours ours rest))
      by true t more = (above (ltb-true ours number t), a)
      by false t more =
          let least = ltb-false ours number t in
          let unlike = other number (Memᴰ.head refl) in
          let h : number < ours = omega arith in
          (λ y m. below h y (which rest y m), more)

  some_in : (numbers : List ℕ) (x : ℕ) → x ∈ numbers → 0 < length numbers
  some_in [] x m = elim m [ ]
  some_in (number ∷ rest) x m = omega arith

listed_of : (members : Members) (x : ℕ) → x ∈ numbers_of members → is_listed members x ≡ true
listed_of members x m =
    let f = found members.entries 0 x m in
    let p = f.1 in
    let s : f.0 ≡ x = omega arith in
    subst (λ (n : ℕ). is_listed members n ≡ true) s f.2

-- who is in the list with ours is ourselves or listed
pub in_ring : (ours : ℕ) (members : Members) (x : ℕ) → x ∈ ring_of ours members → (x ≡ ours) ⊎ (is_listed members x ≡ true)
in_ring ours members x m = by (which ours (numbers_of members) x m)
  where
    by : (x ≡ ours) ⊎ (x ∈ numbers_of members) → (x ≡ ours) ⊎ (is_listed members x ≡ true)
    by (inl p) = inl p
    by (inr n) = inr (listed_of members x n)

module _ {ours : ℕ} {members : Members} (ok : Listed ours members) where
  -- the ring of a list that is sound
  pub ring_stations : Stations (ring_of ours members)
  ring_stations = record {
    some = some_in ours (ring_of ours members) ours (ours_in ours (numbers_of members));
    ascending = ascends ours (numbers_of members) (numbers_ascend members.entries 0)
        (λ x m. eqb-false x ours (ok.each x (listed_of members x m)).other);
  }

  -- our own number is in it
  pub ours_in_ring : ours ∈ ring_of ours members
  ours_in_ring = ours_in ours (numbers_of members)

  -- and who is listed
  pub listed_in_ring : (x : ℕ) → is_listed members x ≡ true → x ∈ ring_of ours members
  listed_in_ring x e =
      let s : 0 + x ≡ x = omega arith in
      others_in ours (numbers_of members) x (subst (λ (n : ℕ). n ∈ numbers_of members) s (stands members.entries 0 x e))
