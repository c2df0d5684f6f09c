-- Next and the smallest by searches for the first listed number: above a number, and from the start. Assumes nothing.
use Rattle.laws.specs.Usual.{refl, ap, ◌∙◌, Bool, true, false, cond, List, [], ℕ, suc, min, arith, drop, ltb}
use Rattle.std.specs.Prelude.{◌≡◌, ◌∷◌, ◌+◌, ◌<◌, zero}
use Rattle.std.proofs.Common.{lt-ltb, le-ltb, ltb-true, ltb-false}
use Rattle.settling.specs.Ring.{first_above, next}
use Rattle.members.specs.Members.{numbers_from, numbers_of, is_empty, with_ours, first_of, smallest, next_after}
use Rattle.members_searching.specs.Search.{first_in, first_from, is_nobody, number_or}
use Rattle.members.specs.declared.Entry.{Entry}
use Rattle.members.specs.declared.Members.{Members}

-- where all are above x, the first one is the first above
all_above : (x k : ℕ) (entries : List Entry) (d : ℕ) → x < k → first_above x (numbers_from k entries) d ≡ number_or d (first_in (numbers_from k entries))
all_above x k [] d h = refl
all_above x k (entry ∷ rest) d h = by entry.listed (all_above x (suc k) rest d (omega arith))
  where
    by : (t : Bool) → first_above x (numbers_from (suc k) rest) d ≡ number_or d (first_in (numbers_from (suc k) rest))
        → first_above x (cond t (k ∷ numbers_from (suc k) rest) (numbers_from (suc k) rest)) d
        ≡ number_or d (first_in (cond t (k ∷ numbers_from (suc k) rest) (numbers_from (suc k) rest)))
    by true e = rw (lt-ltb x k h)
    by false e = e

-- those up to x are passed over
above_listed : (x k j : ℕ) (entries : List Entry) (d : ℕ) → k + j ≡ suc x
    → first_above x (numbers_from k entries) d ≡ number_or d (first_in (numbers_from (suc x) (drop j entries)))
above_listed x k zero entries d e =
    let here : k ≡ suc x = omega arith in
    all_above x k entries d (omega arith) ∙ ap (λ (n : ℕ). number_or d (first_in (numbers_from n entries))) here
above_listed x k (suc j) [] d e = refl
above_listed x k (suc j) (entry ∷ rest) d e = by entry.listed (above_listed x (suc k) j rest d (omega arith))
  where
    by : (t : Bool) → first_above x (numbers_from (suc k) rest) d ≡ number_or d (first_in (numbers_from (suc x) (drop j rest)))
        → first_above x (cond t (k ∷ numbers_from (suc k) rest) (numbers_from (suc k) rest)) d ≡ number_or d (first_in (numbers_from (suc x) (drop j rest)))
    by true ih = rw (le-ltb x k (omega arith)) ih
    by false ih = ih

-- a choice whose first side matters only where the test holds
where_true : (t : Bool) (a b c : ℕ) → (t ≡ true → a ≡ b) → cond t a c ≡ cond t b c
where_true true a b c f = f refl
where_true false a b c f = refl

-- the first number above x in the list with ours: where ours is above x, the smaller of it and the first listed one
with_ours_lem : (x ours : ℕ) (ns : List ℕ) (d : ℕ)
    → first_above x (with_ours ours ns) d ≡ cond (ltb x ours) (min ours (first_above x ns ours)) (first_above x ns d)
with_ours_lem x ours [] d = where_true (ltb x ours) ours (min ours ours) d (λ _. omega arith)
with_ours_lem x ours (number ∷ rest) d = go (with_ours_lem x ours rest d) (ltb ours number) refl
  where
    go : first_above x (with_ours ours rest) d ≡ cond (ltb x ours) (min ours (first_above x rest ours)) (first_above x rest d)
        → (t : Bool) → ltb ours number ≡ t
        → first_above x (cond t (ours ∷ number ∷ rest) (number ∷ with_ours ours rest)) d
        ≡ cond (ltb x ours) (min ours (first_above x (number ∷ rest) ours)) (first_above x (number ∷ rest) d)
    go ih true e =
        let h = ltb-true ours number e in
        where_true (ltb x ours) ours (min ours (first_above x (number ∷ rest) ours)) (first_above x (number ∷ rest) d)
        (λ above. rw (lt-ltb x number (omega (arith, ltb-true x ours above))) (omega arith))
    go ih false e = by (ltb x number) refl
      where
        by : (t : Bool) → ltb x number ≡ t
            → cond t number (first_above x (with_ours ours rest) d)
            ≡ cond (ltb x ours) (min ours (cond t number (first_above x rest ours))) (cond t number (first_above x rest d))
        by true above =
            let h = ltb-false ours number e in
            rw (lt-ltb x ours (omega (arith, ltb-true x number above))) (omega arith)
        by false _ = ih

first_with_ours : (ours : ℕ) (ns : List ℕ) → first_of (with_ours ours ns) ≡ min ours (number_or ours (first_in ns))
first_with_ours ours [] = omega arith
first_with_ours ours (number ∷ rest) = go (ltb ours number) refl
  where
    go : (t : Bool) → ltb ours number ≡ t → first_of (cond t (ours ∷ number ∷ rest) (number ∷ with_ours ours rest)) ≡ min ours number
    go true e = let h = ltb-true ours number e in omega arith
    go false e = let h = ltb-false ours number e in omega arith

pub smallest_found : (ours : ℕ) (members : Members) → smallest ours members ≡ min ours (number_or ours (first_from 0 members))
smallest_found ours members = first_with_ours ours (numbers_of members)

-- the list with ours is not empty
next_above : (ours : ℕ) (ns : List ℕ) (x : ℕ) → next (with_ours ours ns) x ≡ first_above x (with_ours ours ns) (first_of (with_ours ours ns))
next_above ours [] x = refl
next_above ours (number ∷ rest) x = by (ltb ours number)
  where
    by : (t : Bool) → next (cond t (ours ∷ number ∷ rest) (number ∷ with_ours ours rest)) x
        ≡ first_above x (cond t (ours ∷ number ∷ rest) (number ∷ with_ours ours rest)) (first_of (cond t (ours ∷ number ∷ rest) (number ∷ with_ours ours rest)))
    by true = refl
    by false = refl

above_found : (x : ℕ) (members : Members) (d : ℕ) → first_above x (numbers_of members) d ≡ number_or d (first_from (x + 1) members)
above_found x members d =
    let one : x + 1 ≡ suc x = omega arith in
    rw one (above_listed x 0 (suc x) members.entries d (omega arith))

pub next_found : (ours : ℕ) (members : Members) (x : ℕ)
    → next_after ours members x ≡ cond (ltb x ours) (min ours (number_or ours (first_from (x + 1) members))) (number_or (smallest ours members) (first_from (x + 1) members))
next_found ours members x =
    next_above ours (numbers_of members) x
    ∙ with_ours_lem x ours (numbers_of members) (smallest ours members)
    ∙ rw (above_found x members ours, above_found x members (smallest ours members))

pub empty_found : (members : Members) → is_empty (numbers_of members) ≡ is_nobody (first_from 0 members)
empty_found members = by (numbers_of members)
  where
    by : (ns : List ℕ) → is_empty ns ≡ is_nobody (first_in ns)
    by [] = refl
    by (number ∷ rest) = refl
