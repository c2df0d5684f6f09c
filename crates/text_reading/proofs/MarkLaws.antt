-- Laws of the place of a mark. Assumes nothing.
use Rattle.laws.specs.Usual.{refl, sym, ap, ap₂, ◌∙◌, Bool, true, false, cond, List, [], ℕ, suc, arith, length, get_or, take, drop, eqb}
use Rattle.std.specs.Prelude.{◌≡◌, ◌∷◌, ◌++◌, ◌+◌, ◌<◌, ◌≤◌, zero}
use Rattle.std.proofs.Common.{add-one, eq-eqb, eqb-true, length-append, take_at, drop_at, drop-drop}
use Rattle.std.proofs.Math.Seq.{split_at}
use Rattle.text_reading.specs.Marks.{before, up_to, behind}

-- no more octets stand before a mark than there are
pub before_most : (mark : ℕ) (octets : List ℕ) → before mark octets ≤ length octets
before_most mark [] = omega arith
before_most mark (octet ∷ octets) = by (eqb octet mark) (before_most mark octets)
  where
    by : (t : Bool) → before mark octets ≤ length octets → cond t 0 (suc (before mark octets)) ≤ suc (length octets)
    by true h = omega arith
    by false h = omega arith

-- a mark is found no later from a place behind the start
pub before_behind : (mark k : ℕ) (octets : List ℕ) → before mark octets ≤ k + before mark (drop k octets)
before_behind mark zero octets = omega arith
before_behind mark (suc k) [] = omega arith
before_behind mark (suc k) (octet ∷ octets) = go (eqb octet mark) (before_behind mark k octets)
  where
    go : (t : Bool) → before mark octets ≤ k + before mark (drop k octets)
        → cond t 0 (suc (before mark octets)) ≤ suc k + before mark (drop k octets)
    go true h = omega arith
    go false h = omega arith

-- a mark is found in the front of octets where it is found in all
pub before_front : (mark k : ℕ) (octets : List ℕ) → before mark octets < k → before mark (take k octets) ≡ before mark octets
before_front mark zero octets h = absurd (omega arith)
before_front mark (suc k) [] h = refl
before_front mark (suc k) (octet ∷ octets) h = go (eqb octet mark) (before_front mark k octets) h
  where
    go : (t : Bool) → (before mark octets < k → before mark (take k octets) ≡ before mark octets)
        → cond t 0 (suc (before mark octets)) < suc k → cond t 0 (suc (before mark (take k octets))) ≡ cond t 0 (suc (before mark octets))
    go true rest h = refl
    go false rest h = ap suc (rest (omega arith))

-- and the other way round
pub before_whole : (mark k : ℕ) (octets : List ℕ) → before mark (take k octets) < length (take k octets)
    → before mark octets ≡ before mark (take k octets)
before_whole mark zero octets h = absurd (omega arith)
before_whole mark (suc k) [] h = absurd (omega arith)
before_whole mark (suc k) (octet ∷ octets) h = go (eqb octet mark) (before_whole mark k octets) h
  where
    go : (t : Bool) → (before mark (take k octets) < length (take k octets) → before mark octets ≡ before mark (take k octets))
        → cond t 0 (suc (before mark (take k octets))) < suc (length (take k octets))
        → cond t 0 (suc (before mark octets)) ≡ cond t 0 (suc (before mark (take k octets)))
    go true rest h = refl
    go false rest h = ap suc (rest (omega arith))

-- a mark behind octets without one
before_append : (mark : ℕ) (a rest : List ℕ) → before mark a ≡ length a → before mark (a ++ mark ∷ rest) ≡ length a
before_append mark [] rest e = rw (eq-eqb mark mark refl)
before_append mark (x ∷ a) rest e = go (eqb x mark) refl (before_append mark a rest)
  where
    go : (t : Bool) → eqb x mark ≡ t → (before mark a ≡ length a → before mark (a ++ mark ∷ rest) ≡ length a)
        → before mark (x ∷ (a ++ mark ∷ rest)) ≡ suc (length a)
    go true t more = absurd (omega (arith, rw t at e))
    go false t more = rw t (ap suc (more (omega (arith, rw t at e))))

-- octets, a mark and more: what stands before the mark, and behind it
module _ (mark : ℕ) (a rest : List ℕ) (none : before mark a ≡ length a) where
  pub has_mark : before mark (a ++ mark ∷ rest) < length (a ++ mark ∷ rest)
  has_mark = omega (arith, before_append mark a rest none, length-append a (mark ∷ rest))

  pub up_to_lem : up_to mark (a ++ mark ∷ rest) ≡ a
  up_to_lem = take_at a (mark ∷ rest) (before mark (a ++ mark ∷ rest)) (sym (before_append mark a rest none))

  pub behind_it : behind mark (a ++ mark ∷ rest) ≡ rest
  behind_it =
      ap (λ (k : ℕ). drop (k + 1) (a ++ mark ∷ rest)) (before_append mark a rest none)
      ∙ sym (drop-drop 1 (length a) (a ++ mark ∷ rest))
      ∙ ap (drop 1) (drop_at a (mark ∷ rest) (length a) refl)

-- what stands at the first mark
at_mark : (mark : ℕ) (octets : List ℕ) → before mark octets < length octets → get_or octets (before mark octets) 0 ≡ mark
at_mark mark [] h = absurd (omega arith)
at_mark mark (octet ∷ octets) h = go (eqb octet mark) refl (at_mark mark octets)
  where
    go : (t : Bool) → eqb octet mark ≡ t → (before mark octets < length octets → get_or octets (before mark octets) 0 ≡ mark)
        → get_or (octet ∷ octets) (before mark (octet ∷ octets)) 0 ≡ mark
    go true e rest = rw e (eqb-true octet mark e)
    go false e rest = rw e (rest (omega (arith, rw e at h)))

-- octets with a mark are what stands before it, the mark, and what stands behind it
pub split_mark : (mark : ℕ) (octets : List ℕ) → before mark octets < length octets → octets ≡ up_to mark octets ++ mark ∷ behind mark octets
split_mark mark octets h =
    split_at octets (before mark octets) 0 h
    ∙ ap₂ (λ (x : ℕ) (l : List ℕ). up_to mark octets ++ x ∷ l) (at_mark mark octets h) (ap (λ (k : ℕ). drop k octets) (sym (add-one (before mark octets))))
