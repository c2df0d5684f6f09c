-- Laws for loops that go over a ring by the numbers of its stations. Assumes nothing.
use Rattle.std.specs.Prelude.{◌≡◌, ◌+◌, ◌<◌, ◌≤◌, Some, None, ◌∷◌, ◌++◌}
use Rattle.laws.specs.Usual.{ap, List, ℕ, length, get_or, drop, sym, ◌∙◌, map, suc, arith, take, set}
use Rattle.std.proofs.Common.{add-one, eq-eqb, ne_eqb, drop_of_length-le, drop-cons, append-nil, take-suc, take_all, length-take-le}
use Rattle.settle_moves.specs.Moves.{first_listed}
use Rattle.std.proofs.lemmas.List.{length-map, set_at}
use Rattle.std.proofs.Math.ListN.{get_or-map}
use Rattle.std.proofs.Math.Seq.{append_snoc, get_or-append_seam}

module _ (views : List ℕ) (i : ℕ) where
  -- at the end no station is left
  pub listed_end : length views ≤ i → first_listed i (drop i views) ≡ None
  listed_end h = ap (first_listed i) (drop_of_length-le views h)

  -- a number that is not listed is passed over
  pub listed_skip : i < length views → get_or views i 0 ≡ 0 → first_listed i (drop i views) ≡ first_listed (i + 1) (drop (i + 1) views)
  listed_skip h e = rw (add-one, drop-cons views i 0, eq-eqb _ _ e)

  -- a number that is listed is the first there
  pub listed_first : i < length views → ¬ (get_or views i 0 ≡ 0) → first_listed i (drop i views) ≡ Some i
  listed_first h n = rw (drop-cons views i 0, ne_eqb _ _ n)

-- How far a loop is that takes every element of a list to its value under f, in place and from the front.
abbrev pub Mapped : (ℕ → ℕ) → List ℕ → List ℕ → ℕ → Type 0
Mapped f old new i = new ≡ take i (map f old) ++ drop i old

module _ (f : ℕ → ℕ) (old new : List ℕ) (i : ℕ) (m : Mapped f old new i) where
  module _ (h : i < length old) where
    place : length (take i (map f old)) ≡ i
    place = let long : i ≤ length (map f old) = rw (length-map old f) (omega arith) in length-take-le i (map f old) long

    parted : new ≡ take i (map f old) ++ (get_or old i 0 ∷ drop (suc i) old)
    parted = m ∙ ap (λ (l : List ℕ). take i (map f old) ++ l) (drop-cons old i 0 h)

    -- the element that comes next is as it was
    pub mapped_here : get_or new i 0 ≡ get_or old i 0
    mapped_here =
        ap (λ (l : List ℕ). get_or l i 0) parted
        ∙ ap (λ (k : ℕ). get_or (take i (map f old) ++ (get_or old i 0 ∷ drop (suc i) old)) k 0) (sym place)
        ∙ get_or-append_seam (take i (map f old)) (get_or old i 0) (drop (suc i) old) 0

    -- one more element
    pub mapped_more : Mapped f old (set new i (f (get_or new i 0))) (i + 1)
    mapped_more =
        let front = take i (map f old) in
        let here = get_or old i 0 in
        let rest = drop (suc i) old in
        let long : i < length (map f old) = rw (length-map old f) h in
        ap (λ (x : ℕ). set new i (f x)) mapped_here
        ∙ ap (λ (l : List ℕ). set l i (f here)) parted
        ∙ set_at front here rest (f here) i place
        ∙ sym (append_snoc front (f here) rest)
        ∙ sym (rw (add-one i, take-suc (map f old) i (f 0) long, get_or-map f old i 0))

  -- and at the end the whole list
  pub mapped_all : length old ≤ i → new ≡ map f old
  mapped_all h =
      let all : length (map f old) ≤ i = rw (length-map old f) h in
      m ∙ rw (take_all i (map f old) all, drop_of_length-le old h, append-nil (map f old))
