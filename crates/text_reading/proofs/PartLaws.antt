-- Laws of the parts of a line, for code that goes through it from place to place. Assumes nothing.
use Rattle.laws.specs.Usual.{refl, sym, ap, ap₂, ◌∙◌, Bool, true, false, cond, List, [], ℕ, suc, arith, length, get_or, take, drop, eqb, leb, ltb}
use Rattle.std.specs.Prelude.{◌≡◌, ◌∷◌, ◌+◌, ◌<◌, ◌≤◌, zero}
use Rattle.std.proofs.Math.Decide.{dec_le, dec_lt}
use Rattle.std.proofs.Common.{add-zero, add-one, le-leb, lt-ltb, le-ltb, length-take, length-drop, drop-drop, get_or-drop}
use Rattle.std.proofs.lemmas.Bool.{lt-leb}
use Rattle.text_reading.specs.Marks.{before, up_to}
use Rattle.text_reading.proofs.MarkLaws.{before_most}
use Rattle.text_reading.specs.Parts.{in_front, parts_of, parts_behind, end_of}
use Rattle.text_reading.proofs.ValueLaws.{both_more}

-- what stands behind the first part
abbrev others : ℕ → List ℕ → List (List ℕ)
others mark line = cond (ltb (before mark line) (length line)) (parts_of mark (drop (before mark line + 1) line)) []

parts_first : (mark : ℕ) (line : List ℕ) → parts_of mark line ≡ up_to mark line ∷ others mark line
parts_first mark [] = refl
parts_first mark (octet ∷ line) = by (eqb octet mark) (parts_first mark line)
  where
    by : (t : Bool) → parts_of mark line ≡ up_to mark line ∷ others mark line →
        cond t ([] ∷ parts_of mark line) (in_front octet (parts_of mark line))
        ≡ take (cond t 0 (suc (before mark line))) (octet ∷ line)
        ∷ cond (ltb (cond t 0 (suc (before mark line))) (suc (length line))) (parts_of mark (drop (cond t 0 (suc (before mark line)) + 1) (octet ∷ line))) []
    by true e = rw (lt-ltb 0 (suc (length line)) (omega arith))
    by false e =
        let place : suc (before mark line + 1) ≡ suc (before mark line) + 1 = omega arith in
        ap (in_front octet) e
        ∙ ap₂ (λ (t : Bool) (parts : List (List ℕ)). (octet ∷ up_to mark line) ∷ cond t parts []) (both_more (before mark line) (length line))
        (ap (λ (k : ℕ). parts_of mark (drop k (octet ∷ line))) place)

module _ (mark : ℕ) (line : List ℕ) (place : ℕ) where
  abbrev rest : List ℕ
  rest = drop (place + 1) line

  pub first_part : place < length line → get_or (parts_behind mark line place) 0 [] ≡ up_to mark rest
  first_part h = rw (lt-ltb place (length line) h, parts_first mark rest)

  pub part_length : place < length line → length (get_or (parts_behind mark line place) 0 []) ≡ before mark rest
  part_length h = ap length (first_part h) ∙ length-take (before mark rest) rest ∙ omega (arith, before_most mark rest)

  pub end_place : place < length line → end_of mark line place ≡ place + 1 + before mark rest
  end_place h =
      ap (λ (t : Bool). cond t (place + 1 + length (get_or (parts_behind mark line place) 0 [])) place) (lt-ltb place (length line) h)
      ∙ ap (λ (k : ℕ). place + 1 + k) (part_length h)

  pub no_parts : length line ≤ place → parts_behind mark line place ≡ []
  no_parts h = rw (le-ltb place (length line) h)

  pub no_end : length line ≤ place → end_of mark line place ≡ place
  no_end h = ap (λ (t : Bool). cond t (place + 1 + length (get_or (parts_behind mark line place) 0 [])) place) (le-ltb place (length line) h)

  -- the parts behind the first one
  others_behind : place < length line → parts_behind mark line (place + 1 + before mark rest) ≡ others mark rest
  others_behind h = by (dec_lt (before mark rest) (length rest))
    where
      by : Dec (before mark rest < length rest) → parts_behind mark line (place + 1 + before mark rest) ≡ others mark rest
      by (yes more) =
          let there : place + 1 + before mark rest + 1 ≡ place + 1 + (before mark rest + 1) = omega arith in
          rw (lt-ltb (place + 1 + before mark rest) (length line) (omega (arith, length-drop (place + 1) line)), lt-ltb _ _ more, drop-drop (before mark rest + 1) (place + 1) line)
          (ap (λ (k : ℕ). parts_of mark (drop k line)) there)
      by (no all) = rw (le-ltb (place + 1 + before mark rest) (length line) (omega (arith, length-drop (place + 1) line)), le-ltb (before mark rest) (length rest) (omega arith))

  next_parts : parts_behind mark line (end_of mark line place) ≡ drop 1 (parts_behind mark line place)
  next_parts = by (dec_lt place (length line))
    where
      by : Dec (place < length line) → parts_behind mark line (end_of mark line place) ≡ drop 1 (parts_behind mark line place)
      by (yes h) = ap (parts_behind mark line) (end_place h) ∙ others_behind h ∙ rw (lt-ltb place (length line) h, parts_first mark rest)
      by (no h) = ap (parts_behind mark line) (no_end (omega arith)) ∙ no_parts (omega arith) ∙ ap (drop 1) (sym (no_parts (omega arith)))

  ended : leb (length line) place ≡ leb (length (parts_behind mark line place)) 0
  ended = by (dec_lt place (length line))
    where
      by : Dec (place < length line) → leb (length line) place ≡ leb (length (parts_behind mark line place)) 0
      by (yes h) = lt-leb (length line) place h ∙ rw (lt-ltb place (length line) h, parts_first mark rest) (sym (lt-leb (suc (length (others mark rest))) 0 (omega arith)))
      by (no h) = le-leb (length line) place (omega arith) ∙ rw (no_parts (omega arith))

-- the place where the k-th part behind the mark at a place ends
abbrev pub place_of : ℕ → List ℕ → ℕ → ℕ → ℕ
place_of mark line place zero = place
place_of mark line place (suc k) = end_of mark line (place_of mark line place k)

module _ (mark : ℕ) (line : List ℕ) (place : ℕ) where
  parts_at : (k : ℕ) → parts_behind mark line (place_of mark line place k) ≡ drop k (parts_behind mark line place)
  parts_at zero = refl
  parts_at (suc k) = next_parts mark line (place_of mark line place k) ∙ ap (drop 1) (parts_at k) ∙ drop-drop 1 k (parts_behind mark line place) ∙ ap (λ (n : ℕ). drop n (parts_behind mark line place)) (add-one k)

  -- behind it stands the next of the parts
  pub part_at : (k : ℕ) → get_or (parts_behind mark line (place_of mark line place k)) 0 [] ≡ get_or (parts_behind mark line place) k []
  part_at k =
      ap (λ (parts : List (List ℕ)). get_or parts 0 []) (parts_at k)
      ∙ get_or-drop k (parts_behind mark line place) 0 []
      ∙ ap (λ (n : ℕ). get_or (parts_behind mark line place) n []) (add-zero k)

  -- the line ends there where there are no more
  pub ended_at : (k : ℕ) → leb (length line) (place_of mark line place k) ≡ leb (length (parts_behind mark line place)) k
  ended_at k = ended mark line (place_of mark line place k) ∙ ap (λ (parts : List (List ℕ)). leb (length parts) 0) (parts_at k) ∙ by (dec_le (length (parts_behind mark line place)) k)
    where
      by : Dec (length (parts_behind mark line place) ≤ k) → leb (length (drop k (parts_behind mark line place))) 0 ≡ leb (length (parts_behind mark line place)) k
      by (yes h) = le-leb (length (drop k (parts_behind mark line place))) 0 (omega (arith, length-drop k (parts_behind mark line place))) ∙ sym (le-leb (length (parts_behind mark line place)) k h)
      by (no h) = lt-leb (length (drop k (parts_behind mark line place))) 0 (omega (arith, length-drop k (parts_behind mark line place))) ∙ sym (lt-leb (length (parts_behind mark line place)) k (omega arith))
