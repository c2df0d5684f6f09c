-- Laws of words, for code that goes through a line from place to place. Assumes nothing.
use Rattle.std.specs.Prelude.{◌≡◌, ◌+◌, ◌<◌, ◌≤◌}
use Rattle.laws.specs.Usual.{ap, ◌∙◌, true, false, List, ℕ, suc, length, get_or, drop, eqb}
use Rattle.std.proofs.Common.{add-one, ne_eqb, drop_of_length-le, drop-cons}
use Rattle.text.specs.Lines.{space}
use Rattle.text_reading.proofs.PartLaws.{place_of, part_at}
use Rattle.text_reading.specs.Parts.{end_of}
use Rattle.replay_words.specs.Words.{begins, words_behind, decimal, number_in, number_at}
use Rattle.replay_words.specs.declared.Number.{Number}

-- a word and a line, compared from a place on
module _ (word line : List ℕ) (i : ℕ) where
  pub begins_done : length word ≤ i → begins (drop i word) (drop i line) ≡ true
  begins_done h = rw (drop_of_length-le word h)

  pub begins_short : i < length word → length line ≤ i → begins (drop i word) (drop i line) ≡ false
  begins_short p q = rw (drop-cons word i 0 p, drop_of_length-le line q)

  pub begins_other : i < length word → i < length line → (get_or line i 0 ≡ get_or word i 0 → ⊥) → begins (drop i word) (drop i line) ≡ false
  begins_other p q n = rw (drop-cons word i 0 p, drop-cons line i 0 q, ne_eqb (get_or line i 0) (get_or word i 0) n)

  pub begins_more : i < length word → i < length line → eqb (get_or line i 0) (get_or word i 0) ≡ true → begins (drop i word) (drop i line) ≡ begins (drop (i + 1) word) (drop (i + 1) line)
  begins_more p q e = rw (add-one i, drop-cons word i 0 p, drop-cons line i 0 q, e)

module _ (line : List ℕ) (place : ℕ) where
  -- a number read where the k-th word ends is the next one
  pub read_at : (k at : ℕ) (number : Number) → at ≡ place_of space line place k → number ≡ number_at line at →
      (number.value ≡ number_in (words_behind line place) k) × (number.end ≡ place_of space line place (suc k))
  read_at k at number p e = (
    ap (λ (n : Number). n.value) e ∙ ap (λ (x : ℕ). number_in (words_behind line x) 0) p ∙ ap decimal (part_at space line place k),
    ap (λ (n : Number). n.end) e ∙ ap (end_of space line) p,
  )
