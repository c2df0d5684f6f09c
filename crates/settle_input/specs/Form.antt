-- Laws of the form of a line, for code that works on parts of it. Assumes nothing.
use Rattle.std.specs.Prelude.{None, Some, ◌≡◌, ◌∷◌, ◌+◌, ◌<◌, ◌≤◌}
use Rattle.laws.specs.Usual.{refl, sym, ap, ◌∙◌, cond, List, [], ℕ, suc, arith, length, take, eqb}
use Rattle.std.proofs.Common.{add-one, length-take, take_all}
use Rattle.std.proofs.Math.Decide.{dec_lt}
use Rattle.std.proofs.Math.Numerals.{one-add}
use Rattle.std.specs.List.{position_or_len}
use Rattle.std.proofs.lemmas.List.Recursion.{is_position_or_len}
use Rattle.std.proofs.lemmas.Option.{cond_some}
use borrow.Author.Tests.{lt-ltb, le-ltb, ltb-true}
use Rattle.text.specs.Lines.{comma, line_feed}
use Rattle.text_reading.proofs.MarkLaws.{before_most}
use Rattle.text_reading.specs.Marks.{before, up_to, behind, has}
use Rattle.settle_input.specs.Input.{number_in, place_in, entry_with, entry_of, first_line}

pub empty_list : (l : List ℕ) → length l ≤ 0 → l ≡ []
empty_list [] h = refl
empty_list (x ∷ l) h = absurd (omega arith)

pub line_with_end : (octets : List ℕ) → before line_feed octets < length octets → before line_feed octets + 1 ≡ length (first_line octets)
line_with_end octets h = sym (length-take (suc (before line_feed octets)) octets ∙ omega arith)

pub line_without_end : (octets : List ℕ) → length octets ≤ before line_feed octets → before line_feed octets ≡ length (first_line octets)
line_without_end octets h = sym (length-take (suc (before line_feed octets)) octets ∙ omega (arith, before_most line_feed octets))

pub no_comma : (line : List ℕ) → length line ≤ before comma line → None ≡ entry_of line
unfolding entry_of
no_comma line h = rw (le-ltb _ _ h)

module _ (line : List ℕ) (within : before comma line < length line) where
  pub no_end : length (behind comma line) ≤ before line_feed (behind comma line) → None ≡ entry_of line
  unfolding entry_of
  no_end h = rw (lt-ltb _ _ within, le-ltb _ _ h)

  -- the two numbers
  pub entry_made : before line_feed (behind comma line) < length (behind comma line)
      → entry_with (number_in (up_to comma line)) (number_in (up_to line_feed (behind comma line))) ≡ entry_of line
  unfolding entry_of
  entry_made h = rw (lt-ltb _ _ within, lt-ltb _ _ h)

-- the first line is a part of the octets, from their start
pub first_line_most : (octets : List ℕ) → length (first_line octets) ≤ length octets
first_line_most octets = omega (arith, length-take (suc (before line_feed octets)) octets)

pub first_line_taken : (octets : List ℕ) → take (length (first_line octets)) octets ≡ first_line octets
first_line_taken octets = go (dec_lt (before line_feed octets) (length octets))
  where
    go : Dec (before line_feed octets < length octets) → take (length (first_line octets)) octets ≡ first_line octets
    go (yes h) = ap (λ (k : ℕ). take k octets) (sym (line_with_end octets h) ∙ add-one (before line_feed octets))
    go (no h) =
        let short : length octets ≤ before line_feed octets = omega arith in
        take_all (length (first_line octets)) octets (omega (arith, line_without_end octets short)) ∙ sym (take_all (suc (before line_feed octets)) octets (omega arith))

-- the place of a mark that was found, and of one that was not
pub place_some : (mark : ℕ) (octets : List ℕ) (place : ℕ) → place_in mark octets ≡ Some place → (before mark octets ≡ place) × (before mark octets < length octets)
place_some mark octets place e =
    let (found, same) = cond_some (has mark octets) (before mark octets) place e in
    (same, ltb-true (before mark octets) (length octets) found)

pub place_none : (mark : ℕ) (octets : List ℕ) → place_in mark octets ≡ None → length octets ≤ before mark octets
place_none mark octets e = go (dec_lt (before mark octets) (length octets))
  where
    go : Dec (before mark octets < length octets) → length octets ≤ before mark octets
    go (yes h) = let z = rw (lt-ltb _ _ h) at e in absurd (cc)
    go (no h) = omega arith

-- the library's search finds the first mark
pub place_found : (mark : ℕ) (octets : List ℕ) → before mark octets ≡ position_or_len (λ octet. eqb octet mark) octets
place_found mark octets = is_position_or_len (before mark) (λ octet. eqb octet mark) refl (λ x xs. ap (cond (eqb x mark) 0) (sym (one-add (before mark xs)))) octets
