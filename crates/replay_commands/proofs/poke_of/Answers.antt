-- `replay_commands::poke_of` meets its contract.
use Rattle.std.specs.Prelude.{Option, Some, None, ◌≡◌, ◌&&◌, ◌+◌, ◌<◌, ◌≤◌}
use Rattle.laws.specs.Usual.{refl, sym, ap, ap₂, ◌∙◌, Bool, true, false, cond, List, [], ℕ, arith, length, get_or, drop, leb}
use native.Mathlib.Decide.{dec_lt}
use lib.ListN.{length-drop, get_or-eq_default}
use lib.Seq.{take_all}
use borrow.Author.Tests.{le-leb, lt-leb, lt-ltb, leb-true}
use Rattle.laws.specs.Lists.{to_end}
use Rattle.replay_commands.specs.Commands.{with_number, poke_by, poke_of}
use Rattle.text_hexadecimal.specs.Octets.{octets_of}
use Rattle.text_reading.specs.Marks.{before}
use Rattle.text_reading.proofs.PartLaws.{first_part, end_place, no_end, place_of, part_at, ended_at}
use Rattle.text_reading.specs.Parts.{end_of}
use Rattle.replay_words.proofs.WordLaws.{read_at}
use Rattle.text.specs.Lines.{space}
use Rattle.replay_words.specs.Words.{number_in, number_at, words_behind}
use Rattle.replay_commands.specs.declared.Command.TheVariants.{Poke, Bad}
use Rattle.replay_words.specs.declared.Number.{Number}
use Rattle.replay_commands.proofs.poke_of.Goals as goal

-- no octets are too few
poke_none : (at digits : ℕ) → poke_by at digits 0 ≡ Bad
poke_none at digits = by (leb (at + 0) 17408)
  where
    by : (test : Bool) → cond (test && false) (Poke (record { at = at; digits = digits; count = 0 })) Bad ≡ Bad
    by true = refl
    by false = refl

poke_nothing : (digits : ℕ) (at : Option ℕ) → with_number at (λ n. poke_by n digits 0) ≡ Bad
poke_nothing digits (Some at) = poke_none at digits
poke_nothing digits None = refl

module _ (line : List ℕ) (number : Number) (e : number ≡ number_at line 4) where
  abbrev words : List (List ℕ)
  words = words_behind line 4

  read : (number.value ≡ number_in words 0) × (number.end ≡ place_of space line 4 1)
  read = read_at line 4 0 4 number refl e

  one_word : length line ≤ number.end → poke_of words ≡ Bad
  one_word h =
      let few : leb (length words) 1 ≡ true = sym (ap (leb (length line)) read.1 ∙ ended_at space line 4 1) ∙ le-leb _ _ h in
      let none : get_or words 1 [] ≡ [] = get_or-eq_default words [] {n = 1} (leb-true (length words) 1 few) in
      ap₂ (λ (test : Bool) (word : List ℕ). cond test (with_number (number_in words 0) (λ (at : ℕ). poke_by at (6 + length (get_or words 0 [])) (length (octets_of word)))) Bad)
      (le-leb (length words) 2 (omega (arith, leb-true (length words) 1 few))) none
      ∙ poke_nothing (6 + length (get_or words 0 [])) (number_in words 0)

  module _ (h : number.end < length line) where
    abbrev rest : List ℕ
    rest = drop (number.end + 1) line

    second_end : place_of space line 4 2 ≡ number.end + 1 + before space rest
    second_end = ap (end_of space line) (sym read.1) ∙ end_place space line number.end h

    more_words : number.end + 1 + before space rest < length line → poke_of words ≡ Bad
    more_words more =
        ap (λ (test : Bool). cond test (with_number (number_in words 0) (λ (at : ℕ). poke_by at (6 + length (get_or words 0 [])) (length (octets_of (get_or words 1 []))))) Bad)
        (sym (ap (leb (length line)) (sym second_end) ∙ ended_at space line 4 2) ∙ lt-leb _ _ more)

    digits_place : 6 + length (get_or words 0 []) ≡ number.end + 1
    digits_place = by (dec_lt 4 (length line))
      where
        by : Dec (4 < length line) → 6 + length (get_or words 0 []) ≡ number.end + 1
        by (yes long) =
            let end : end_of space line 4 ≡ 4 + 1 + length (get_or words 0 []) = ap (λ (test : Bool). cond test (4 + 1 + length (get_or words 0 [])) 4) (lt-ltb 4 (length line) long) in
            omega (arith, read.1, end)
        by (no short) = absurd (omega (arith, read.1, no_end space line 4 (omega arith)))

    second_word : length line ≤ number.end + 1 + before space rest → get_or words 1 [] ≡ rest
    second_word last =
        sym (part_at space line 4 1)
        ∙ ap (λ (place : ℕ). get_or (words_behind line place) 0 []) (sym read.1)
        ∙ first_part space line number.end h
        ∙ take_all (before space rest) rest (omega (arith, length-drop (number.end + 1) line))

    two_words : length line ≤ number.end + 1 + before space rest → poke_of words ≡ with_number number.value (λ at. poke_by at (number.end + 1) (length (octets_of rest)))
    two_words last =
        ap₂ (λ (test : Bool) (word : List ℕ). cond test (with_number (number_in words 0) (λ (at : ℕ). poke_by at (6 + length (get_or words 0 [])) (length (octets_of word)))) Bad)
        (sym (ap (leb (length line)) (sym second_end) ∙ ended_at space line 4 2) ∙ le-leb _ _ last) (second_word last)
        ∙ ap₂ (λ (number : Option ℕ) (digits : ℕ). with_number number (λ (at : ℕ). poke_by at digits (length (octets_of rest)))) (sym read.0) digits_place

pub returns-then-line-space : goal.returns-then-line-space
returns-then-line-space c = sym (one_word c.args.line.now c.number_at-place.result c.number_at-place.ensures c.if-line-space.true)

pub returns-then-word_end-line : goal.returns-then-word_end-line
returns-then-word_end-line c =
    let line = c.args.line.now in
    let number = c.number_at-place in
    sym (more_words line number.result number.ensures c.if-line-space.false (rw c.word_end.ensures at c.if-word_end-line.true))

pub returns : goal.returns
returns c =
    let line = c.args.line.now in
    let number = c.number_at-place in
    let digits = number.result.end + 1 in
    c.poke_by.ensures
    ∙ ap (poke_by c.in-Some.at digits) (c.size_of.ensures ∙ ap (λ (list : List ℕ). length (octets_of list)) (to_end line digits))
    ∙ sym (rw c.in-Some.is at (two_words line number.result number.ensures c.if-line-space.false (rw c.word_end.ensures at c.if-word_end-line.false)))
