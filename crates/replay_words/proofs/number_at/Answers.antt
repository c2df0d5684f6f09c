-- `replay_words::number_at` meets its contract.
use Rattle.std.specs.Prelude.{Option, ◌≡◌, ◌+◌, ◌-◌, ◌≤◌}
use Rattle.laws.specs.Usual.{sym, ap, ap₂, ◌∙◌, List, ℕ, arith, length, take, drop, rules}
use lib.ListN.{length-drop}
use Rattle.text.specs.Lines.{space}
use Rattle.text_reading.proofs.MarkLaws.{before_most}
use Rattle.text_reading.specs.Marks.{before}
use Rattle.text_reading.proofs.PartLaws.{first_part, end_place, no_parts, no_end}
use Rattle.replay_words.specs.Words.{decimal, number_in}
use Rattle.replay_words.specs.declared.Number.{Number}
use Rattle.replay_words.proofs.number_at.Goals as goal

abbrev made : Option ℕ → ℕ → Number
made value end = record { value = value; end = end }

pub returns-then-line-place : goal.returns-then-line-place
returns-then-line-place c =
    let a = c.args in
    let h = c.if-line-place.true in
    ap₂ made (sym (ap (λ (words : List (List ℕ)). number_in words 0) (no_parts space a.line.now a.place h))) (sym (no_end space a.line.now a.place h))

pub slice_bounds-decimal-end : goal.slice_bounds-decimal-end
slice_bounds-decimal-end c =
    let a = c.args in
    let inside : c.word_end-end.result ≤ length a.line.now = omega (arith, c.word_end-end.ensures, before_most space (drop (a.place + 1) a.line.now), length-drop (a.place + 1) a.line.now) in
    search rules

pub returns : goal.returns
returns c =
    let a = c.args in
    let rest = drop (a.place + 1) a.line.now in
    let h = c.if-line-place.false in
    let end = c.word_end-end.ensures in
    let count : c.word_end-end.result - (a.place + 1) ≡ before space rest = omega arith in
    ap₂ made
    (c.decimal.ensures ∙ ap (λ (k : ℕ). decimal (take k rest)) count ∙ ap decimal (sym (first_part space a.line.now a.place h)))
    (end ∙ sym (end_place space a.line.now a.place h))
