-- `text::put_line` meets its contract.
use Rattle.std.specs.Prelude.{◌≡◌, ◌∷◌, ◌++◌, ◌+◌, ◌<◌}
use Rattle.laws.specs.Usual.{sym, ap, ap₂, ◌∙◌, List, [], ℕ, arith, length, set}
use native.Mathlib.Nat.{zero-add}
use lib.ListN.{length-append, length-set}
use Rattle.copying.specs.Laws.{paste_append, paste_more}
use Rattle.copying.specs.Pasted.{pasted}
use Rattle.text.specs.LineLaws.{numbers_length}
use Rattle.text.specs.Lines.{line_feed, numbers_of}
use Rattle.text.proofs.put_line.Goals as goal

pub bounds-output-end : goal.bounds-output-end
bounds-output-end c = omega (arith, c.requires, numbers_length c.args.numbers.now, c.put_numbers-end.ensures.value, c.put_numbers-end.auto.output, c.copy_into.auto.target)

pub overflow_add-result : goal.overflow_add-result
overflow_add-result c = omega (arith, c.requires, numbers_length c.args.numbers.now, c.put_numbers-end.ensures.value)

pub shape_of-output : goal.shape_of-output
shape_of-output c = simp length-set (c.put_numbers-end.auto.output ∙ c.copy_into.auto.target)

pub returns : goal.returns
returns c =
    let a = c.args in
    let out = a.output.now in
    let word = a.word.now in
    let numbers = numbers_of a.numbers.now in
    let done = c.put_numbers-end.ensures in
    let room : length (word ++ numbers) < length out = rw (length-append word numbers) (omega (arith, c.requires, numbers_length a.numbers.now)) in
    let end : c.put_numbers-end.result ≡ 0 + length (word ++ numbers) = rw (length-append word numbers) (omega (arith, done.value)) in
    let both : pasted (pasted out 0 word) (length word) numbers ≡ pasted out 0 (word ++ numbers) =
    ap (λ (k : ℕ). pasted (pasted out 0 word) k numbers) (sym (zero-add (length word)))
    ∙ paste_append out word numbers 0 (omega (arith, c.requires)) in record {
      value = rw (length-append (word ++ numbers) (line_feed ∷ [])) (omega (arith, end));
      output_after = ap₂ (λ (l : List ℕ) (k : ℕ). set l k line_feed)
          (done.output_after ∙ ap (λ (l : List ℕ). pasted l (length word) numbers) c.copy_into.ensures ∙ both) end
          ∙ paste_more out (word ++ numbers) 0 line_feed (omega arith);
    }
