-- `text::put_numbers` meets its contract.
use Rattle.std.specs.Prelude.{◌≡◌, ◌∷◌, ◌++◌, ◌+◌}
use Rattle.laws.specs.Usual.{sym, ap, ap₂, ◌∙◌, List, ℕ, arith, get_or, take}
use native.Mathlib.Numerals.{add-one}
use lib.ListN.{length-append}
use lib.Seq.{length-take-le, take-suc, take_all}
use Rattle.copying.specs.Laws.{paste_nothing, paste_append}
use Rattle.copying.specs.Pasted.{pasted}
use Rattle.text.specs.Decimal.{decimal_of}
use Rattle.text.specs.LineLaws.{numbers_length, numbers_more}
use Rattle.text.specs.Lines.{comma, numbers_of}
use Rattle.text.proofs.put_numbers.Goals as goal

pub loop-number-init : goal.loop-number-init
loop-number-init c = let a = c.args in record { end = omega arith; output = sym (paste_nothing a.output.now a.at) }

pub put_number-end-requires : goal.put_number-end-requires
put_number-end-requires c =
    let l = c.loop-number in
    let ns = c.args.numbers.now in
    omega (arith, c.requires, numbers_length (take l.number-index ns), length-take-le l.number-index ns l.auto.number-index-end, l.invariant.end, l.auto.output, c.loop-number-test.true)

pub loop-number-preserved : goal.loop-number-preserved
loop-number-preserved c =
    let a = c.args in
    let l = c.loop-number in
    let i = l.number-index in
    let ns = a.numbers.now in
    let number = get_or ns i 0 in
    let done = c.put_number-end.ensures in
    let more : numbers_of (take (i + 1) ns) ≡ numbers_of (take i ns) ++ (comma ∷ decimal_of number) =
    ap (λ (k : ℕ). numbers_of (take k ns)) (add-one i) ∙ ap numbers_of (take-suc ns i 0 c.loop-number-test.true) ∙ numbers_more (take i ns) number in
    let room = numbers_length (take i ns) in record {
      end = rw (more, length-append (numbers_of (take i ns)) (comma ∷ decimal_of number)) (omega (arith, done.value, l.invariant.end));
      output = done.output_after
          ∙ ap₂ (λ (o : List ℕ) (k : ℕ). pasted o k (comma ∷ decimal_of number)) l.invariant.output l.invariant.end
          ∙ paste_append a.output.now (numbers_of (take i ns)) (comma ∷ decimal_of number) a.at
          (omega (arith, c.requires, room, length-take-le i ns l.auto.number-index-end))
          ∙ ap (pasted a.output.now a.at) (sym more);
    }

pub returns : goal.returns
returns c =
    let l = c.loop-number in
    let all : take l.number-index c.args.numbers.now ≡ c.args.numbers.now = take_all l.number-index c.args.numbers.now (omega (arith, c.loop-number-test.false)) in
    record { value = l.invariant.end ∙ rw all; output_after = l.invariant.output ∙ rw all }
