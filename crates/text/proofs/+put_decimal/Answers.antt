-- `text::put_decimal` meets its contract.
use Rattle.std.specs.Prelude.{◌∷◌, ◌+◌, ◌/◌, ◌%◌}
use Rattle.laws.specs.Usual.{sym, ap, ap₂, ◌∙◌, List, [], ℕ, arith, set, rules}
use Rattle.std.proofs.Common.{◌^◌, ◌<◌, length-append}
use Rattle.copying.specs.Laws.{paste_one, paste_more}
use Rattle.copying.specs.Pasted.{pasted}
use Rattle.text.specs.Decimal.{decimal_of}
use Rattle.text.specs.Digits.{one_digit, last_digit, nine}
use Rattle.text.proofs.+put_decimal.Goals as goal

pub returns-then-number-lt10 : goal.returns-then-number-lt10
returns-then-number-lt10 t c =
    let a = c.args in
    let one = one_digit a.number c.if-number-lt10.true in
    record { value = rw one; output_after = paste_one a.output.now a.at (48 + a.number % 10) (omega arith) ∙ ap (pasted a.output.now a.at) (sym one) }

pub bounds-output-last : goal.bounds-output-last
bounds-output-last t c = omega (arith, nine c.args.number (omega arith), c.put_decimal-last.ensures.value)

pub returns : goal.returns
returns t c =
    let a = c.args in
    let small : a.number < 2 ^ 32 = search rules in
    let more = last_digit a.number small c.if-number-lt10.false in
    let digit = 48 + a.number % 10 in
    let others = c.put_decimal-last.ensures in
    record {
      value = rw (more, length-append (decimal_of (a.number / 10)) (digit ∷ [])) (omega (arith, others.value));
      output_after = ap₂ (λ (l : List ℕ) (k : ℕ). set l k digit) others.output_after others.value
          ∙ paste_more a.output.now (decimal_of (a.number / 10)) a.at digit (omega (arith, nine a.number small))
          ∙ ap (pasted a.output.now a.at) (sym more);
    }
