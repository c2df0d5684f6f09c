-- `text_reading::value_of` meets its contract.
use Rattle.std.specs.Prelude.{◌≤◌, ◌+◌, ◌-◌, ◌*◌}
use Rattle.laws.specs.Usual.{refl, sym, ap, ◌∙◌, arith, get_or}
use lib.ListN.{drop_of_length-le}
use Rattle.text_reading.proofs.ValueLaws.{value_none, value_high, value_more}
use Rattle.text_reading.specs.Values.{value_on}
use Rattle.text_reading.proofs.value_of.Goals as goal

pub loop-octet-init : goal.loop-octet-init
loop-octet-init c = record { rest = refl; low = omega arith }

pub returns-then-not-is_ascii_digit : goal.returns-then-not-is_ascii_digit
returns-then-not-is_ascii_digit c =
    let a = c.args in
    let l = c.loop-octet in
    let other = sym c.is_ascii_digit.ensures.value ∙ c.if-not-is_ascii_digit.true in
    sym (value_none a.most l.value a.octets.now l.octet-index c.loop-octet-test.true other) ∙ l.invariant.rest

pub overflow_mul-value : goal.overflow_mul-value
overflow_mul-value c = omega (arith, c.loop-octet.invariant.low)

pub overflow_add-value : goal.overflow_add-value
overflow_add-value c = omega (arith, c.loop-octet.invariant.low, c.from.ensures, c.from.type_inv)

pub returns-then-value-from : goal.returns-then-value-from
returns-then-value-from c =
    let a = c.args in
    let l = c.loop-octet in
    let digit = sym c.is_ascii_digit.ensures.value ∙ c.if-not-is_ascii_digit.false in
    sym (value_high a.most l.value a.octets.now l.octet-index c.loop-octet-test.true digit (omega (arith, c.if-value-from.true, c.from.ensures, c.from-in-loop-octet.ensures))) ∙ l.invariant.rest

pub loop-octet-preserved : goal.loop-octet-preserved
loop-octet-preserved c =
    let a = c.args in
    let l = c.loop-octet in
    let digit = sym c.is_ascii_digit.ensures.value ∙ c.if-not-is_ascii_digit.false in
    let low : l.value * 10 + (get_or a.octets.now l.octet-index 0 - 48) ≤ a.most = omega (arith, c.if-value-from.false, c.from.ensures, c.from-in-loop-octet.ensures) in
    record {
      rest = rw c.from.ensures (sym (value_more a.most l.value a.octets.now l.octet-index c.loop-octet-test.true digit low) ∙ l.invariant.rest);
      low = omega (arith, low, c.from.ensures);
    }

pub overflow_cast-result : goal.overflow_cast-result
overflow_cast-result c = omega (arith, c.loop-octet.invariant.low, c.ranges.most)

pub returns : goal.returns
returns c =
    let a = c.args in
    let l = c.loop-octet in
    sym (ap (value_on a.most l.value) (drop_of_length-le a.octets.now (omega (arith, c.loop-octet-test.false)))) ∙ l.invariant.rest
