-- `settle_input::number_in` meets its contract.
use Rattle.laws.specs.Usual.{sym, ◌∙◌, arith}
use Rattle.text_reading.proofs.Told.{number_most}
use Rattle.settle_input.proofs.number_in.Goals as goal

pub overflow_cast-result : goal.overflow_cast-result
overflow_cast-result c =
    let number = c.in_ok-number.number in
    record { fits = omega (arith, number_most 254 number c.args.octets.now (sym c.decimal_in.ensures ∙ c.in_ok-number.was)) }
