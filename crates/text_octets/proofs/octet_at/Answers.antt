-- `text_octets::octet_at` meets its contract.
use Rattle.std.specs.Prelude.{◌+◌, ◌*◌}
use Rattle.laws.specs.Usual.{arith, get_or}
use Rattle.text_hexadecimal.specs.OctetLaws.{value_below}
use Rattle.text_octets.proofs.octet_at.Goals as goal

pub overflow_mul-result : goal.overflow_mul-result
overflow_mul-result c = let a = c.args in omega (arith, c.value_of.ensures, value_below (get_or a.digits.now (2 * a.i) 0))

pub overflow_add-result : goal.overflow_add-result
overflow_add-result c =
    let a = c.args in
    omega (arith, c.value_of.ensures, c.value_of-2.ensures, value_below (get_or a.digits.now (2 * a.i) 0), value_below (get_or a.digits.now (2 * a.i + 1) 0))
