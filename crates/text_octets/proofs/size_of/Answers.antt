-- `text_octets::size_of` meets its contract.
use Rattle.std.specs.Prelude.{◌&&◌, ◌/◌}
use Rattle.laws.specs.Usual.{sym, ap, ◌∙◌, Bool, cond, length}
use Rattle.text_hexadecimal.specs.OctetLaws.{even, octets_length}
use Rattle.text_octets.proofs.size_of.Goals as goal

pub returns-then-all_hexadecimal-digits : goal.returns-then-all_hexadecimal-digits
returns-then-all_hexadecimal-digits c =
    let digits = c.args.digits.now in
    let test = ap (λ (t : Bool). t && even (length digits)) (sym c.all_hexadecimal.ensures) ∙ c.if-all_hexadecimal-digits.true in
    sym (octets_length digits ∙ ap (λ (t : Bool). cond t (length digits / 2) 0) test)

pub returns-else-all_hexadecimal-digits : goal.returns-else-all_hexadecimal-digits
returns-else-all_hexadecimal-digits c =
    let digits = c.args.digits.now in
    let test = ap (λ (t : Bool). t && even (length digits)) (sym c.all_hexadecimal.ensures) ∙ c.if-all_hexadecimal-digits.false in
    sym (octets_length digits ∙ ap (λ (t : Bool). cond t (length digits / 2) 0) test)
