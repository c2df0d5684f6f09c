-- `settle_input::read_ring` meets its contract.
use Rattle.laws.specs.Usual.{sym, ◌∙◌}
use Rattle.settle_input.specs.Filled.{unlisted_line}
use Rattle.settle_input.proofs.read_ring.Goals as goal

pub returns-in-Some : goal.returns-in-Some
returns-in-Some c =
    let forms = sym c.read_forms.ensures ∙ c.in_ok-ring.was in
    let line = sym (unlisted_line c.args.input.now c.in_ok-ring.ring forms) ∙ sym c.first_unlisted.ensures ∙ c.in-Some.is in
    rw (sym c.is_empty.ensures ∙ c.if-is_empty.false, forms, line)

pub returns-in-None : goal.returns-in-None
returns-in-None c =
    let forms = sym c.read_forms.ensures ∙ c.in_ok-ring.was in
    let line = sym (unlisted_line c.args.input.now c.in_ok-ring.ring forms) ∙ sym c.first_unlisted.ensures ∙ c.in-None.is in
    rw (sym c.is_empty.ensures ∙ c.if-is_empty.false, forms, line)
