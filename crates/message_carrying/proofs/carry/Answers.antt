-- `message_carrying::carry` meets its contract.
use Rattle.laws.specs.Usual.{ap, ap₂, ◌∙◌, List, ℕ}
use Rattle.copying.specs.Pasted.{pasted}
use Rattle.message_carrying.specs.Steps.{moved, in_steps}
use Rattle.message_carrying.proofs.carry.Goals as goal

pub returns : goal.returns
returns c =
    let a = c.args in
    let up = c.move_up.ensures ∙ ap (moved a.count) c.mark.ensures in
    c.copy_into.ensures
    ∙ ap₂ (λ (l o : List ℕ). pasted l 64 o) up c.confirmation_octets-octets.ensures
    ∙ in_steps a.confirmation a.count a.output.now c.requires.le_count c.requires.count_in_bounds
