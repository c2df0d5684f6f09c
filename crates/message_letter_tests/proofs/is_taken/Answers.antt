-- `message_letter_tests::is_taken` meets its contract.
use Rattle.std.specs.Prelude.{◌&&◌}
use Rattle.laws.specs.Usual.{ap, Bool, not, eqb}
use Rattle.message_letter_tests.proofs.is_taken.Goals as goal

pub returns : goal.returns
returns c =
    let a = c.args in
    ap (λ (t : Bool). not t && eqb a.letter.source a.core.own.number) c.is_off.ensures
