-- `message_letter_tests::is_for_us` meets its contract.
use Rattle.std.specs.Prelude.{◌&&◌, ◌||◌}
use Rattle.laws.specs.Usual.{ap₂, Bool, eqb}
use Rattle.message_letter_tests.proofs.is_for_us.Goals as goal

pub returns : goal.returns
returns c =
    let a = c.args in
    ap₂ (λ (inside all : Bool). inside && (eqb a.letter.message.destination a.core.own.number || all)) c.is_participant.ensures c.to_all.ensures
