-- `message_letter_tests::turns_off` meets its contract.
use Rattle.std.specs.Prelude.{◌&&◌}
use Rattle.laws.specs.Usual.{ap₂, Bool, not}
use Rattle.message_letter_tests.proofs.turns_off.Goals as goal

pub returns : goal.returns
returns c =
    ap₂ ◌&&◌ c.is_station.ensures (ap₂ (λ (six inside : Bool). six && not inside) c.is_taken.ensures c.is_participant.ensures)
