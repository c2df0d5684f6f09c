-- `message_letter_tests::is_received` meets its contract.
use Rattle.std.specs.Prelude.{◌&&◌}
use Rattle.laws.specs.Usual.{ap₂, Bool, not}
use Rattle.message_letter_tests.proofs.is_received.Goals as goal

pub returns : goal.returns
returns c =
    let known = c.args.known in
    ap₂ ◌&&◌ c.is_station.ensures
    (ap₂ (λ (six rest : Bool). not six && rest) c.is_taken.ensures
    (ap₂ ◌&&◌ c.is_measured.ensures
    (ap₂ (λ (inside ours : Bool). not (inside && not known) && ours) c.is_participant.ensures c.is_for_us.ensures)))
