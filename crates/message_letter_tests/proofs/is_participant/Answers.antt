-- `message_letter_tests::is_participant` meets its contract.
use Rattle.laws.specs.Usual.{sym, ◌∙◌}
use Rattle.boundary_refused.specs.Taken.{participating_in}
use Rattle.message_letter_tests.proofs.is_participant.Goals as goal

pub returns : goal.returns
returns c = c.is_in.ensures ∙ sym (participating_in c.args.core.phase)
