-- `boundary_heard::hear_accepted` meets its contract.
use borrow.Author.Rules.{rules}
use Rattle.boundary_heard.proofs.hear_accepted.Goals as goal

pub returns : goal.returns
returns c =
    let done = c.gather_frame-stored.ensures in
    record { core_value = rw (c.restart-core.ensures, c.view_heard-view.ensures, done.gathering_value); answer_value = rw (c.tell_read-answer.ensures, c.cyclic-token.ensures, c.outcome_of.ensures, done.outcome_value); memory_after = done.memory_after; assembly_after = done.assembly_after }
