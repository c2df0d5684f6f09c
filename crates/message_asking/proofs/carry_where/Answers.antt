-- `message_asking::carry_where` meets its contract.
use Rattle.message_asking.specs.Meets.{carries, left_alone}
use Rattle.message_asking.proofs.carry_where.Goals as goal

pub returns-then-token : goal.returns-then-token
returns-then-token c =
    let a = c.args in
    let done = c.carry_oldest-count.ensures in let both = carries a.owed.now a.answer a.output.now c.if-token.true done.value done.output_after done.owed_after done.owed_after_2 c.frame_answer.ensures c.tell_written.ensures in
    record { value = both.0; output_after = both.1.0; owed_after = both.1.1.0; owed_after_2 = both.1.1.1 }

pub returns : goal.returns
returns c =
    let a = c.args in let both = left_alone a.owed.now a.answer a.output.now c.if-token.false c.leave.ensures in
    record { value = both.0; output_after = both.1.0; owed_after = both.1.1.0; owed_after_2 = both.1.1.1 }
