-- `decode_answers::put_answer` meets its contract.
use Rattle.decode_answers.specs.Answers.{text_of}
use Rattle.decode_answers.proofs.put_answer.Goals as goal

pub returns-in-Ok : goal.returns-in-Ok
unfolding text_of
returns-in-Ok c = rw (c.in-Heard.is, c.in-Ok.is) c.put_frame.ensures

pub returns-in-Err : goal.returns-in-Err
unfolding text_of
returns-in-Err c = rw (c.in-Heard.is, c.in-Err.is) c.put_refused.ensures

pub returns-in-Bad : goal.returns-in-Bad
unfolding text_of
returns-in-Bad c = rw c.in-Bad.is c.put_bad.ensures
