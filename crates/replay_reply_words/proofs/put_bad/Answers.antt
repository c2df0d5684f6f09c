-- `replay_reply_words::put_bad` meets its contract.
use Rattle.laws.specs.Usual.{refl, arith}
use Rattle.replay_reply_words.proofs.put_bad.Goals as goal

pub put_line-requires : goal.put_line-requires
put_line-requires c = omega arith

pub shape_of-output : goal.shape_of-output
shape_of-output c = omega arith

pub returns : goal.returns
returns c = record { value = c.put_line.ensures.value; output_after = c.put_line.ensures.output_after }
