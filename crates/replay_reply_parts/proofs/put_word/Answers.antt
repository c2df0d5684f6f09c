-- `replay_reply_parts::put_word` meets its contract.
use Rattle.laws.specs.Usual.{arith, rules}
use Rattle.replay_reply_parts.proofs.put_word.Goals as goal

pub copy_into-requires : goal.copy_into-requires
copy_into-requires c = omega arith

pub overflow_add-result : goal.overflow_add-result
overflow_add-result c = omega arith

pub shape_of-output : goal.shape_of-output
shape_of-output c = omega arith
