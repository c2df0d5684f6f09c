-- `hearing_blocks::is_next` meets its contract.
use Rattle.laws.specs.Usual.{refl, arith}
use Rattle.hearing_blocks.proofs.is_next.Goals as goal

pub overflow_cast-follows : goal.overflow_cast-follows
overflow_cast-follows c = omega arith

pub overflow_add-follows : goal.overflow_add-follows
overflow_add-follows c = omega arith

pub overflow_cast-follows-2 : goal.overflow_cast-follows-2
overflow_cast-follows-2 c = omega arith

pub returns : goal.returns
returns c = refl
