-- `boundary_flags::any_of_four` meets its contract.
use Rattle.laws.specs.Usual.{refl, arith}
use Rattle.boundary_flags.proofs.any_of_four.Goals as goal

pub bounds-listed-from : goal.bounds-listed-from
bounds-listed-from c = omega arith

pub overflow_add-result : goal.overflow_add-result
overflow_add-result c = omega arith

pub bounds-listed-from-2 : goal.bounds-listed-from-2
bounds-listed-from-2 c = omega arith

pub overflow_add-result-2 : goal.overflow_add-result-2
overflow_add-result-2 c = omega arith

pub bounds-listed-from-3 : goal.bounds-listed-from-3
bounds-listed-from-3 c = omega arith

pub overflow_add-result-3 : goal.overflow_add-result-3
overflow_add-result-3 c = omega arith

pub bounds-listed-from-4 : goal.bounds-listed-from-4
bounds-listed-from-4 c = omega arith

pub returns : goal.returns
returns c = refl
