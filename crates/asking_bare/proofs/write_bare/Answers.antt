-- `asking_bare::write_bare` meets its contract.
use Rattle.laws.specs.Usual.{arith}
use Rattle.asking_bare.proofs.write_bare.Goals as goal

pub slice_bounds-write-count : goal.slice_bounds-write-count
slice_bounds-write-count c = omega arith

pub slice_bounds-write-start : goal.slice_bounds-write-start
slice_bounds-write-start c = omega arith

pub slice_bounds-write-end : goal.slice_bounds-write-end
slice_bounds-write-end c = omega arith

pub write-requires : goal.write-requires
write-requires c = omega arith

pub shape_of-output : goal.shape_of-output
shape_of-output c = omega arith

pub returns : goal.returns
returns c = c.write.ensures
