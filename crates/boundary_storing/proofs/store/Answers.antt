-- `boundary_storing::store` meets its contract.
use Rattle.laws.specs.Usual.{arith, rules}
use lib.ListN.{length-set}
use Rattle.boundary_storing.specs.Storing.{put_in}
use Rattle.boundary_storing.proofs.store.Goals as goal

pub bounds-areas-start-2 : goal.bounds-areas-start-2
bounds-areas-start-2 c = simp length-set (omega arith)

pub bounds-areas-start-3 : goal.bounds-areas-start-3
bounds-areas-start-3 c = simp length-set (omega arith)

pub bounds-areas-start-4 : goal.bounds-areas-start-4
bounds-areas-start-4 c = simp length-set (omega arith)

pub returns : goal.returns
returns c =
    let a = c.args in
    put_in a.listed.now a.areas.now a.watch.now a.misses.now a.number a.entry (search rules) c.requires
