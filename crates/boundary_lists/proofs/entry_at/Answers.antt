-- `boundary_lists::entry_at` meets its contract.
use Rattle.laws.specs.Usual.{sym, rules}
use Rattle.boundary_lists.specs.Laws.{entry_in_lem}
use Rattle.boundary_lists.proofs.entry_at.Goals as goal

pub returns : goal.returns
returns c =
    let a = c.args in
    sym (entry_in_lem a.listed.now a.areas.now a.watch.now a.misses.now a.number (search rules))
