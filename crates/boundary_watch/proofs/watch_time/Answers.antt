-- `boundary_watch::watch_time` meets its contract.
use Rattle.std.specs.Prelude.{◌||◌, ◌<◌}
use Rattle.laws.specs.Usual.{sym, ap, ◌∙◌, cond, not, arith, eqb}
use Rattle.boundary_lists.specs.Laws.{entry_in_lem}
use Rattle.members.specs.declared.Entry.{Entry}
use Rattle.station.specs.Rules.Waits.{counts_as}
use Rattle.boundary_watch.proofs.watch_time.Goals as goal

pub returns : goal.returns
returns c = λ areas misses.
    let a = c.args in
    let view : a.core.view < 256 = omega arith in
    c.watch_time.ensures
    ∙ sym
    (ap (λ (entry : Entry). cond (eqb a.core.view a.core.own.number || not entry.listed) a.core.own.watch (counts_as entry.watch))
    (entry_in_lem a.listed.now areas a.watch.now misses a.core.view view))
