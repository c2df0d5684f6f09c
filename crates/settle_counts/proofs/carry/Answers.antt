-- `settle_counts::carry` meets its contract.
use Rattle.std.specs.Prelude.{◌≡◌, ◌<◌}
use Rattle.laws.specs.Usual.{arith, length, get_or, rules}
use Rattle.settle_counts.proofs.Loops.{carrying_none, carrying_more, carrying_all}
use Rattle.settle_counts.proofs.carry.Goals as goal

pub loop-view-init : goal.loop-view-init
loop-view-init c = carrying_none _ _

pub loop-view-preserved : goal.loop-view-preserved
loop-view-preserved c =
    let loop = c.loop-view in
    let all : length c.args.old ≡ 256 = search rules in
    let octet : get_or c.args.moves.now loop.view 0 < 256 = omega (arith, c.type_inv.moves loop.view) in
    carrying_more (omega arith) octet loop.invariant c.saturating_add.result (omega (arith, c.saturating_add.ensures))

pub returns : goal.returns
returns c =
    let all : length c.args.old ≡ 256 = search rules in
    record { value = carrying_all (omega arith) c.loop-view.invariant; len = all }
