-- `settle_next::silence_moves` meets its contract.
use Rattle.laws.specs.Usual.{arith, rules}
use Rattle.settle_moves.specs.Silent.{placed_none, placed_listed, placed_unlisted, placed_all}
use Rattle.settle_next.proofs.silence_moves.Goals as goal

pub loop-view-init : goal.loop-view-init
loop-view-init c =
    let views = c.args.views.now in
    placed_none views (search rules) c.first_listed-above.result c.first_listed-above.ensures

pub loop-view-preserved-then-views-view-ne0 : goal.loop-view-preserved-then-views-view-ne0
loop-view-preserved-then-views-view-ne0 c =
    let loop = c.loop-view in
    let put = c.unwrap_or in
    placed_listed c.loop-view-test.true loop.invariant put.result put.ensures c.if-views-view-ne0.true

pub loop-view-preserved : goal.loop-view-preserved
loop-view-preserved c =
    let loop = c.loop-view in
    let put = c.unwrap_or in
    placed_unlisted c.loop-view-test.true loop.invariant put.result put.ensures c.if-views-view-ne0.false

pub returns : goal.returns
returns c = placed_all (omega arith) c.loop-view.invariant
