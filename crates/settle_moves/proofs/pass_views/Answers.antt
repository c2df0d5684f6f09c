-- `settle_moves::pass_views` meets its contract.
use Rattle.std.specs.Prelude.{◌<◌}
use Rattle.laws.specs.Usual.{ap, ◌∙◌, length, set, rules}
use Rattle.std.proofs.lemmas.List.{get_or_default}
use Rattle.std.proofs.lemmas.List.Edits.{map_over_more}
use Rattle.settle_moves.specs.Moves.{passed_view}
use Rattle.settle_moves.proofs.pass_views.Goals as goal

pub loop-view-preserved : goal.loop-view-preserved
loop-view-preserved c =
    let a = c.args in
    let loop = c.loop-view in
    let items = loop.view-items in
    let within : loop.view-index < length items = search rules in
    ap (set items loop.view-index) c.passed_view.ensures
    ∙ map_over_more (λ view. passed_view view a.from a.to) a.views.now items loop.view-index _ (search rules) loop.invariant (get_or_default items loop.view-index 0 _ within)
