-- `settle_next::move_views` meets its contract.
use Rattle.std.specs.Prelude.{◌≡◌, ◌<◌}
use Rattle.laws.specs.Usual.{ap, ◌∙◌, List, ℕ, length, get_or, set, rules}
use Rattle.std.proofs.lemmas.List.{get_or_default}
use Rattle.std.proofs.lemmas.List.Edits.{map_over_more}
use Rattle.settling.specs.Ring.{silence}
use Rattle.settle_views.specs.Views.{stations_from}
use Rattle.settle_moves.specs.Moves.{view_after}
use Rattle.settle_moves.specs.Each.{at_each}
use Rattle.settle_next.proofs.move_views.Goals as goal

pub loop-view-preserved : goal.loop-view-preserved
loop-view-preserved c =
    let a = c.args in
    let loop = c.loop-view in
    let items = loop.view-items in
    let f = view_after (stations_from 0 a.views.now) silence in
    let view = get_or items loop.view-index 0 in
    let small : view < 256 = search rules in
    let goes : get_or a.moves.now view 0 ≡ f view = ap (λ (l : List ℕ). get_or l view 0) c.requires ∙ at_each f 256 view small in
    let within : loop.view-index < length items = search rules in
    ap (set items loop.view-index) goes
    ∙ map_over_more f a.views.now items loop.view-index view (search rules) loop.invariant (get_or_default items loop.view-index 0 view within)
