-- `settle_views::stations` meets its contract.
use Rattle.laws.specs.Usual.{◌∙◌, not, eqb, rules}
use borrow.Author.Tests.{tests}
use Rattle.std.proofs.lemmas.Iterator.{YieldsList-from_slice}
use Rattle.std.proofs.lemmas.Iterator.Consumers.{count_from_yields_List, YieldsList-from_filter}
use Rattle.settle_views.proofs.Searches.{stations_counted}
use Rattle.settle_views.proofs.stations.Goals as goal

pub returns : goal.returns
returns c =
    let views = c.args.ring.views in
    count_from_yields_List c.filter.result _ c.count.ensures.ran
    (YieldsList-from_filter _ (λ view. not (eqb view 0)) (YieldsList-from_slice views cc) c.filter.ensures.closure (λ x b q k. search (rules, tests)))
    ∙ stations_counted views
