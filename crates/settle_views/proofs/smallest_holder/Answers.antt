-- `settle_views::smallest_holder` meets its contract.
use Rattle.std.specs.Prelude.{◌≡◌}
use Rattle.laws.specs.Usual.{ap, ◌∙◌, eqb, rules}
use borrow.Author.Tests.{tests}
use Rattle.std.specs.Option.{option_map}
use Rattle.std.proofs.lemmas.Iterator.{YieldsList-from_slice}
use Rattle.std.proofs.lemmas.Iterator.Adapters.{YieldsList-from_skip}
use Rattle.std.proofs.lemmas.Iterator.Consumers.{YieldsList-from_copied, YieldsList-from_enumerate}
use Rattle.std.proofs.lemmas.Iterator.Search.{find_from_yields_List}
use Rattle.settle_views.proofs.Searches.{holder_behind_zero}
use Rattle.settle_views.proofs.smallest_holder.Goals as goal

pub returns : goal.returns
returns c =
    let views = c.args.views.now in
    let found = find_from_yields_List (λ p. eqb p.1 p.0) _ _ c.find.result c.find.ensures.ran (YieldsList-from_skip 1 (YieldsList-from_enumerate (YieldsList-from_copied (YieldsList-from_slice views cc)) cc) cc) (λ x b q k. search (rules, tests)) in
    let its_view : c.map.result ≡ option_map (λ p. p.1) (option_map (λ x. (x.0, x.1)) c.find.result) = search rules in
    its_view ∙ ap (option_map (λ p. p.1)) found ∙ holder_behind_zero views
