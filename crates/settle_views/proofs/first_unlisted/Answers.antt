-- `settle_views::first_unlisted` meets its contract.
use Rattle.std.specs.Prelude.{◌≡◌, ◌+◌}
use Rattle.laws.specs.Usual.{ap, ◌∙◌, Bool, not, ℕ, eqb, get_or, rules}
use borrow.Author.Tests.{tests}
use Rattle.std.specs.List.{filter}
use Rattle.std.specs.Option.{option_map}
use Rattle.std.proofs.lemmas.Iterator.{YieldsList-from_slice}
use Rattle.std.proofs.lemmas.Iterator.Adapters.{position_from-zero}
use Rattle.std.proofs.lemmas.Iterator.Consumers.{YieldsList-from_filter}
use Rattle.std.proofs.lemmas.Iterator.Search.{position_from_yields_List}
use Rattle.settle_views.proofs.Searches.{line_found}
use Rattle.settle_views.proofs.first_unlisted.Goals as goal

pub returns : goal.returns
returns c =
    let views = c.args.ring.views in
    let unlisted : ℕ → Bool = λ view. eqb (get_or views view 0) 0 in
    let found = position_from_yields_List unlisted _ _ c.position.result c.position.ensures.ran
    (YieldsList-from_filter _ (λ view. not (eqb view 0)) (YieldsList-from_slice views cc) c.filter-listed.ensures.closure (λ x b q k. search (rules, tests)))
    (λ x b q k. search (rules, tests)) in
    let its_line : c.map.result ≡ option_map (λ place. place + 1) c.position.result = search rules in
    its_line ∙ ap (option_map (λ place. place + 1)) (found ∙ position_from-zero unlisted (filter (λ view. not (eqb view 0)) views)) ∙ line_found views
