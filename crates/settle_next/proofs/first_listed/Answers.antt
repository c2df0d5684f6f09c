-- `settle_next::first_listed` meets its contract.
use Rattle.std.specs.Prelude.{◌≡◌, ◌+◌}
use Rattle.laws.specs.Usual.{ap, ◌∙◌, Bool, not, ℕ, arith, drop, eqb, rules}
use Rattle.std.proofs.Common.{take_all, length-drop}
use borrow.Author.Tests.{tests}
use Rattle.std.specs.Option.{option_map}
use Rattle.std.proofs.lemmas.Iterator.{YieldsList-from_slice}
use Rattle.std.proofs.lemmas.Iterator.Adapters.{position_from-zero}
use Rattle.std.proofs.lemmas.Iterator.Search.{position_from_yields_List}
use Rattle.settle_moves.specs.Found.{listed_found}
use Rattle.settle_next.proofs.first_listed.Goals as goal

pub returns : goal.returns
returns c =
    let from = c.args.from in
    let views = drop from c.args.views.now in
    let listed : ℕ → Bool = λ view. not (eqb view 0) in
    let found = position_from_yields_List listed _ _ c.position.result c.position.ensures.ran (YieldsList-from_slice views (c.iter.ensures.rest ∙ take_all _ views (omega (arith, length-drop from c.args.views.now)))) (λ x b q k. search (rules, tests)) in
    let its_number : c.map.result ≡ option_map (λ place. from + place) c.position.result = search rules in
    its_number ∙ ap (option_map (λ place. from + place)) (found ∙ position_from-zero listed views) ∙ listed_found from views
