-- `settle_input::place_in` meets its contract.
use Rattle.std.specs.Prelude.{Some, None}
use Rattle.laws.specs.Usual.{sym, ap, ◌∙◌, cond, ℕ, length, eqb, ltb, rules}
use borrow.Author.Tests.{tests}
use Rattle.std.proofs.lemmas.Iterator.{YieldsList-from_slice}
use Rattle.std.proofs.lemmas.Iterator.Search.{position_from_yields_List}
use Rattle.settle_input.specs.Form.{place_found}
use Rattle.settle_input.proofs.place_in.Goals as goal

pub returns : goal.returns
returns c =
    let octets = c.args.octets.now in
    position_from_yields_List (λ octet. eqb octet c.args.mark) _ _ c.position.result c.position.ensures.ran (YieldsList-from_slice octets cc) (λ x b q k. search (rules, tests))
    ∙ ap (λ (n : ℕ). cond (ltb n (length octets)) (Some n) None) (sym (place_found c.args.mark octets))
