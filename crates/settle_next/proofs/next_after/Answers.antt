-- `settle_next::next_after` meets its contract.
use Rattle.std.specs.Prelude.{◌≡◌, Option}
use Rattle.laws.specs.Usual.{sym, ap, ◌∙◌, rules}
use Rattle.std.specs.Option.{option_or, unwrap_or}
use Rattle.settle_moves.specs.Moves.{first_listed}
use Rattle.settle_moves.specs.Found.{next_found}
use Rattle.settle_next.proofs.next_after.Goals as goal

pub returns : goal.returns
returns c =
    let a = c.args in
    let found : c.or_else.result ≡ option_or c.first_listed-above.result (first_listed 0 a.views.now) = search rules in
    c.unwrap_or.ensures
    ∙ ap (λ (o : Option _). unwrap_or o a.number) (found ∙ ap (λ (o : Option _). option_or o (first_listed 0 a.views.now)) c.first_listed-above.ensures)
    ∙ sym (next_found a.views.now a.number)
