-- `message_owed::forget` meets its contract.
use Rattle.std.specs.Prelude.{◌≡◌}
use Rattle.laws.specs.Usual.{ap, ◌∙◌, [], arith, length}
use Rattle.message_places.specs.Owed.{owed_in}
use Rattle.message_owed.specs.Laws.{none, owed_back}
use Rattle.message_owed.specs.Steps.{kept_forgotten}
use Rattle.message_owed.proofs.forget.Goals as goal

pub returns : goal.returns
returns c =
    let numbers = c.args.owed.now in
    let all : length numbers ≡ 25 = omega arith in
    let put = kept_forgotten numbers all in
    record { owed_after = ap owed_in put ∙ owed_back numbers [] (omega arith) none; owed_after_2 = put }
