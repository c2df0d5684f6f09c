-- `message_owed::is_full` meets its contract.
use Rattle.std.specs.Prelude.{◌≡◌, ◌<◌}
use Rattle.laws.specs.Usual.{sym, ap, ◌∙◌, not, arith, length}
use borrow.Author.Tests.{lt-leb}
use Rattle.message_places.specs.Owed.{owed_in}
use Rattle.message_owed.specs.Laws.{length_owed, full_few, full_eight}
use Rattle.message_owed.proofs.is_full.Goals as goal

pub returns-then-owed-ge-MOST : goal.returns-then-owed-ge-MOST
returns-then-owed-ge-MOST c =
    let numbers = c.args.owed.now in
    let eight : length (owed_in numbers) ≡ 8 = omega (arith, length_owed numbers) in
    ap not c.is_owed.ensures ∙ full_eight c.args.confirmation (owed_in numbers) eight

pub returns-else-owed-ge-MOST : goal.returns-else-owed-ge-MOST
returns-else-owed-ge-MOST c =
    let numbers = c.args.owed.now in
    let few : length (owed_in numbers) < 8 = omega (arith, length_owed numbers) in
    lt-leb _ _ c.if-owed-ge-MOST.false ∙ sym (full_few c.args.confirmation (owed_in numbers) few)
