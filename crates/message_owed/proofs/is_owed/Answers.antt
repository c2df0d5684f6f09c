-- `message_owed::is_owed` meets its contract.
use Rattle.std.specs.Prelude.{◌≡◌, ◌+◌, ◌-◌, ◌*◌, ◌/◌, ◌≤◌}
use Rattle.laws.specs.Usual.{ap, ◌∙◌, List, ℕ, arith, length, get_or, take, drop, rules}
use borrow.Author.Tests.{tests}
use Rattle.std.proofs.Common.{length-drop}
use Rattle.std.proofs.lemmas.Iterator.Search.{any_from_yields_List}
use Rattle.message_places.specs.Owed.{rows_in, count_in, owed_in}
use Rattle.message_rules.specs.Rules.Confirming.{same_confirmation, is_owed}
use Rattle.message_owed.proofs.Rows.{rows_yielded, owed_any, rows_whole}
use Rattle.message_owed.proofs.is_owed.Goals as goal

pub returns : goal.returns
unfolding owed_in
returns c =
    let numbers = c.args.owed.now in
    let confirmation = c.args.confirmation in
    let count = count_in (get_or numbers 0 0) in
    let among = any_from_yields_List (same_confirmation confirmation) _ _ c.any.result c.any.ensures.ran
    (rows_yielded c.chunks_exact.result c.chunks_exact.ensures.size) (λ x b q k. search (rules, tests)) in
    let many : 1 + 3 * c.count_in-count.result - 1 ≡ 3 * count = omega arith in
    let fits : 3 * count ≤ length (drop 1 numbers) = rw (length-drop 1 numbers) (omega arith) in
    among ∙ owed_any confirmation _ ∙ ap (is_owed confirmation)
    (ap (λ (l : List ℕ). rows_in (length l / 3) l) (c.chunks_exact.ensures.rest ∙ ap (λ (k : ℕ). take k (drop 1 numbers)) many)
    ∙ rows_whole count (drop 1 numbers) fits)
