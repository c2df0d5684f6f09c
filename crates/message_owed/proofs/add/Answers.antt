-- `message_owed::add` meets its contract.
use Rattle.std.specs.Prelude.{◌≡◌, ◌+◌, ◌*◌, ◌<◌, ◌≤◌}
use Rattle.laws.specs.Usual.{refl, sym, ap, ◌∙◌, ℕ, arith, length, get_or, set}
use Rattle.message_places.specs.Owed.{owed_in, kept_owed}
use Rattle.message_owed.specs.Laws.{length_owed, owed_same, free_new, free_full}
use Rattle.message_owed.specs.Steps.{kept_added}
use Rattle.message_owed.proofs.add.Goals as goal

pub returns-then-count-lt-MOST : goal.returns-then-count-lt-MOST
returns-then-count-lt-MOST c =
    let numbers = c.args.owed.now in
    let confirmation = c.args.confirmation in
    let count = get_or numbers 0 0 in
    let all : length numbers ≡ 25 = omega arith in
    let few : length (owed_in numbers) < 8 = omega (arith, length_owed numbers) in
    ap (λ (head : ℕ). set (set (set (set numbers (1 + 3 * count) head) (1 + 3 * count + 1) confirmation.version) (1 + 3 * count + 2) confirmation.number) 0 (count + 1)) c.head_of.ensures
    ∙ kept_added numbers confirmation count (1 + 3 * count) all refl (omega arith) refl
    ∙ ap (kept_owed numbers) (sym (free_new confirmation (owed_in numbers) c.requires few))

pub returns-else-count-lt-MOST : goal.returns-else-count-lt-MOST
returns-else-count-lt-MOST c =
    let numbers = c.args.owed.now in
    let all : length numbers ≡ 25 = omega arith in
    let many : 8 ≤ length (owed_in numbers) = omega (arith, length_owed numbers) in
    sym (owed_same numbers all) ∙ ap (kept_owed numbers) (sym (free_full c.args.confirmation (owed_in numbers) c.requires many))
