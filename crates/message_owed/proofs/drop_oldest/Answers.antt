-- `message_owed::drop_oldest` meets its contract.
use Rattle.std.specs.Prelude.{◌≡◌, ◌+◌, ◌-◌, ◌*◌}
use Rattle.laws.specs.Usual.{ap, ◌∙◌, List, ℕ, arith, length, get_or, drop, set}
use lib.Seq.{paste}
use Rattle.message_owed.specs.Steps.{kept_dropped, kept_none, held_dropped}
use Rattle.message_owed.proofs.drop_oldest.Goals as goal

pub returns-then-count-gt0 : goal.returns-then-count-gt0
returns-then-count-gt0 c =
    let numbers = c.args.owed.now in
    let count = c.count_in-count.result in
    let all : length numbers ≡ 25 = omega arith in
    let moved : 1 + 3 * count - 4 ≡ 3 * (count - 1) = omega arith in
    let put = ap (λ (l : List ℕ). set l 0 (count - 1)) (c.copy_within.ensures.after ∙ ap (λ (k : ℕ). paste numbers 1 (drop 4 numbers) k) moved)
    ∙ kept_dropped numbers count all c.count_in-count.ensures (omega arith) in
    record { owed_after = held_dropped numbers put; owed_after_2 = put }

pub returns-else-count-gt0 : goal.returns-else-count-gt0
returns-else-count-gt0 c =
    let numbers = c.args.owed.now in
    let all : length numbers ≡ 25 = omega arith in
    let none : get_or numbers 0 0 ≡ 0 = omega arith in
    let put = kept_none numbers none all in
    record { owed_after = held_dropped numbers put; owed_after_2 = put }
