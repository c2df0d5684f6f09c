-- `message_owed::owe` meets its contract.
use Rattle.std.specs.Prelude.{◌≡◌}
use Rattle.laws.specs.Usual.{sym, ap, ◌∙◌, arith, length}
use Rattle.message_places.specs.Owed.{owed_in, kept_owed}
use Rattle.message_owed.specs.Laws.{at_most_eight, owed_same, octets_owed, octets_free, owed_back, free_there, free_eight}
use Rattle.message_owed.specs.Owing.{owing_where_free}
use Rattle.message_owed.proofs.owe.Goals as goal

pub returns-then-not-is_owed-clause-owed_after : goal.returns-then-not-is_owed-clause-owed_after
returns-then-not-is_owed-clause-owed_after c =
    let numbers = c.args.owed.now in
    let confirmation = c.args.confirmation in
    let octets = octets_free confirmation (omega arith) (omega arith) (owed_in numbers) (octets_owed numbers) in
    ap owed_in c.add.ensures
    ∙ owed_back numbers (owing_where_free confirmation (owed_in numbers)) (free_eight confirmation (owed_in numbers) (at_most_eight numbers)) octets

pub returns-else-not-is_owed : goal.returns-else-not-is_owed
returns-else-not-is_owed c =
    let numbers = c.args.owed.now in
    let all : length numbers ≡ 25 = omega arith in
    let there = free_there c.args.confirmation (owed_in numbers) (sym c.is_owed.ensures ∙ c.if-not-is_owed.false) in
    record { owed_after = sym there; owed_after_2 = sym (owed_same numbers all) ∙ ap (kept_owed numbers) (sym there) }
