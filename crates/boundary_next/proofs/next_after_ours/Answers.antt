-- `boundary_next::next_after_ours` meets its contract.
use Rattle.std.specs.Prelude.{◌+◌}
use Rattle.laws.specs.Usual.{sym, ◌∙◌, arith}
use borrow.Author.Tests.{le-ltb}
use Rattle.members.specs.Members.{smallest}
use Rattle.members_searching.specs.Found.{next_found, smallest_found}
use Rattle.boundary_lists.specs.Lists.{flagged}
use Rattle.boundary_flags.specs.Search.{found_one, found_none}
use borrow.Author.Rules.{rules}
use Rattle.boundary_next.proofs.next_after_ours.Goals as goal

pub returns-then-larger-lt256 : goal.returns-then-larger-lt256
returns-then-larger-lt256 c =
    let a = c.args in
    let larger = c.first_listed-larger.ensures in
    let first = smallest a.ours (flagged a.listed.now) in
    larger
    ∙ sym (found_one a.listed.now (a.ours + 1) first (rw (← larger) c.if-larger-lt256.true))
    ∙ rw (next_found a.ours (flagged a.listed.now) a.ours, le-ltb a.ours a.ours (omega arith))

pub returns : goal.returns
returns c =
    let a = c.args in
    let larger = c.first_listed-larger.ensures in
    let first = smallest a.ours (flagged a.listed.now) in
    c.first_listed.ensures
    ∙ sym (smallest_found a.ours (flagged a.listed.now))
    ∙ sym (found_none a.listed.now (a.ours + 1) first (search rules) (rw (← larger) c.if-larger-lt256.false))
    ∙ rw (next_found a.ours (flagged a.listed.now) a.ours, le-ltb a.ours a.ours (omega arith))
