-- `boundary_flags::skip` meets its contract.
use Rattle.std.specs.Prelude.{◌≡◌, ◌-◌, ◌≤◌}
use Rattle.laws.specs.Usual.{refl, sym, ◌∙◌, arith}
use Rattle.members_searching.specs.Search.{first_from}
use Rattle.boundary_lists.specs.Lists.{flagged}
use Rattle.boundary_flags.specs.Search.{sixteen_skip}
use Rattle.boundary_flags.proofs.skip.Goals as goal

pub loop-number-init : goal.loop-number-init
loop-number-init c = (c.requires.from_bound, refl)

pub overflow_add-number : goal.overflow_add-number
overflow_add-number c = omega arith

pub any_of_sixteen-requires : goal.any_of_sixteen-requires
any_of_sixteen-requires c = omega arith

pub returns-then-any_of_sixteen : goal.returns-then-any_of_sixteen
returns-then-any_of_sixteen c = c.loop-number.invariant.1

pub overflow_add-number-in-loop-number : goal.overflow_add-number-in-loop-number
overflow_add-number-in-loop-number c = omega arith

pub loop-number-smaller : goal.loop-number-smaller
loop-number-smaller c = omega arith

pub loop-number-preserved : goal.loop-number-preserved
loop-number-preserved c =
    let loop = c.loop-number in
    (omega arith, sym (sixteen_skip c.args.listed.now loop.number (omega arith) (sym c.any_of_sixteen.ensures ∙ c.if-any_of_sixteen.false)) ∙ loop.invariant.1)

pub returns : goal.returns
returns c = c.loop-number.invariant.1
