-- `boundary_flags::first_listed` meets its contract.
use Rattle.std.specs.Prelude.{◌≡◌, ◌-◌}
use Rattle.laws.specs.Usual.{sym, ap, ◌∙◌, min, arith, rules}
use Rattle.members_searching.specs.Search.{first_from, number_or}
use Rattle.boundary_lists.specs.Lists.{flagged}
use Rattle.boundary_flags.specs.Search.{first_skip, first_here, first_past}
use Rattle.boundary_flags.proofs.first_listed.Goals as goal

pub loop-number-init : goal.loop-number-init
loop-number-init c = ap (λ found. min c.args.end (number_or c.args.end found)) c.skip-number.ensures

pub returns-then-listed-number : goal.returns-then-listed-number
returns-then-listed-number c =
    let a = c.args in
    let loop = c.loop-number in
    let here = first_here a.listed.now loop.number (omega arith) a.end c.if-listed-number.true in
    omega (arith, here, loop.invariant)

pub loop-number-preserved : goal.loop-number-preserved
loop-number-preserved c =
    let a = c.args in
    let loop = c.loop-number in
    ap (λ found. min a.end (number_or a.end found)) (sym (first_skip a.listed.now loop.number (omega arith) c.if-listed-number.false)) ∙ loop.invariant

pub returns : goal.returns
returns c =
    let a = c.args in
    sym (first_past a.end c.loop-number.number (flagged a.listed.now) (search rules)) ∙ c.loop-number.invariant
