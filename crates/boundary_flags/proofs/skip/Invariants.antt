use Rattle.std.specs.Prelude.{◌≡◌, ◌-◌, ◌≤◌}
use Rattle.laws.specs.Usual.{refl, sym, ◌∙◌, arith}
use Rattle.members_searching.specs.Search.{first_from}
use Rattle.boundary_lists.specs.Lists.{flagged}
use Rattle.boundary_flags.specs.Search.{sixteen_skip}
use Rattle.boundary_flags.proofs.skip.Given as goal

abbrev pub invariant-loop-number : goal.invariant-loop-number
invariant-loop-number l =
    (l.number ≤ 256) × (first_from l.number (flagged l.listed) ≡ first_from l.from (flagged l.listed))

abbrev pub decreases-loop-number : goal.decreases-loop-number
decreases-loop-number l =
    l.end - l.number
