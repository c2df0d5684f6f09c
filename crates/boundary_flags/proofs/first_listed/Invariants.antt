use Rattle.std.specs.Prelude.{◌≡◌, ◌-◌}
use Rattle.laws.specs.Usual.{sym, ap, ◌∙◌, min, arith, rules}
use Rattle.members_searching.specs.Search.{first_from, number_or}
use Rattle.boundary_lists.specs.Lists.{flagged}
use Rattle.boundary_flags.specs.Search.{first_skip, first_here, first_past}
use Rattle.boundary_flags.proofs.first_listed.Given as goal

abbrev pub invariant-loop-number : goal.invariant-loop-number
invariant-loop-number l =
    min l.end (number_or l.end (first_from l.number (flagged l.listed))) ≡ min l.end (number_or l.end (first_from l.from (flagged l.listed)))
