-- `boundary_calm::count` meets its contract.
use Rattle.laws.specs.Usual.{sym, ap, ◌∙◌, Bool, cond}
use Rattle.boundary_watch.specs.Watch.{quiet_after}
use Rattle.boundary_waiting.specs.Waiting.{waited_core}
use Rattle.boundary_calm.proofs.count.Goals as goal

pub returns-then-is_quiet : goal.returns-then-is_quiet
returns-then-is_quiet c =
    let core = c.args.core in
    c.quiet.ensures ∙ ap (λ (quiet : Bool). cond quiet (quiet_after core) (waited_core core)) (sym (sym c.is_quiet.ensures ∙ c.if-is_quiet.true))

pub returns : goal.returns
returns c =
    let core = c.args.core in
    c.count.ensures ∙ ap (λ (quiet : Bool). cond quiet (quiet_after core) (waited_core core)) (sym (sym c.is_quiet.ensures ∙ c.if-is_quiet.false))
