-- `boundary_calm::counts` meets its contract.
use Rattle.std.specs.Prelude.{◌||◌}
use Rattle.laws.specs.Usual.{sym, ap, ◌∙◌, Bool}
use Rattle.boundary_waiting.specs.Waiting.{is_waiting}
use Rattle.boundary_calm.proofs.counts.Goals as goal

pub returns-then-is_quiet : goal.returns-then-is_quiet
returns-then-is_quiet c = ap (λ (quiet : Bool). quiet || is_waiting c.args.core) (sym (sym c.is_quiet.ensures ∙ c.if-is_quiet.true))

pub returns : goal.returns
returns c = c.is_waiting.ensures ∙ ap (λ (quiet : Bool). quiet || is_waiting c.args.core) (sym (sym c.is_quiet.ensures ∙ c.if-is_quiet.false))
