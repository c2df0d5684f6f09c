-- `hearing_entering::joining_hears` meets its contract.
use Rattle.laws.specs.Usual.{sym, ap, ◌∙◌, rules}
use Rattle.station.specs.Rules.Hearing.{enters}
use Rattle.frame.specs.declared.Code.{Code}
use Rattle.station.specs.declared.Phase.TheVariants.{Joining}
use Rattle.hearing_entering.proofs.joining_hears.Goals as goal

pub returns-in-Token : goal.returns-in-Token
returns-in-Token c = c.join.ensures ∙ sym (ap (λ (code : Code). enters Joining code c.args.station c.args.frame) c.in-Token.is)

pub returns-in-Cyclic : goal.returns-in-Cyclic
returns-in-Cyclic c = c.join-in-Cyclic.ensures ∙ sym (ap (λ (code : Code). enters Joining code c.args.station c.args.frame) c.in-Cyclic.is)

pub returns-in-Request : goal.returns-in-Request
returns-in-Request c = sym (ap (λ (code : Code). enters Joining code c.args.station c.args.frame) c.in-Request.is)

pub returns-in-Trigger : goal.returns-in-Trigger
returns-in-Trigger c = sym (ap (λ (code : Code). enters Joining code c.args.station c.args.frame) c.in-Trigger.is)
