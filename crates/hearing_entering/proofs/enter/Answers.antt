-- `hearing_entering::enter` meets its contract.
use Rattle.laws.specs.Usual.{sym, ap, ◌∙◌, rules}
use Rattle.station.specs.Rules.Hearing.{enters}
use Rattle.station.specs.declared.Phase.{Phase}
use Rattle.hearing_entering.proofs.enter.Goals as goal

pub returns-in-Off : goal.returns-in-Off
returns-in-Off c = sym (ap (λ (phase : Phase). enters phase c.args.frame.code c.args.station c.args.frame) c.in-Off.is)

pub returns-in-Listening : goal.returns-in-Listening
returns-in-Listening c = c.listening_hears.ensures ∙ sym (ap (λ (phase : Phase). enters phase c.args.frame.code c.args.station c.args.frame) c.in-Listening.is)

pub returns-in-Startup : goal.returns-in-Startup
returns-in-Startup c = c.startup_hears.ensures ∙ sym (ap (λ (phase : Phase). enters phase c.args.frame.code c.args.station c.args.frame) c.in-Startup.is)

pub returns-in-Joining : goal.returns-in-Joining
returns-in-Joining c = c.joining_hears.ensures ∙ sym (ap (λ (phase : Phase). enters phase c.args.frame.code c.args.station c.args.frame) c.in-Joining.is)

pub returns-in-Participating : goal.returns-in-Participating
returns-in-Participating c = c.member_hears.ensures ∙ sym (ap (λ (phase : Phase). enters phase c.args.frame.code c.args.station c.args.frame) c.in-Participating.is)
