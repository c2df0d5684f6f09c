-- `replay_commands::short_of` meets its contract.
use Rattle.laws.specs.Usual.{sym, ◌∙◌}
use Rattle.replay_commands.proofs.short_of.Goals as goal

pub returns-then-same : goal.returns-then-same
returns-then-same c = rw ((sym c.same.ensures ∙ c.if-same.true))

pub returns-then-same-2 : goal.returns-then-same-2
returns-then-same-2 c = rw ((sym c.same.ensures ∙ c.if-same.false), (sym c.same-2.ensures ∙ c.if-same-2.true))

pub returns-then-same-3 : goal.returns-then-same-3
returns-then-same-3 c = rw ((sym c.same.ensures ∙ c.if-same.false), (sym c.same-2.ensures ∙ c.if-same-2.false), (sym c.same-3.ensures ∙ c.if-same-3.true))

pub returns-then-same-4 : goal.returns-then-same-4
returns-then-same-4 c = rw ((sym c.same.ensures ∙ c.if-same.false), (sym c.same-2.ensures ∙ c.if-same-2.false), (sym c.same-3.ensures ∙ c.if-same-3.false), (sym c.same-4.ensures ∙ c.if-same-4.true))

pub returns-then-same-5 : goal.returns-then-same-5
returns-then-same-5 c = rw ((sym c.same.ensures ∙ c.if-same.false), (sym c.same-2.ensures ∙ c.if-same-2.false), (sym c.same-3.ensures ∙ c.if-same-3.false), (sym c.same-4.ensures ∙ c.if-same-4.false), (sym c.same-5.ensures ∙ c.if-same-5.true))

pub returns : goal.returns
returns c = rw ((sym c.same.ensures ∙ c.if-same.false), (sym c.same-2.ensures ∙ c.if-same-2.false), (sym c.same-3.ensures ∙ c.if-same-3.false), (sym c.same-4.ensures ∙ c.if-same-4.false), (sym c.same-5.ensures ∙ c.if-same-5.false)) c.numbered.ensures
