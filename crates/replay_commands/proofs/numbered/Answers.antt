-- `replay_commands::numbered` meets its contract.
use Rattle.laws.specs.Usual.{sym, ◌∙◌}
use Rattle.replay_commands.proofs.numbered.Goals as goal

pub returns-then-begins : goal.returns-then-begins
returns-then-begins c = rw ((sym c.begins.ensures ∙ c.if-begins.true)) c.start_of.ensures

pub returns-then-begins-2 : goal.returns-then-begins-2
returns-then-begins-2 c = rw ((sym c.begins.ensures ∙ c.if-begins.false), (sym c.begins-2.ensures ∙ c.if-begins-2.true)) c.tick_of.ensures

pub returns-then-begins-3 : goal.returns-then-begins-3
returns-then-begins-3 c = rw ((sym c.begins.ensures ∙ c.if-begins.false), (sym c.begins-2.ensures ∙ c.if-begins-2.false), (sym c.begins-3.ensures ∙ c.if-begins-3.true)) c.poke_of.ensures

pub returns-then-begins-4 : goal.returns-then-begins-4
returns-then-begins-4 c = rw ((sym c.begins.ensures ∙ c.if-begins.false), (sym c.begins-2.ensures ∙ c.if-begins-2.false), (sym c.begins-3.ensures ∙ c.if-begins-3.false), (sym c.begins-4.ensures ∙ c.if-begins-4.true)) c.peek_of.ensures

pub returns : goal.returns
returns c = rw ((sym c.begins.ensures ∙ c.if-begins.false), (sym c.begins-2.ensures ∙ c.if-begins-2.false), (sym c.begins-3.ensures ∙ c.if-begins-3.false), (sym c.begins-4.ensures ∙ c.if-begins-4.false))
