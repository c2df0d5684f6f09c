-- `asking_sending::turn::make_turn` meets its contract.
use Rattle.laws.specs.Usual.{◌∙◌, arith, rules}
use borrow.Author.Tests.{eq-eqb, ne_eqb}
use Rattle.asking_sending.proofs.turn.make_turn.Goals as goal

pub returns-then-block-eq0 : goal.returns-then-block-eq0
returns-then-block-eq0 c = c.copy_turn.ensures ∙ rw (eq-eqb c.args.block 0 (omega (arith, c.if-block-eq0.true)))

pub returns-else-block-eq0 : goal.returns-else-block-eq0
returns-else-block-eq0 c = rw (ne_eqb c.args.block 0 c.if-block-eq0.false)
