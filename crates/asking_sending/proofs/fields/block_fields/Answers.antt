-- `asking_sending::fields::block_fields` meets its contract.
use Rattle.laws.specs.Usual.{arith, rules}
use Rattle.asking_placing.specs.Placed.{placed, last_equal}
use Rattle.asking_sending.proofs.fields.block_fields.Goals as goal

pub overflow_add-block : goal.overflow_add-block
overflow_add-block c = let p = placed c.args.own.areas c.args.block c.requires in omega (arith, p.next, p.few)

pub overflow_cast-result-2 : goal.overflow_cast-result-2
overflow_cast-result-2 c = let p = placed c.args.own.areas c.args.block c.requires in omega (arith, c.blocks-2.ensures, p.few)

pub returns : goal.returns
returns c = rw (c.blocks-2.ensures, c.block_length-size.ensures, c.block_code-code.ensures, c.is_last.ensures, last_equal _ _ c.requires)
