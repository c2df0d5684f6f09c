-- `replay_reply_parts::put_mark` meets its contract.
use Rattle.laws.specs.Usual.{refl, rules}
use Rattle.copying.specs.Laws.{paste_one}
use Rattle.replay_reply_parts.proofs.put_mark.Goals as goal

pub returns : goal.returns
returns c = record { value = refl; output_after = paste_one c.args.output.now c.args.at c.args.mark (search rules) }
