-- `replay_reply_state::put_entry` meets its contract.
use Rattle.laws.specs.Usual.{sym, arith}
use Rattle.copying.specs.Laws.{paste_nothing}
use Rattle.replay_reply_state.proofs.put_entry.Goals as goal

pub returns-then-entry : goal.returns-then-entry
returns-then-entry c = rw c.if-entry.true c.put_listed.ensures

pub returns-else-entry : goal.returns-else-entry
returns-else-entry c =
    let a = c.args in
    rw c.if-entry.false record { value = omega arith; output_after = sym (paste_nothing a.output.now a.at) }
