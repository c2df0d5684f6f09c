-- `replay_reply_asked::put_asked` meets its contract.
use Rattle.laws.specs.Usual.{ap, ◌∙◌, List, ℕ, arith, length, rules}
use lib.ListN.{length-take}
use Rattle.copying.specs.Pasted.{pasted}
use Rattle.replay_reply_parts.specs.Hex.{hex_of}
use Rattle.replay_reply_parts.specs.Lines.{ended, spaced}
use Rattle.replay_reply_asked.specs.Asked.{frame_word, asked_text}
use Rattle.replay_reply_asked.proofs.put_asked.Goals as goal

pub put_frame-requires : goal.put_frame-requires
put_frame-requires c =
    omega (arith, c.requires, ap length c.part_of.ensures, length-take c.in-Ok.count c.args.frame.now)

pub returns-in-Ok : goal.returns-in-Ok
unfolding asked_text
returns-in-Ok c =
    let told = c.part_of.ensures in
    let text = c.put_frame.ensures in
    rw c.in-Ok.is record { value = text.value ∙ ap (λ (o : List ℕ). length (ended (spaced frame_word (hex_of o)))) told; output_after = text.output_after ∙ ap (λ (o : List ℕ). pasted c.args.output.now 0 (ended (spaced frame_word (hex_of o)))) told }

pub returns-in-Err : goal.returns-in-Err
unfolding asked_text
returns-in-Err c = rw c.in-Err.is c.put_refused.ensures
