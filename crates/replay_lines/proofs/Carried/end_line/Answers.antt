-- `replay_lines::Carried::end_line` meets its contract.
use Rattle.std.specs.Prelude.{◌≡◌}
use Rattle.laws.specs.Usual.{ap, ap₂, ◌∙◌, length}
use Rattle.replay_commands.specs.Commands.{command_in}
use Rattle.replay_commands.specs.declared.Command.{Command}
use Rattle.copying.specs.Pasted.{pasted}
use Rattle.replay_input.specs.declared.Line.{Line}
use Rattle.replay_performing.specs.Replaying.{Performed, performed}
use Rattle.replay_performing.specs.declared.Kept.{Kept}
use Rattle.replay_lines.specs.declared.Carried.{Carried}
use Rattle.replay_lines.specs.Replay.{carried, line_done}
use Rattle.replay_lines.proofs.Carried.end_line.Goals as goal

-- the command that the line means is performed
same_done : (before : Carried) (command : Command) → command ≡ command_in before.line before.stored →
    performed command before.stored before.kept ≡ line_done before
unfolding line_done
same_done before command told = ap (λ (k : Command). performed k before.stored before.kept) told

pub returns : goal.returns
returns c =
    let a = c.args in
    let before = a.self.now in
    let told = c.command_of-command in
    let same : performed told.result before.stored before.kept ≡ line_done before = same_done before told.result told.ensures in
    let done = c.perform-length.ensures in record {
      carried_after = ap₂ (λ (k : Kept) (l : Line). carried k l before.stored) (done.kept_after ∙ ap (λ (p : Performed). p.kept) same) c.begin-self.ensures;
      length_value = done.length_value ∙ ap (λ (p : Performed). length p.line) same;
      answer_after = done.answer_after ∙ ap (λ (p : Performed). pasted a.answer.now 0 p.line) same;
    }
