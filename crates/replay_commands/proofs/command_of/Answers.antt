-- `replay_commands::command_of` meets its contract.
use Rattle.laws.specs.Usual.{sym, ap, ◌∙◌, ℕ, take}
use native.Mathlib.Nat.{sub-zero}
use lib.Seq.{take_all}
use Rattle.replay_commands.specs.Commands.{command_by}
use Rattle.replay_commands.proofs.command_of.Goals as goal

pub returns-then-count-buffer : goal.returns-then-count-buffer
returns-then-count-buffer c = let a = c.args in c.command_by.ensures ∙ ap (λ (k : ℕ). command_by a.line (take k a.buffer.now)) (sub-zero a.line.count)

pub returns-else-count-buffer : goal.returns-else-count-buffer
returns-else-count-buffer c = let a = c.args in c.command_by-else-count-buffer.ensures ∙ ap (command_by a.line) (sym (take_all a.line.count a.buffer.now c.if-count-buffer.false))
