-- `replay_commands::tick_of` meets its contract.
use Rattle.std.specs.Prelude.{◌≡◌, ◌&&◌}
use Rattle.laws.specs.Usual.{refl, sym, ap, ◌∙◌, Bool, cond, List, ℕ, length, leb}
use Rattle.replay_commands.specs.Commands.{with_number, tick_of}
use Rattle.text.specs.Lines.{space}
use Rattle.text_reading.proofs.PartLaws.{ended_at}
use Rattle.replay_words.proofs.WordLaws.{read_at}
use Rattle.replay_words.specs.Words.{number_in, number_at, words_behind}
use Rattle.replay_commands.specs.declared.Command.TheVariants.{Tick, Bad}
use Rattle.replay_words.specs.declared.Number.{Number}
use Rattle.replay_commands.proofs.tick_of.Goals as goal

tick_read : (line : List ℕ) (k : Number) → k ≡ number_at line 4
    → tick_of (words_behind line 4) ≡ with_number k.value (λ n. cond (leb (length line) k.end && leb 1 n && leb n 1000000) (Tick n) Bad)
tick_read line k p =
    let words = words_behind line 4 in
    let r = read_at line 4 0 4 k refl p in
    rw r.0
    (ap (λ (test : Bool). with_number (number_in words 0) (λ (n : ℕ). cond (test && leb 1 n && leb n 1000000) (Tick n) Bad))
    (sym (ap (leb (length line)) r.1 ∙ ended_at space line 4 1)))

pub returns-then-line-ticks : goal.returns-then-line-ticks
returns-then-line-ticks c = sym (rw (c.in-Some.is, c.if-line-ticks.true) at (tick_read c.args.line.now c.number_at-ticks.result c.number_at-ticks.ensures))

pub returns-else-line-ticks : goal.returns-else-line-ticks
returns-else-line-ticks c = sym (rw (c.in-Some.is, c.if-line-ticks.false) at (tick_read c.args.line.now c.number_at-ticks.result c.number_at-ticks.ensures))
