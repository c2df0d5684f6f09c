-- `replay_commands::start_of` meets its contract.
use Rattle.std.specs.Prelude.{◌≡◌}
use Rattle.laws.specs.Usual.{refl, sym, ap, ◌∙◌, Bool, cond, List, ℕ, length, leb}
use borrow.Author.Tests.{le-leb, lt-leb}
use Rattle.replay_commands.specs.Commands.{start_with, start_of}
use Rattle.text.specs.Lines.{space}
use Rattle.text_reading.proofs.PartLaws.{ended_at}
use Rattle.replay_words.proofs.WordLaws.{read_at}
use Rattle.replay_words.specs.Words.{number_in, number_at, words_behind}
use Rattle.replay_commands.specs.declared.Command.TheVariants.{Bad}
use Rattle.replay_words.specs.declared.Number.{Number}
use Rattle.replay_commands.proofs.start_of.Goals as goal

-- what the six numbers say, read one behind the other
start_read : (line : List ℕ) (n a s b t w : Number)
    → n ≡ number_at line 5 → a ≡ number_at line n.end → s ≡ number_at line a.end → b ≡ number_at line s.end → t ≡ number_at line b.end → w ≡ number_at line t.end
    → start_of (words_behind line 5) ≡ cond (leb (length line) w.end) (start_with n.value a.value s.value b.value t.value w.value) Bad
start_read line n a s b t w p₀ p₁ p₂ p₃ p₄ p₅ =
    let words = words_behind line 5 in
    let r₀ = read_at line 5 0 5 n refl p₀ in
    let r₁ = read_at line 5 1 n.end a r₀.1 p₁ in
    let r₂ = read_at line 5 2 a.end s r₁.1 p₂ in
    let r₃ = read_at line 5 3 s.end b r₂.1 p₃ in
    let r₄ = read_at line 5 4 b.end t r₃.1 p₄ in
    let r₅ = read_at line 5 5 t.end w r₄.1 p₅ in
    rw (r₀.0, r₁.0, r₂.0, r₃.0, r₄.0, r₅.0)
    (ap (λ (test : Bool). cond test (start_with (number_in words 0) (number_in words 1) (number_in words 2) (number_in words 3) (number_in words 4) (number_in words 5)) Bad)
    (sym (ap (leb (length line)) r₅.1 ∙ ended_at space line 5 6)))

pub returns-then-line-watch : goal.returns-then-line-watch
returns-then-line-watch c = c.start_with.ensures ∙ sym (rw (le-leb _ _ c.if-line-watch.true) at (start_read c.args.line.now c.number_at-number.result c.number_at-address1.result c.number_at-size1.result c.number_at-address2.result c.number_at-size2.result c.number_at-watch.result c.number_at-number.ensures c.number_at-address1.ensures c.number_at-size1.ensures c.number_at-address2.ensures c.number_at-size2.ensures c.number_at-watch.ensures))

pub returns-else-line-watch : goal.returns-else-line-watch
returns-else-line-watch c = sym (rw (lt-leb _ _ c.if-line-watch.false) at (start_read c.args.line.now c.number_at-number.result c.number_at-address1.result c.number_at-size1.result c.number_at-address2.result c.number_at-size2.result c.number_at-watch.result c.number_at-number.ensures c.number_at-address1.ensures c.number_at-size1.ensures c.number_at-address2.ensures c.number_at-size2.ensures c.number_at-watch.ensures))
