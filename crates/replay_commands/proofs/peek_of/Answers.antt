-- `replay_commands::peek_of` meets its contract.
use Rattle.std.specs.Prelude.{◌≡◌, ◌&&◌, ◌+◌}
use Rattle.laws.specs.Usual.{refl, sym, ap, ◌∙◌, Bool, cond, List, ℕ, length, leb}
use Rattle.replay_commands.specs.Commands.{with_number, peek_of}
use Rattle.text.specs.Lines.{space}
use Rattle.text_reading.proofs.PartLaws.{ended_at}
use Rattle.replay_words.proofs.WordLaws.{read_at}
use Rattle.replay_words.specs.Words.{number_in, number_at, words_behind}
use Rattle.replay_commands.specs.declared.Command.TheVariants.{Peek, Bad}
use Rattle.replay_words.specs.declared.Number.{Number}
use Rattle.replay_commands.proofs.peek_of.Goals as goal

peek_read : (line : List ℕ) (a l : Number) → a ≡ number_at line 4 → l ≡ number_at line a.end
    → peek_of (words_behind line 4) ≡ with_number a.value (λ at. with_number l.value (λ len. cond (leb (length line) l.end && leb (at + len) 17408) (Peek (record { at = at; length = len })) Bad))
peek_read line a l p q =
    let words = words_behind line 4 in
    let r = read_at line 4 0 4 a refl p in
    let s = read_at line 4 1 a.end l r.1 q in
    rw (r.0, s.0)
    (ap (λ (test : Bool). with_number (number_in words 0) (λ (at : ℕ). with_number (number_in words 1) (λ (len : ℕ). cond (test && leb (at + len) 17408) (Peek (record { at = at; length = len })) Bad)))
    (sym (ap (leb (length line)) s.1 ∙ ended_at space line 4 2)))

pub returns-then-line-size : goal.returns-then-line-size
returns-then-line-size c = sym (rw (c.in-Some-Some.is-0, c.in-Some-Some.is-1, c.if-line-size.true) at (peek_read c.args.line.now c.number_at-place.result c.number_at-size.result c.number_at-place.ensures c.number_at-size.ensures))

pub returns-else-line-size : goal.returns-else-line-size
returns-else-line-size c = sym (rw (c.in-Some-Some.is-0, c.in-Some-Some.is-1, c.if-line-size.false) at (peek_read c.args.line.now c.number_at-place.result c.number_at-size.result c.number_at-place.ensures c.number_at-size.ensures))

pub returns-in_default : goal.returns-in_default
returns-in_default c = sym (rw (c.in_default.is-0, c.in_default.is-1) at (peek_read c.args.line.now c.number_at-place.result c.number_at-size.result c.number_at-place.ensures c.number_at-size.ensures))
