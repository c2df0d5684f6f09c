-- `replay_performing::write` meets its contract.
use Rattle.std.specs.Prelude.{◌≡◌, ◌-◌}
use Rattle.laws.specs.Usual.{sym, ap, ◌∙◌, ℕ, arith, length, take, rules}
use Rattle.text_hexadecimal.specs.Octets.{octets_of}
use Rattle.copying.specs.Laws.{paste_nothing}
use Rattle.copying.specs.Pasted.{pasted}
use borrow.Rule.Slice.PartMut.{put_mid}
use Rattle.replay_performing.proofs.Buffers.{put_front}
use Rattle.replay_performing.proofs.write.Goals as goal

pub returns-then-at-memory : goal.returns-then-at-memory
returns-then-at-memory c =
    let a = c.args in
    ap (put_mid a.at (length a.memory.now - a.at) a.memory.now) c.unspell.ensures.output_after ∙ put_front a.memory.now (octets_of a.digits.now) a.at

pub returns-else-at-memory : goal.returns-else-at-memory
returns-else-at-memory c =
    let a = c.args in
    let none : length a.memory.now - a.at ≡ 0 = omega arith in
    sym (ap (λ (n : ℕ). pasted a.memory.now a.at (take n (octets_of a.digits.now))) none ∙ paste_nothing a.memory.now a.at)
