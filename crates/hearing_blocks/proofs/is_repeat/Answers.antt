-- `hearing_blocks::is_repeat` meets its contract.
use Rattle.std.specs.Prelude.{◌≡◌, ◌+◌, ◌-◌}
use Rattle.laws.specs.Usual.{ap, ◌∙◌, ℕ, arith, length, take, drop, rules}
use Rattle.comparing.specs.Same.{same}
use Rattle.hearing_blocks.proofs.is_repeat.Goals as goal

pub returns-then-gathering-frame : goal.returns-then-gathering-frame
returns-then-gathering-frame c =
    let a = c.args in
    let start = c.block_start-start in
    let long : start.result + length a.octets.now - start.result ≡ length a.octets.now = omega arith in
    c.same.ensures
    ∙ ap (λ (n : ℕ). same a.octets.now (take n (drop start.result a.assembly.now))) long
    ∙ ap (λ (n : ℕ). same a.octets.now (take (length a.octets.now) (drop n a.assembly.now))) start.ensures
    ∙ rw c.if-gathering-frame.true

pub returns : goal.returns
returns c = rw c.if-gathering-frame.false
