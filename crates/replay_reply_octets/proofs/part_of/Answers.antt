-- `replay_reply_octets::part_of` meets its contract.
use Rattle.std.specs.Prelude.{◌≡◌, ◌+◌, ◌-◌}
use Rattle.laws.specs.Usual.{sym, ap, ◌∙◌, ℕ, arith, take, drop}
use lib.ListN.{length-drop, drop_of_length-le}
use lib.Seq.{take-nil, take_all}
use Rattle.laws.specs.Lists.{to_end}
use Rattle.replay_reply_octets.proofs.part_of.Goals as goal

pub returns-then-octets-at : goal.returns-then-octets-at
returns-then-octets-at c =
    let a = c.args in
    rw (drop_of_length-le a.octets.now {i = a.at} (omega arith), take-nil a.count)

pub returns-then-octets-at-2 : goal.returns-then-octets-at-2
returns-then-octets-at-2 c =
    let a = c.args in
    to_end a.octets.now a.at ∙ sym (take_all a.count (drop a.at a.octets.now) (rw length-drop (omega arith)))

pub returns : goal.returns
returns c =
    let a = c.args in
    let count : a.at + a.count - a.at ≡ a.count = omega arith in
    ap (λ (n : ℕ). take n (drop a.at a.octets.now)) count
