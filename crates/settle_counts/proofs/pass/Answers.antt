-- `settle_counts::pass` meets its contract.
use Rattle.std.specs.Prelude.{◌≡◌, ◌+◌, ◌<◌, ◌≤◌}
use Rattle.laws.specs.Usual.{ap, ap₂, ◌∙◌, List, ℕ, min, arith, get_or, set, rules}
use Rattle.settle_counts.specs.Counts.{above_zero, sum_of, most}
use Rattle.settle_counts.specs.Passing.{is_moved, without_moved}
use Rattle.settle_counts.proofs.Passing.{pass_numbers}
use Rattle.settle_counts.proofs.pass.Goals as goal

pub returns : goal.returns
returns c =
    let a = c.args in
    let taken = c.take_moved-moved in
    let small : (i : ℕ) → get_or a.numbers.now i 0 ≤ most = λ i. let low : get_or a.numbers.now i 0 < 65536 = search rules in omega arith in
    let rest = without_moved a.from a.to a.numbers.now in
    let held : c.min.result ≡ min most (get_or taken.new.numbers a.to 0 + taken.result) = omega (arith, c.min.ensures) in
    let same : set taken.new.numbers a.to c.min.result ≡ set rest a.to (min most (get_or rest a.to 0 + sum_of (is_moved a.from a.to) 0 a.numbers.now)) =
    ap (set taken.new.numbers a.to) held
    ∙ ap₂ (λ (l : List ℕ) (n : ℕ). set l a.to (min most (get_or l a.to 0 + n))) taken.ensures.numbers_after taken.ensures.value in
    let numbers = same ∙ pass_numbers a.from a.to a.numbers.now c.requires small (search rules) in
    record { value = c.above_zero.ensures ∙ ap above_zero numbers; numbers_after = numbers }
