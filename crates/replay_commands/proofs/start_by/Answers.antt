-- `replay_commands::start_by` meets its contract.
use Rattle.std.specs.Prelude.{◌≡◌, ◌&&◌, ◌≤◌}
use Rattle.laws.specs.Usual.{ℕ, Bool, true, arith, leb}
use borrow.Author.Tests.{leb-true}
use Rattle.laws.specs.Tests.{first, second}
use Rattle.replay_commands.proofs.start_by.Goals as goal

-- each of six tests that hold together
parts : (a b c d e f : Bool) → (a && b && c && d && e && f) ≡ true → (a ≡ true) × (b ≡ true) × (c ≡ true) × (d ≡ true) × (e ≡ true) × (f ≡ true)
parts a b c d e f six =
    let five = first (a && b && c && d && e) f six in
    let four = first (a && b && c && d) e five in
    let three = first (a && b && c) d four in
    let two = first (a && b) c three in
    (first a b two, second a b two, second (a && b) c three, second (a && b && c) d four, second (a && b && c && d) e five, second (a && b && c && d && e) f six)

-- each number is in its range
fits : (number address1 size1 address2 size2 watch : ℕ)
    → (leb number 255 && leb address1 65535 && leb size1 65535 && leb address2 65535 && leb size2 65535 && leb watch 255) ≡ true
    → (number ≤ 255) × (address1 ≤ 65535) × (size1 ≤ 65535) × (address2 ≤ 65535) × (size2 ≤ 65535) × (watch ≤ 255)
fits number address1 size1 address2 size2 watch all =
    let h = parts (leb number 255) (leb address1 65535) (leb size1 65535) (leb address2 65535) (leb size2 65535) (leb watch 255) all in
    (leb-true _ _ h.0, leb-true _ _ h.1, leb-true _ _ h.2, leb-true _ _ h.3, leb-true _ _ h.4, leb-true _ _ h.5)

pub overflow_cast-result : goal.overflow_cast-result
overflow_cast-result c = omega (arith, (fits c.args.number c.args.address1 c.args.size1 c.args.address2 c.args.size2 c.args.watch c.if-number-address1.true).0)

pub overflow_cast-result-then-number-address1 : goal.overflow_cast-result-then-number-address1
overflow_cast-result-then-number-address1 c = omega (arith, (fits c.args.number c.args.address1 c.args.size1 c.args.address2 c.args.size2 c.args.watch c.if-number-address1.true).1)

pub overflow_cast-result-then-number-address1-2 : goal.overflow_cast-result-then-number-address1-2
overflow_cast-result-then-number-address1-2 c = omega (arith, (fits c.args.number c.args.address1 c.args.size1 c.args.address2 c.args.size2 c.args.watch c.if-number-address1.true).2)

pub overflow_cast-result-then-number-address1-3 : goal.overflow_cast-result-then-number-address1-3
overflow_cast-result-then-number-address1-3 c = omega (arith, (fits c.args.number c.args.address1 c.args.size1 c.args.address2 c.args.size2 c.args.watch c.if-number-address1.true).3)

pub overflow_cast-result-then-number-address1-4 : goal.overflow_cast-result-then-number-address1-4
overflow_cast-result-then-number-address1-4 c = omega (arith, (fits c.args.number c.args.address1 c.args.size1 c.args.address2 c.args.size2 c.args.watch c.if-number-address1.true).4)

pub overflow_cast-result-then-number-address1-5 : goal.overflow_cast-result-then-number-address1-5
overflow_cast-result-then-number-address1-5 c = omega (arith, (fits c.args.number c.args.address1 c.args.size1 c.args.address2 c.args.size2 c.args.watch c.if-number-address1.true).5)

pub returns-then-number-address1 : goal.returns-then-number-address1
returns-then-number-address1 c = rw c.if-number-address1.true

pub returns-else-number-address1 : goal.returns-else-number-address1
returns-else-number-address1 c = rw c.if-number-address1.false
