-- `settle_run::limit` meets its contract.
use Rattle.std.specs.Prelude.{◌*◌}
use Rattle.laws.specs.Usual.{ap, ℕ, arith, rules}
use Rattle.settle_run.proofs.Counted.{square_most}
use Rattle.settle_run.proofs.limit.Goals as goal

pub overflow_mul-result : goal.overflow_mul-result
overflow_mul-result c =
    let ring = c.args.ring in
    record { fits = omega (arith, square_most ring (search rules), ap (λ (n : ℕ). n * n) c.stations-count.ensures) }
