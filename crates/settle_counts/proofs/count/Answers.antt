-- `settle_counts::count` meets its contract.
use Rattle.std.specs.Prelude.{◌≡◌, ◌<◌}
use Rattle.laws.specs.Usual.{ap, ◌∙◌, ℕ, arith, length, rules}
use Rattle.settle_counts.specs.Counts.{with_total}
use Rattle.settle_counts.proofs.Loops.{counting_none, counting_skip, counting_more, counting_all}
use Rattle.settle_counts.proofs.count.Goals as goal
use Rattle.settle_counts.proofs.count.Goals.{then-view-ne0, else-view-ne0}

pub loop-view-init : goal.loop-view-init
loop-view-init c = counting_none c.args.ring.views

pub loop-view-preserved : goal.loop-view-preserved
loop-view-preserved c =
    let loop = c.loop-view in
    let views = c.args.ring.views in
    let inside : loop.view-index < length views = search rules in
    elim c.if-view-ne0.branch [
      | then-view-ne0 w ↦ rw w.numbers-is (counting_more inside loop.invariant w.if-view-ne0.true c.loop-view-test.element_fits.fits)
      | else-view-ne0 w ↦ rw w.numbers-is (counting_skip inside loop.invariant w.if-view-ne0.false)
    ]

pub returns : goal.returns
returns c =
    let loop = c.loop-view in
    let all : length c.args.ring.views ≡ 256 = search rules in
    ap (λ (n : ℕ). record { numbers = loop.numbers; total = n }) c.above_zero-total.ensures ∙ ap with_total (counting_all (omega arith) loop.invariant)
