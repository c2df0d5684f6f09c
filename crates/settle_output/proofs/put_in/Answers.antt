-- `settle_output::put_in` meets its contract.
use borrow.Author.Tests.{lt-ltb, le-ltb}
use Rattle.settle_output.proofs.put_in.Goals as goal

pub returns-then-output-lt35 : goal.returns-then-output-lt35
returns-then-output-lt35 c = record { value = simp (lt-ltb _ _ c.if-output-lt35.true); output_after = simp (lt-ltb _ _ c.if-output-lt35.true) }

pub returns : goal.returns
returns c =
    let enough = le-ltb _ _ c.if-output-lt35.false in
    record { value = simp enough c.put_line.ensures.value; output_after = simp enough c.put_line.ensures.output_after }
