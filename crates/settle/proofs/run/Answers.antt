-- `settle::run` meets its contract.
use Rattle.std.specs.Io.KnownBytes.{Appends}
use Rattle.laws.specs.Usual.{ap, subst, ◌∙◌, List, ℕ, arith, length, take}
use Rattle.settle_rest.proofs.Begun.{begun}
use Rattle.settle_rest.specs.Rest.{rest_of}
use Rattle.settle_rest.specs.Whole.{output_of}
use Rattle.settle.proofs.Whole.{whole_output}
use Rattle.settle.proofs.run.Goals as goal

pub returns : goal.returns
returns g c =
    let read = c.read_full-count in
    let size = length read.new.buffer in
    let front = take read.result.0 read.new.buffer in
    let Held = λ (l : List ℕ). Appends (g.W.Write.contents c.args.output.now) (g.W.Write.contents c.write_rest.new.output) l in
    let said : Held (output_of front) = subst Held (ap rest_of c.begin.ensures ∙ begun front) c.in_ok-write_rest.ensures in
    whole_output Held read.result.1 _ _ size read.result.0 front (omega (arith, read.auto.buffer)) read.ensures.count.1 read.ensures.octets read.ensures.whole said
