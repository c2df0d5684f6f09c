-- `decode::decode_input` meets its contract.
use Rattle.laws.specs.Usual.{ap}
use Rattle.decode.specs.Capture.{Carried}
use Rattle.decode.proofs.decode_input.Goals as goal

pub returns : goal.returns
returns c = (c.decode_all.ensures.0, ap (λ (state : Carried). state.line) c.decode_all.ensures.1)
