-- `text_places::place_of` meets its contract.
use Rattle.laws.specs.Usual.{arith}
use Rattle.text_places.proofs.place_of.Goals as goal

pub returns : goal.returns
returns c = omega arith
