-- `boundary_ending::done` meets its contract.
use Rattle.laws.specs.Usual.{refl, rules}
use Rattle.boundary_ending.proofs.done.Goals as goal

pub returns : goal.returns
returns c = record { core_value = refl; answer_value = search rules }
