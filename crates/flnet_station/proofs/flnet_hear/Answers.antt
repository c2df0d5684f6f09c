-- `flnet_station::flnet_hear` meets its contract, which is that of the call it makes.
use Rattle.flnet_station.proofs.flnet_hear.Goals as goal

pub returns : goal.returns
returns c = record { core_after = c.hear.ensures.core_after; core_after_2 = c.hear.ensures.core_after_2; value = c.hear.ensures.value; memory_after = c.hear.ensures.memory_after; assembly_after = c.hear.ensures.assembly_after; misses_after = c.hear.ensures.misses_after }
