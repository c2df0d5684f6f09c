-- `flnet_station::flnet_ticks` meets its contract, which is that of the call it makes.
use Rattle.flnet_station.proofs.flnet_ticks.Goals as goal

pub returns : goal.returns
returns c = record { core_after = c.ticks.ensures.core_after; core_after_2 = c.ticks.ensures.core_after_2; value = c.ticks.ensures.value; misses_after = c.ticks.ensures.misses_after }
