-- `flnet_station::flnet_tick` meets its contract, which is that of the call it makes.
use Rattle.flnet_station.proofs.flnet_tick.Goals as goal

pub returns : goal.returns
returns c = record { core_after = c.tick.ensures.core_after; core_after_2 = c.tick.ensures.core_after_2; value = c.tick.ensures.value; misses_after = c.tick.ensures.misses_after }
