-- `flnet_station::flnet_stop` meets its contract, which is that of the call it makes.
use Rattle.flnet_station.proofs.flnet_stop.Goals as goal

pub returns : goal.returns
returns c = record { core_after = c.stop.ensures.core_after; core_after_2 = c.stop.ensures.core_after_2; value = c.stop.ensures.value; misses_after = c.stop.ensures.misses_after }
