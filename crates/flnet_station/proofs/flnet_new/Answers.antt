-- `flnet_station::flnet_new` meets its contract, which is that of the call it makes.
use Rattle.flnet_station.proofs.flnet_new.Goals as goal

pub returns : goal.returns
returns c = record { core_after = c.new.ensures.core_after; core_after_2 = c.new.ensures.core_after_2; misses_after = c.new.ensures.misses_after }
