-- `flnet_station::flnet_ask` meets its contract, which is that of the call it makes.
use Rattle.flnet_station.proofs.flnet_ask.Goals as goal

pub returns : goal.returns
returns c = record { core_after = c.ask.ensures.core_after; core_after_2 = c.ask.ensures.core_after_2; value = c.ask.ensures.value; turn_after = c.ask.ensures.turn_after; output_after = c.ask.ensures.output_after; misses_after = c.ask.ensures.misses_after }
