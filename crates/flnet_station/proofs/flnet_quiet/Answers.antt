-- `flnet_station::flnet_quiet` meets its contract, which is that of the call it makes.
use Rattle.flnet_station.proofs.flnet_quiet.Goals as goal

pub returns : goal.returns
returns c = c.quiet_ticks.ensures
