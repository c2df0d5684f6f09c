-- Demand 2: "The panel is the gap. For every list of calls since off, the panel shows what the history of that list says." Assumes nothing.
use Rattle.std.specs.Prelude.{◌≡◌}
use Rattle.laws.specs.Usual.{[], true, List}
use Rattle.station.specs.Panel.History.{Step, participates, clock, takings}
use Rattle.station.specs.Panel.Counts.{Counts}
use Rattle.station.specs.Panel.Moves.{Room}
use Rattle.station.specs.Types.{Station}

-- what holds of a participant after these steps: its counters are those of the history, and a block of its turn is left to send
pub record Agrees (steps : List Step) (station : Station) : Type 0 where
  pub counts : participates station ≡ true → Counts (clock steps) (takings steps) station.panel
  pub room : participates station ≡ true → Room station
