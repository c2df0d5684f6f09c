-- `boundary_switching::start` meets its contract.
use Rattle.boundary_answers.specs.Numbers.{switched_answer}
use Rattle.boundary_core.specs.Crossing.{station_in}
use Rattle.boundary_core.specs.declared.Core.{Core}
use Rattle.boundary_places.proofs.Laws.{call_kept}
use Rattle.station.specs.Rules.Starting.{Switching, start_of}
use Rattle.boundary_switching.proofs.start.Goals as goal
