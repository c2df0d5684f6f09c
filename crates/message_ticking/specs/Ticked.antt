-- A tick of a station with messages, by the core, the list in arrays and the outgoing side, whatever is owed and known.
use Rattle.laws.specs.Usual.{Bool, List, ℕ}
use Rattle.boundary_core.specs.Crossing.{station_in}
use Rattle.boundary_core.specs.declared.Core.{Core}
use Rattle.message.specs.declared.Confirmation.{Confirmation}
use Rattle.message_places.specs.Outgoing.{messages_of}
use Rattle.message_places.specs.declared.Outgoing.{Outgoing}
use Rattle.message_rules.specs.Rules.Calls.{Ticking, tick_of}
use Rattle.message_rules.specs.Rules.State.{Sources}

abbrev pub tick_in : Core → List Bool → List ℕ → List ℕ → List ℕ → Outgoing → List Confirmation → Sources → Ticking
tick_in core listed areas watch misses outgoing owed sources =
    tick_of (record { ring = station_in core listed areas watch misses; messages = messages_of outgoing owed sources })
