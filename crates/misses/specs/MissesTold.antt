-- An entry's misses are what the history says, and a station is struck exactly at the third. Assumes nothing.
use Rattle.std.specs.Prelude.{◌≡◌}
use Rattle.laws.specs.Usual.{[], true, List, ℕ}
use Rattle.members.specs.Members.{entry_of, is_listed}
use Rattle.station.specs.Panel.History.{Step}
use Rattle.station.specs.declared.Station.{Station}
use Rattle.misses.specs.EntryMoves.{Carries}
use Rattle.misses.specs.MissHistory.{misses_said}

-- every listed station's entry carries what these steps say
abbrev pub Told : List Step → Station → Type 0
Told steps station = (x : ℕ) → is_listed station.members x ≡ true → Carries (misses_said x steps) (entry_of station.members x)
