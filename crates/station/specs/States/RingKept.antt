-- The list with ours is a ring of different numbers in ascending order: our own, and those listed. Assumes nothing.
use Rattle.std.specs.Prelude.{◌≡◌, ◌+◌}
use Rattle.laws.specs.Usual.{[], true, List, ℕ, get_or}
use mathlib.Core.List.Memᴰ
use Rattle.members.specs.Members.{nobody}
use Rattle.station.specs.Types.{Entry}

-- where a listed number stands
abbrev pub Found : List Entry → ℕ → ℕ → Type 0
Found entries from x = (i : ℕ) × (x ≡ from + i) × ((get_or entries i nobody).listed ≡ true)
