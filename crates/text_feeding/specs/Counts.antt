-- How many octets a reading brought.
use Rattle.std.specs.Prelude.{◌≡◌, ◌≤◌}
use Rattle.laws.specs.Usual.{List, ℕ, length, take}

-- so many octets came to the front of a part: it has as many
abbrev pub Counts : ℕ → List ℕ → Type 0
Counts count part = (count ≤ length part) × (count ≡ length (take count part))
