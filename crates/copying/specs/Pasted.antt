-- A list with another put in the place of what stood there.
use Rattle.std.specs.Prelude.{◌++◌, ◌+◌}
use Rattle.laws.specs.Usual.{List, ℕ, length, take, drop}

-- d with s in the place of its octets from `at` on
abbrev pub pasted : List ℕ → ℕ → List ℕ → List ℕ
pasted d at s = take at d ++ (s ++ drop (at + length s) d)
