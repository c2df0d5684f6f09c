-- The count of a view after every view has gone elsewhere, from the counts before. Assumes nothing.
use Rattle.std.specs.Prelude.{◌<◌}
use Rattle.laws.specs.Usual.{List, ℕ}
use Rattle.settling.specs.Ring.{◌∈◌}

-- every number of a list is an octet
abbrev pub Octets : List ℕ → Type 0
Octets l = (x : ℕ) → x ∈ l → x < 256
