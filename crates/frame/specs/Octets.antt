-- Clause 8.3 of JEM 1479: the header of every frame is big endian, the most significant octet first.
use Rattle.std.specs.Prelude.{◌+◌, ◌*◌}
use Rattle.laws.specs.Usual.{List, ℕ, get_or}

abbrev pub octet_at : List ℕ → ℕ → ℕ
octet_at s at = get_or s at 0

-- the number of two octets
abbrev pub word_at : List ℕ → ℕ → ℕ
word_at s at = octet_at s at * 256 + octet_at s (at + 1)

-- the number of four octets
abbrev pub long_at : List ℕ → ℕ → ℕ
long_at s at = word_at s at * 65536 + word_at s (at + 2)
