-- The low part of a number that stands for an octet, two octets or a flag, and a number with another low part. What stands above it does not count.
use Rattle.std.specs.Prelude.{◌+◌, ◌*◌, ◌/◌, ◌%◌}
use Rattle.laws.specs.Usual.{Bool, cond, ℕ, eqb}

abbrev pub octet : ℕ → ℕ
octet number = number % 256

abbrev pub octets : ℕ → ℕ
octets number = number % 65536

abbrev pub flag : ℕ → Bool
flag number = eqb (number % 2) 1

abbrev pub with_octet : ℕ → ℕ → ℕ
with_octet number low = number / 256 * 256 + low

abbrev pub with_octets : ℕ → ℕ → ℕ
with_octets number low = number / 65536 * 65536 + low

abbrev pub with_flag : ℕ → Bool → ℕ
with_flag number low = number / 2 * 2 + cond low 1 0
