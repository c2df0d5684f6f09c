-- The octets that the library gives of a number are those of the definitions. Assumes nothing.
use Rattle.std.specs.Prelude.{◌≡◌, ◌∷◌, ◌/◌, ◌%◌, ◌<◌, ◌^◌}
use Rattle.laws.specs.Usual.{ap, List, [], ℕ, arith}
use Rattle.std.specs.Int.{to_be_bytes}
use mir.Syntax.{w16, w32}
use Rattle.frame_writing.specs.Writing.{long}

pub long_octets : (n : ℕ) → n < 2 ^ 32 → to_be_bytes w32 n ≡ long n
long_octets n h =
    let top : n / 16777216 % 256 ≡ n / 16777216 = omega arith in
    ap (λ (k : ℕ). k ∷ n / 65536 % 256 ∷ n / 256 % 256 ∷ n % 256 ∷ []) top

pub word_octets : (n : ℕ) → n < 2 ^ 16 → to_be_bytes w16 n ≡ n / 256 ∷ n % 256 ∷ []
word_octets n h =
    let top : n / 256 % 256 ≡ n / 256 = omega arith in
    ap (λ (k : ℕ). k ∷ n % 256 ∷ []) top
