-- Numbers and their octets. Assumes nothing.
use Rattle.std.specs.Prelude.{◌≡◌, ◌+◌, ◌*◌, ◌/◌, ◌%◌, ◌<◌}
use Rattle.laws.specs.Usual.{ℕ, arith}

-- two octets make the number again, and so do four
pub word_back : (n : ℕ) → n / 256 * 256 + n % 256 ≡ n
word_back n = omega arith

pub long_back : (n : ℕ) → (n / 16777216 * 256 + n / 65536 % 256) * 65536 + (n / 256 % 256 * 256 + n % 256) ≡ n
long_back n = omega arith

-- the number of two octets has these octets again
pub high_back : (a b : ℕ) → b < 256 → (a * 256 + b) / 256 ≡ a
high_back a b h = omega arith

pub low_back : (a b : ℕ) → b < 256 → (a * 256 + b) % 256 ≡ b
low_back a b h = omega arith

-- the number of four octets has these octets again
module _ (a b c d : ℕ) (hb : b < 256) (hc : c < 256) (hd : d < 256) where
  abbrev number : ℕ
  number = (a * 256 + b) * 65536 + (c * 256 + d)

  pub first_back : number / 16777216 ≡ a
  first_back = omega arith

  pub second_back : number / 65536 % 256 ≡ b
  second_back = omega arith

  pub third_back : number / 256 % 256 ≡ c
  third_back = omega arith

  pub fourth_back : number % 256 ≡ d
  fourth_back = omega arith
