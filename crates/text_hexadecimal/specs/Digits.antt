-- A hexadecimal digit is below 16. Assumes nothing.
use Rattle.std.specs.Prelude.{Option, Some, None, ◌≡◌, ◌-◌, ◌<◌, ◌≤◌}
use Rattle.laws.specs.Usual.{refl, Bool, true, false, cond, ℕ, arith, leb}
use Rattle.std.proofs.Common.{leb-true}
use Rattle.laws.specs.Tests.{second}
use Rattle.text_hexadecimal.specs.Hexadecimal.{between, digit_of}

abbrev pub Below : Option ℕ → Type 0
Below (Some digit) = digit < 16
Below None = Unit {0}

pub digit_below : (octet : ℕ) → Below (digit_of octet)
digit_below octet = by (between 0x30 0x39 octet) (up_to_lem 0x30 0x39) (between 0x41 0x46 octet) (up_to_lem 0x41 0x46) (between 0x61 0x66 octet) (up_to_lem 0x61 0x66)
  where
    up_to_lem : (low high : ℕ) → between low high octet ≡ true → octet ≤ high
    up_to_lem low high e = leb-true octet high (second (leb low octet) (leb octet high) e)

    by : (a : Bool) → (a ≡ true → octet ≤ 0x39) → (b : Bool) → (b ≡ true → octet ≤ 0x46) → (c : Bool) → (c ≡ true → octet ≤ 0x66) →
        Below (cond a (Some (octet - 48)) (cond b (Some (octet - 55)) (cond c (Some (octet - 87)) None)))
    by true p b q c r = let h = p refl in omega arith
    by false p true q c r = let h = q refl in omega arith
    by false p false q true r = let h = r refl in omega arith
    by false p false q false r = tt
