-- Laws of octets in hexadecimal. Assumes nothing.
use Rattle.std.specs.Prelude.{◌≡◌, ◌∷◌, ◌++◌, ◌*◌}
use Rattle.laws.specs.Usual.{refl, ap, List, [], ℕ, arith, length}
use Rattle.replay_reply_parts.specs.Hex.{octet_text, hex_of}

-- two digits an octet
pub hex_length : (octets : List ℕ) → length (hex_of octets) ≡ 2 * length octets
hex_length [] = omega arith
hex_length (octet ∷ rest) = omega (arith, hex_length rest)

-- one octet more at the end
pub hex_more : (octets : List ℕ) (octet : ℕ) → hex_of (octets ++ (octet ∷ [])) ≡ hex_of octets ++ octet_text octet
hex_more [] octet = refl
hex_more (first ∷ rest) octet = ap (λ (l : List ℕ). octet_text first ++ l) (hex_more rest octet)
