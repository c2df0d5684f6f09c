-- Laws of the number that is read, for code that reads it octet by octet. Assumes nothing.
use Rattle.std.specs.Prelude.{None, ◌≡◌, ◌&&◌, ◌∷◌, ◌+◌, ◌-◌, ◌*◌, ◌<◌, ◌≤◌}
use Rattle.laws.specs.Usual.{refl, sym, ap, ◌∙◌, Bool, true, false, cond, List, [], ℕ, suc, arith, length, get_or, drop, eqb, leb, ltb}
use Rattle.std.proofs.Math.Decide.{dec_lt}
use Rattle.std.proofs.Common.{add-one, le-leb, leb-true, lt-ltb, le-ltb, drop-cons}
use Rattle.std.proofs.lemmas.Bool.{lt-leb}
use Rattle.laws.specs.Tests.{first, second}
use Rattle.text_reading.specs.Values.{is_digit, value_on, decimal_in}

pub digit_range : (octet : ℕ) → is_digit octet ≡ true → (0x30 ≤ octet) × (octet ≤ 0x39)
digit_range octet e = (
  leb-true 0x30 octet (first (leb 0x30 octet) (leb octet 0x39) e),
  leb-true octet 0x39 (second (leb 0x30 octet) (leb octet 0x39) e),
)

-- the value of digits, octet by octet
module _ (most value : ℕ) (octets : List ℕ) (i : ℕ) (h : i < length octets) where
  pub value_none : is_digit (get_or octets i 0) ≡ false → value_on most value (drop i octets) ≡ None
  value_none e = rw (drop-cons octets i 0 h, e)

  pub value_high : is_digit (get_or octets i 0) ≡ true → most < value * 10 + (get_or octets i 0 - 0x30) → value_on most value (drop i octets) ≡ None
  value_high e high = rw (drop-cons octets i 0 h, e, lt-leb _ _ high)

  pub value_more : is_digit (get_or octets i 0) ≡ true → value * 10 + (get_or octets i 0 - 0x30) ≤ most
      → value_on most value (drop i octets) ≡ value_on most (value * 10 + (get_or octets i 0 - 0x30)) (drop (i + 1) octets)
  value_more e low = rw (add-one i, drop-cons octets i 0 h, e, le-leb _ _ low)

pub both_more : (a b : ℕ) → ltb a b ≡ ltb (suc a) (suc b)
both_more a b = by (dec_lt a b)
  where
    by : Dec (a < b) → ltb a b ≡ ltb (suc a) (suc b)
    by (yes h) = lt-ltb a b h ∙ sym (lt-ltb (suc a) (suc b) (omega arith))
    by (no h) = le-ltb a b (omega arith) ∙ sym (le-ltb (suc a) (suc b) (omega arith))

-- octets as a number, by their length and their first digit
module _ (most : ℕ) where
  pub no_octets : (octets : List ℕ) → length octets ≡ 0 → decimal_in most octets ≡ None
  no_octets [] e = refl
  no_octets (octet ∷ octets) e = absurd (omega arith)

  pub zero_leads : (octets : List ℕ) → (eqb (get_or octets 0 0) 0x30 && ltb 1 (length octets)) ≡ true → decimal_in most octets ≡ None
  zero_leads [] e = refl
  zero_leads (digit ∷ digits) e = ap (λ (t : Bool). cond (eqb digit 0x30 && t) None (value_on most 0 (digit ∷ digits))) (both_more 0 (length digits)) ∙ rw e

  pub none_leads : (octets : List ℕ) → ¬ (length octets ≡ 0) → (eqb (get_or octets 0 0) 0x30 && ltb 1 (length octets)) ≡ false
      → decimal_in most octets ≡ value_on most 0 octets
  none_leads [] n e = absurd (n refl)
  none_leads (digit ∷ digits) n e = ap (λ (t : Bool). cond (eqb digit 0x30 && t) None (value_on most 0 (digit ∷ digits))) (both_more 0 (length digits)) ∙ rw e
