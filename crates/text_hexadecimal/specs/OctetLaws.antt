-- Laws of hexadecimal digits. Assumes nothing.
use Rattle.laws.specs.Usual.{refl, sym, ap, ap₂, ◌∙◌, Bool, true, false, cond, List, [], ℕ, suc, arith, length, get_or, take, drop, eqb}
use Rattle.std.specs.Prelude.{Option, Some, None, ◌≡◌, ◌&&◌, ◌∷◌, ◌+◌, ◌*◌, ◌/◌, ◌%◌, ◌<◌, ◌≤◌, zero}
use Rattle.std.proofs.Common.{add-one, drop_of_length-le, drop-cons, take_all, length-take-le, eq-eqb}
use Rattle.std.proofs.Math.Seq.{take-nil}
use Rattle.laws.specs.Tests.{both, first}
use Rattle.text_hexadecimal.specs.Digits.{Below, digit_below}
use Rattle.text_hexadecimal.specs.Hexadecimal.{Spelled, octets, neither, joined, digit_of, spelled}
use Rattle.text_hexadecimal.specs.Octets.{octets_by, octets_of, is_digit_by, is_hexadecimal, value_by, value_of, octet_at, all_hexadecimal}

-- digits, octet by octet
module _ (list : List ℕ) (i : ℕ) where
  pub all_done : length list ≤ i → all_hexadecimal (drop i list) ≡ true
  all_done h = rw (drop_of_length-le list h)

  pub all_none : i < length list → is_hexadecimal (get_or list i 0) ≡ false → all_hexadecimal (drop i list) ≡ false
  all_none h e = rw (drop-cons list i 0 h, e)

  pub all_more : i < length list → is_hexadecimal (get_or list i 0) ≡ true → all_hexadecimal (drop i list) ≡ all_hexadecimal (drop (i + 1) list)
  all_more h e = rw (add-one i, drop-cons list i 0 h, e)

pub value_below : (octet : ℕ) → value_of octet < 16
value_below octet = by (digit_of octet) (digit_below octet)
  where
    by : (digit : Option ℕ) → Below digit → value_by digit < 16
    by (Some d) h = h
    by None h = omega arith

-- whether a number is even
abbrev pub even : ℕ → Bool
even n = eqb (n % 2) 0

even_more : (n : ℕ) → even (suc (suc n)) ≡ even n
even_more n = let same : suc (suc n) % 2 ≡ n % 2 = omega arith in ap (λ (k : ℕ). eqb k 0) same

-- what digits spell, by whether they are an even number of hexadecimal digits
abbrev pub proper : List ℕ → Bool
proper digits = all_hexadecimal digits && even (length digits)

abbrev pairs : List ℕ → List ℕ
pairs [] = []
pairs (digit ∷ []) = []
pairs (high ∷ low ∷ digits) = (value_of high * 16 + value_of low) ∷ pairs digits

spelled_by : (digits : List ℕ) → spelled digits ≡ cond (proper digits) (octets (pairs digits)) neither
spelled_by [] = refl
spelled_by (digit ∷ []) = by (is_hexadecimal digit)
  where
    by : (t : Bool) → neither ≡ cond ((t && true) && false) (octets []) neither
    by true = refl
    by false = refl
spelled_by (high ∷ low ∷ digits) = by (digit_of high) (digit_of low) (all_hexadecimal digits) (even (suc (suc (length digits)))) (spelled digits) (spelled_by digits ∙ rw (even_more (length digits)))
  where
    by : (a b : Option ℕ) (all : Bool) (right : Bool) (rest : Spelled) → rest ≡ cond (all && right) (octets (pairs digits)) neither →
        joined a b rest ≡ cond ((is_digit_by a && (is_digit_by b && all)) && right) (octets ((value_by a * 16 + value_by b) ∷ pairs digits)) neither
    by (Some x) (Some y) true true rest e = rw e
    by (Some x) (Some y) true false rest e = rw e
    by (Some x) (Some y) false right rest e = rw e
    by (Some x) None all right rest e = refl
    by None b all right rest e = refl

octets_by_lem : (digits : List ℕ) → octets_of digits ≡ cond (proper digits) (pairs digits) []
octets_by_lem digits = ap octets_by (spelled_by digits) ∙ by (proper digits)
  where
    by : (t : Bool) → octets_by (cond t (octets (pairs digits)) neither) ≡ cond t (pairs digits) []
    by true = refl
    by false = refl

pairs_length : (digits : List ℕ) → length (pairs digits) ≡ length digits / 2
pairs_length [] = refl
pairs_length (digit ∷ []) = refl
pairs_length (high ∷ low ∷ digits) = ap suc (pairs_length digits) ∙ omega arith

pair_at : (digits : List ℕ) (i : ℕ) → i < length digits / 2 → get_or (pairs digits) i 0 ≡ octet_at digits i
pair_at [] i h = absurd (omega arith)
pair_at (digit ∷ []) i h = absurd (omega arith)
pair_at (high ∷ low ∷ digits) zero h = refl
pair_at (high ∷ low ∷ digits) (suc i) h =
    pair_at digits i (omega arith)
    ∙ ap₂ (λ (j k : ℕ). value_of (get_or (high ∷ low ∷ digits) j 0) * 16 + value_of (get_or (high ∷ low ∷ digits) k 0)) two three
  where
    two : suc (suc (2 * i)) ≡ 2 * suc i
    two = omega arith

    three : suc (suc (2 * i + 1)) ≡ 2 * suc i + 1
    three = omega arith

pub octets_length : (digits : List ℕ) → length (octets_of digits) ≡ cond (proper digits) (length digits / 2) 0
octets_length digits = ap length (octets_by_lem digits) ∙ by (proper digits)
  where
    by : (t : Bool) → length (cond t (pairs digits) []) ≡ cond t (length digits / 2) 0
    by true = pairs_length digits
    by false = refl

-- there are two digits for each octet
pub octets_most : (digits : List ℕ) → 2 * length (octets_of digits) ≤ length digits
octets_most digits = by (proper digits) (octets_length digits)
  where
    by : (t : Bool) → length (octets_of digits) ≡ cond t (length digits / 2) 0 → 2 * length (octets_of digits) ≤ length digits
    by true e = omega arith
    by false e = omega arith

pub octet_at_lem : (digits : List ℕ) (i : ℕ) → i < length (octets_of digits) → get_or (octets_of digits) i 0 ≡ octet_at digits i
octet_at_lem digits i h = by (proper digits) (octets_by_lem digits) (octets_length digits)
  where
    by : (t : Bool) → octets_of digits ≡ cond t (pairs digits) [] → length (octets_of digits) ≡ cond t (length digits / 2) 0 → get_or (octets_of digits) i 0 ≡ octet_at digits i
    by true e l = ap (λ (list : List ℕ). get_or list i 0) e ∙ pair_at digits i (omega arith)
    by false e l = absurd (omega arith)

-- the first of some digits are digits
all_first : (digits : List ℕ) (n : ℕ) → all_hexadecimal digits ≡ true → all_hexadecimal (take n digits) ≡ true
all_first digits zero e = refl
all_first [] (suc n) e = refl
all_first (digit ∷ digits) (suc n) e = by (is_hexadecimal digit) e (all_first digits n)
  where
    by : (t : Bool) → (t && all_hexadecimal digits) ≡ true → (all_hexadecimal digits ≡ true → all_hexadecimal (take n digits) ≡ true) → (t && all_hexadecimal (take n digits)) ≡ true
    by true p more = more p
    by false p more = p

pairs_first : (digits : List ℕ) (n : ℕ) → pairs (take (2 * n) digits) ≡ take n (pairs digits)
pairs_first digits zero = refl
pairs_first [] (suc n) = ap pairs (take-nil (2 * suc n))
pairs_first (digit ∷ []) (suc n) = ap pairs (take_all (2 * suc n) (digit ∷ []) (omega arith))
pairs_first (high ∷ low ∷ digits) (suc n) =
    let two : 2 * suc n ≡ suc (suc (2 * n)) = omega arith in
    ap (λ (k : ℕ). pairs (take k (high ∷ low ∷ digits))) two ∙ ap (λ (rest : List ℕ). (value_of high * 16 + value_of low) ∷ rest) (pairs_first digits n)

-- two digits for each octet spell the first octets
pub octets_first : (digits : List ℕ) (n : ℕ) → n ≤ length (octets_of digits) → octets_of (take (2 * n) digits) ≡ take n (octets_of digits)
octets_first digits zero h = refl
octets_first digits (suc n) h = by (proper digits) refl (octets_by_lem digits)
  where
    by : (t : Bool) → proper digits ≡ t → octets_of digits ≡ cond t (pairs digits) [] → octets_of (take (2 * suc n) digits) ≡ take (suc n) (octets_of digits)
    by false right e = absurd (omega (arith, ap length e))
    by true right e =
        let count : length (take (2 * suc n) digits) ≡ 2 * suc n = length-take-le (2 * suc n) digits (omega (arith, octets_most digits)) in
        let pair : even (length (take (2 * suc n) digits)) ≡ true = ap even count ∙ eq-eqb (2 * suc n % 2) 0 (omega arith) in
        let part : proper (take (2 * suc n) digits) ≡ true = both (all_first digits (2 * suc n) (first (all_hexadecimal digits) (even (length digits)) right)) pair in
        octets_by_lem (take (2 * suc n) digits)
        ∙ ap (λ (t : Bool). cond t (pairs (take (2 * suc n) digits)) []) part
        ∙ pairs_first digits (suc n)
        ∙ ap (take (suc n)) (sym e)
