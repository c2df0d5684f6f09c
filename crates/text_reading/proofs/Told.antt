-- The numbers that are read are those that `text` writes, and no others. Assumes nothing.
use Rattle.laws.specs.Usual.{refl, sym, ap, ap₂, ◌∙◌, Bool, true, false, cond, List, [], ℕ, suc, arith, length, eqb, leb, ltb}
use Rattle.std.proofs.Common.{true≢false, append_assoc, append-nil, pow-suc, le-leb, leb-true, lt-ltb, ltb-false, eqb-true, ne_eqb, length-append}
use Rattle.std.specs.Prelude.{Some, None, ◌≡◌, ◌&&◌, ◌∷◌, ◌++◌, ◌+◌, ◌-◌, ◌*◌, ◌/◌, ◌%◌, ◌<◌, ◌≤◌, zero, ◌^◌}
use Rattle.std.proofs.Math.Decide.{dec_lt, ℕ_discrete}
use Rattle.std.proofs.lemmas.Bool.{eqb-false}
use Rattle.laws.specs.Tests.{both}
use Rattle.text.specs.Decimal.{behind, decimal_at, decimal_of}
use Rattle.text.specs.Digits.{one_digit, last_digit}
use Rattle.text_reading.specs.Marks.{before}
use Rattle.text_reading.specs.Values.{is_digit, value_on, decimal_in}
use Rattle.text_reading.proofs.ValueLaws.{digit_range}

never : (n : ℕ) → None ≡ Some n → ⊥
never n e = let z : ◌≡◌ {A = ℕ} 0 1 = cc in omega arith

-- digits that have a value: the first is a digit, the value with it is at most the limit, and the others go on from it
value_step : (most value octet n : ℕ) (octets : List ℕ) → value_on most value (octet ∷ octets) ≡ Some n
    → (is_digit octet ≡ true) × (value * 10 + (octet - 0x30) ≤ most) × (value_on most (value * 10 + (octet - 0x30)) octets ≡ Some n)
value_step most value octet n octets e = go (is_digit octet) (leb (value * 10 + (octet - 0x30)) most) refl refl
  where
    go : (s t : Bool) → is_digit octet ≡ s → leb (value * 10 + (octet - 0x30)) most ≡ t
        → (is_digit octet ≡ true) × (value * 10 + (octet - 0x30) ≤ most) × (value_on most (value * 10 + (octet - 0x30)) octets ≡ Some n)
    go true true d l = (d, leb-true _ _ l, rw (d, l) at e)
    go true false d l = absurd (never n (rw (d, l) at e))
    go false t d l = absurd (never n (rw d at e))

value_most : (most value n : ℕ) (octets : List ℕ) → value ≤ most → value_on most value octets ≡ Some n → n ≤ most
value_most most value n [] h e = let same : value ≡ n = cc in omega arith
value_most most value n (octet ∷ octets) h e =
    let (d, low, rest) = value_step most value octet n octets e in value_most most (value * 10 + (octet - 0x30)) n octets low rest

-- a mark that is no digit does not stand among digits
value_unmarked : (most value n mark : ℕ) (octets : List ℕ) → is_digit mark ≡ false → value_on most value octets ≡ Some n → before mark octets ≡ length octets
value_unmarked most value n mark [] m e = refl
value_unmarked most value n mark (octet ∷ octets) m e =
    let (d, _, rest) = value_step most value octet n octets e in
    go (eqb octet mark) refl d (value_unmarked most (value * 10 + (octet - 0x30)) n mark octets m rest)
  where
    go : (t : Bool) → eqb octet mark ≡ t → is_digit octet ≡ true → before mark octets ≡ length octets → cond t 0 (suc (before mark octets)) ≡ suc (length octets)
    go true same d rest = absurd (true≢false (sym d ∙ ap is_digit (eqb-true octet mark same) ∙ m))
    go false other d rest = ap suc rest

-- octets that are a number: digits, with others behind a first zero never
leading : (most n digit : ℕ) (digits : List ℕ) → decimal_in most (digit ∷ digits) ≡ Some n
    → (value_on most 0 (digit ∷ digits) ≡ Some n) × (digit ≡ 0x30 → length digits ≡ 0)
leading most n digit digits e = go (eqb digit 0x30) (ltb 0 (length digits)) refl refl
  where
    go : (s t : Bool) → eqb digit 0x30 ≡ s → ltb 0 (length digits) ≡ t
        → (value_on most 0 (digit ∷ digits) ≡ Some n) × (digit ≡ 0x30 → length digits ≡ 0)
    go true true a b = absurd (never n (rw (a, b) at e))
    go true false a b = (rw (a, b) at e, λ _. omega (arith, ltb-false 0 (length digits) b))
    go false t a b = (rw a at e, λ z. absurd (eqb-false digit 0x30 a z))

module _ (most n : ℕ) where
  pub number_most : (octets : List ℕ) → decimal_in most octets ≡ Some n → n ≤ most
  number_most [] e = absurd (never n e)
  number_most (digit ∷ digits) e = value_most most 0 n (digit ∷ digits) (omega arith) (leading most n digit digits e).0

  pub number_unmarked : (mark : ℕ) (octets : List ℕ) → is_digit mark ≡ false → decimal_in most octets ≡ Some n → before mark octets ≡ length octets
  number_unmarked mark [] m e = refl
  number_unmarked mark (digit ∷ digits) m e = value_unmarked most 0 n mark (digit ∷ digits) m (leading most n digit digits e).0

-- a digit behind a number
digit_behind : (value octet : ℕ) → 1 ≤ value → value * 10 + (octet - 0x30) < 2 ^ 32 → is_digit octet ≡ true
    → decimal_of (value * 10 + (octet - 0x30)) ≡ decimal_of value ++ (octet ∷ [])
digit_behind value octet some small d =
    let range = digit_range octet d in
    let number = value * 10 + (octet - 0x30) in
    let tens : number / 10 ≡ value = omega arith in
    let ones : 48 + number % 10 ≡ octet = omega arith in
    last_digit number small (omega arith) ∙ ap₂ (λ (t o : ℕ). decimal_of t ++ (o ∷ [])) tens ones

digits_behind : (most value n : ℕ) (octets : List ℕ) → most < 2 ^ 32 → 1 ≤ value → value_on most value octets ≡ Some n → decimal_of n ≡ decimal_of value ++ octets
digits_behind most value n [] small some e = let same : n ≡ value = cc in ap decimal_of same ∙ sym (append-nil (decimal_of value))
digits_behind most value n (octet ∷ octets) small some e =
    let (d, low, rest) = value_step most value octet n octets e in
    digits_behind most (value * 10 + (octet - 0x30)) n octets small (omega arith) rest
    ∙ ap (λ (l : List ℕ). l ++ octets) (digit_behind value octet some (omega arith) d)
    ∙ append_assoc (decimal_of value) (octet ∷ []) octets

-- octets that are read as a number are that number in decimal
pub number_told : (most n : ℕ) (octets : List ℕ) → most < 2 ^ 32 → decimal_in most octets ≡ Some n → decimal_of n ≡ octets
number_told most n [] small e = absurd (never n e)
number_told most n (digit ∷ digits) small e = go digits (leading most n digit digits e).1 (value_step most 0 digit n digits (leading most n digit digits e).0) (ℕ_discrete digit 0x30)
  where
    alone : is_digit digit ≡ true → decimal_of (0 * 10 + (digit - 0x30)) ≡ digit ∷ []
    alone d =
        let range = digit_range digit d in
        let ones : 48 + (0 * 10 + (digit - 0x30)) % 10 ≡ digit = omega arith in
        one_digit (0 * 10 + (digit - 0x30)) (omega arith) ∙ ap (λ (o : ℕ). o ∷ []) ones

    go : (digits : List ℕ) → (digit ≡ 0x30 → length digits ≡ 0)
        → (is_digit digit ≡ true) × (0 * 10 + (digit - 0x30) ≤ most) × (value_on most (0 * 10 + (digit - 0x30)) digits ≡ Some n)
        → Dec (digit ≡ 0x30) → decimal_of n ≡ digit ∷ digits
    go [] zero_alone (d, low, rest) test = let same : n ≡ 0 * 10 + (digit - 0x30) = cc in ap decimal_of same ∙ alone d
    go (next ∷ digits) zero_alone (d, low, rest) (yes z) = absurd (omega (arith, zero_alone z))
    go (next ∷ digits) zero_alone (d, low, rest) (no other) =
        digits_behind most (0 * 10 + (digit - 0x30)) n (next ∷ digits) small (omega (arith, digit_range digit d)) rest
        ∙ ap (λ (l : List ℕ). l ++ (next ∷ digits)) (alone d)

-- one more digit
value_longer : (most value n octet : ℕ) (octets : List ℕ) → value_on most value octets ≡ Some n → is_digit octet ≡ true → n * 10 + (octet - 0x30) ≤ most
    → value_on most value (octets ++ (octet ∷ [])) ≡ Some (n * 10 + (octet - 0x30))
value_longer most value n octet [] e d low = let same : value ≡ n = cc in rw (same, d, le-leb _ _ low)
value_longer most value n octet (x ∷ octets) e d low =
    let (first, small, rest) = value_step most value x n octets e in
    rw (first, le-leb _ _ small) (value_longer most (value * 10 + (x - 0x30)) n octet octets rest d low)

number_longer : (most n octet : ℕ) (octets : List ℕ) → decimal_in most octets ≡ Some n → 1 ≤ n → is_digit octet ≡ true → n * 10 + (octet - 0x30) ≤ most
    → decimal_in most (octets ++ (octet ∷ [])) ≡ Some (n * 10 + (octet - 0x30))
number_longer most n octet [] e some d low = absurd (never n e)
number_longer most n octet (digit ∷ digits) e some d low =
    rw (ne_eqb digit 0x30 (not_zero digits (leading most n digit digits e))) (value_longer most 0 n octet (digit ∷ digits) (leading most n digit digits e).0 d low)
  where
    not_zero : (digits : List ℕ) → (value_on most 0 (digit ∷ digits) ≡ Some n) × (digit ≡ 0x30 → length digits ≡ 0) → digit ≡ 0x30 → ⊥
    not_zero [] (v, zero_alone) z =
        let (_, _, rest) = value_step most 0 digit n [] v in
        let same : 0 * 10 + (digit - 0x30) ≡ n = cc in
        omega arith
    not_zero (next ∷ digits) (v, zero_alone) z = omega (arith, zero_alone z)

digit_of : (k : ℕ) → k < 10 → is_digit (48 + k) ≡ true
digit_of k h = both (le-leb 0x30 (48 + k) (omega arith)) (le-leb (48 + k) 0x39 (omega arith))

told_one : (most n : ℕ) → n < 10 → n ≤ most → decimal_in most (decimal_of n) ≡ Some n
told_one most n one low =
    let same : 0 * 10 + (48 + n % 10 - 0x30) ≡ n = omega arith in
    ap (decimal_in most) (one_digit n one) ∙ alone (eqb (48 + n % 10) 0x30) same
  where
    alone : (t : Bool) → 0 * 10 + (48 + n % 10 - 0x30) ≡ n → cond (t && false) None (value_on most 0 ((48 + n % 10) ∷ [])) ≡ Some n
    alone true same = rw (digit_of (n % 10) (omega arith), same, le-leb n most low)
    alone false same = rw (digit_of (n % 10) (omega arith), same, le-leb n most low)

-- a number up to the limit, in decimal, is read as that number
told_up_to : (most fuel n : ℕ) → most < 2 ^ 32 → n ≤ most → n ≤ fuel → decimal_in most (decimal_of n) ≡ Some n
told_up_to most zero n small low enough = told_one most n (omega arith) low
told_up_to most (suc fuel) n small low enough = by (dec_lt n 10) (told_up_to most fuel (n / 10) small (omega arith))
  where
    by : Dec (n < 10) → (n / 10 ≤ fuel → decimal_in most (decimal_of (n / 10)) ≡ Some (n / 10)) → decimal_in most (decimal_of n) ≡ Some n
    by (yes one) rest = told_one most n one low
    by (no more) rest =
        let same : n / 10 * 10 + (48 + n % 10 - 0x30) ≡ n = omega arith in
        ap (decimal_in most) (last_digit n (omega arith) (omega arith))
        ∙ number_longer most (n / 10) (48 + n % 10) (decimal_of (n / 10)) (rest (omega arith)) (omega arith) (digit_of (n % 10) (omega arith)) (omega arith)
        ∙ ap Some same

pub told_number : (most n : ℕ) → most < 2 ^ 32 → n ≤ most → decimal_in most (decimal_of n) ≡ Some n
told_number most n small low = told_up_to most n n small low (omega arith)

-- a number has no more digits than hold it
pub few_digits : (most number k : ℕ) → number < 10 ^ suc k → length (decimal_at most number) ≤ suc k
unfolding decimal_at
few_digits zero number k h = omega arith
few_digits (suc most) number zero h =
    let low : ltb number 10 ≡ true = lt-ltb number 10 (omega arith) in
    simp low (omega arith)
few_digits (suc most) number (suc k) h =
    by (ltb number 10) (decimal_at most (number / 10)) (few_digits most (number / 10) k (omega (arith, rw (pow-suc 10 (suc k)) at h)))
  where
    by : (test : Bool) (others : List ℕ) → length others ≤ suc k → length (behind test others (48 + number % 10)) ≤ suc (suc k)
    by true others h = omega arith
    by false others h = rw (length-append others ((48 + number % 10) ∷ [])) (omega arith)
