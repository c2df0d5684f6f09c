-- What is put into the low part of a number is what stands there, and what stands there already changes nothing. Assumes nothing.
use Rattle.laws.specs.Usual.{refl, ap, ◌∙◌, Bool, true, false, List, [], ℕ, suc, arith, length, get_or}
use Rattle.std.specs.Prelude.{◌≡◌, ◌∷◌, ◌%◌, ◌<◌, zero}
use Rattle.std.proofs.Common.{eq-eqb, ne_eqb, eqb-true}
use Rattle.std.proofs.lemmas.Bool.{eqb-false}
use Rattle.low_parts.specs.Parts.{octet, octets, flag, with_octet, with_octets, with_flag}

-- what is put into the low part of a number is what stands there
pub octet_back : (number low : ℕ) → low < 256 → octet (with_octet number low) ≡ low
octet_back number low small = omega arith

pub octets_back : (number low : ℕ) → low < 65536 → octets (with_octets number low) ≡ low
octets_back number low small = omega arith

pub flag_back : (number : ℕ) (low : Bool) → flag (with_flag number low) ≡ low
flag_back number true = eq-eqb (with_flag number true % 2) 1 (omega arith)
flag_back number false = ne_eqb (with_flag number false % 2) 1 (λ e. omega arith)

-- what stands there already changes nothing
pub octet_same : (number : ℕ) → with_octet number (octet number) ≡ number
octet_same number = omega arith

pub octets_same : (number : ℕ) → with_octets number (octets number) ≡ number
octets_same number = omega arith

pub flag_same : (number : ℕ) → with_flag number (flag number) ≡ number
flag_same number = by (flag number) refl
  where
    by : (low : Bool) → flag number ≡ low → with_flag number low ≡ number
    by true e = let odd : number % 2 ≡ 1 = eqb-true (number % 2) 1 e in omega arith
    by false e = let even : number % 2 ≡ 1 → ⊥ = eqb-false (number % 2) 1 e in omega arith

-- the elements from a place on, so many of them
abbrev pub elements : (ℕ → ℕ) → ℕ → ℕ → List ℕ
elements element place zero = []
elements element place (suc count) = element place ∷ elements element (suc place) count

later : (element : ℕ → ℕ) (place count : ℕ) → elements element (suc place) count ≡ elements (λ i. element (suc i)) place count
later element place zero = refl
later element place (suc count) = ap (λ (rest : List ℕ). element (suc place) ∷ rest) (later element (suc place) count)

pub all_elements : (numbers : List ℕ) → elements (λ i. get_or numbers i 0) 0 (length numbers) ≡ numbers
all_elements [] = refl
all_elements (number ∷ numbers) =
    ap (λ (rest : List ℕ). number ∷ rest) (later (λ i. get_or (number ∷ numbers) i 0) 0 (length numbers) ∙ all_elements numbers)
