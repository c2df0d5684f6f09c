-- How long the panel's text is, and the six octets that it is handed on in. Assumes nothing.
use Rattle.std.specs.Prelude.{◌≡◌, ◌∷◌, ◌++◌, ◌-◌, ◌<◌, ◌≤◌}
use Rattle.laws.specs.Usual.{refl, List, [], ℕ, arith, length, get_or, replicate}
use Rattle.copying.specs.Pasted.{pasted}
use Rattle.text.specs.Decimal.{decimal_of}
use Rattle.text.specs.Digits.{at_most, one_more}

pub four_digits : (number : ℕ) → number < 10000 → length (decimal_of number) ≤ 4
four_digits number h =
    rw (
      one_more 8 number (omega arith),
      one_more 7 number (omega arith),
      one_more 6 number (omega arith),
      one_more 5 number (omega arith),
      one_more 4 number (omega arith),
      one_more 3 number (omega arith),
    ) (at_most 4 number)

-- the six octets in front of a buffer of zeros that a text was put into
pub six : (text : List ℕ) → length text ≤ 6
    → get_or (pasted (replicate 16 0) 0 text) 0 0
    ∷ get_or (pasted (replicate 16 0) 0 text) 1 0
    ∷ get_or (pasted (replicate 16 0) 0 text) 2 0
    ∷ get_or (pasted (replicate 16 0) 0 text) 3 0
    ∷ get_or (pasted (replicate 16 0) 0 text) 4 0
    ∷ get_or (pasted (replicate 16 0) 0 text) 5 0
    ∷ []
    ≡ text ++ replicate (6 - length text) 0
six [] h = refl
six (a ∷ []) h = refl
six (a ∷ b ∷ []) h = refl
six (a ∷ b ∷ c ∷ []) h = refl
six (a ∷ b ∷ c ∷ d ∷ []) h = refl
six (a ∷ b ∷ c ∷ d ∷ e ∷ []) h = refl
six (a ∷ b ∷ c ∷ d ∷ e ∷ f ∷ []) h = refl
six (a ∷ b ∷ c ∷ d ∷ e ∷ f ∷ g ∷ rest) h = absurd (omega arith)
