-- Laws of lines. Assumes nothing.
use Rattle.std.specs.Prelude.{◌≡◌, ◌∷◌, ◌++◌, ◌*◌, ◌≤◌}
use Rattle.laws.specs.Usual.{sym, ap, ◌∙◌, List, [], ℕ, arith, length}
use Rattle.std.proofs.Common.{append_assoc, append-nil, length-append}
use Rattle.text.specs.Decimal.{decimal_of}
use Rattle.text.specs.Digits.{at_most}
use Rattle.text.specs.Lines.{comma, numbers_of}

-- a comma and a number are at most eleven octets
pub numbers_length : (numbers : List ℕ) → length (numbers_of numbers) ≤ 11 * length numbers
numbers_length [] = omega arith
numbers_length (number ∷ rest) = rw (length-append (comma ∷ decimal_of number) (numbers_of rest)) (omega (arith, at_most 10 number, numbers_length rest))

-- one number more at the end
pub numbers_more : (numbers : List ℕ) (number : ℕ) → numbers_of (numbers ++ (number ∷ [])) ≡ numbers_of numbers ++ (comma ∷ decimal_of number)
numbers_more [] number = append-nil (comma ∷ decimal_of number)
numbers_more (first ∷ rest) number =
    ap (λ (l : List ℕ). (comma ∷ decimal_of first) ++ l) (numbers_more rest number)
    ∙ sym (append_assoc (comma ∷ decimal_of first) (numbers_of rest) (comma ∷ decimal_of number))
