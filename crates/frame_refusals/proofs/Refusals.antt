-- What is proved of the definitions in specs/Refusals.antt.
use Rattle.std.specs.Prelude.{◌≡◌, ◌∷◌}
use Rattle.laws.specs.Usual.{[], refl, map}
use Rattle.frame_refusals.specs.Refusals.{number_of, order}

pub order_numbers : map number_of order ≡ 11 ∷ 12 ∷ 13 ∷ 10 ∷ 1 ∷ 2 ∷ 3 ∷ 4 ∷ 5 ∷ 6 ∷ 7 ∷ 14 ∷ 15 ∷ 8 ∷ 9 ∷ []
order_numbers = refl
