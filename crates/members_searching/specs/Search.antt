-- The search for the first listed number from some number on.
use Rattle.std.specs.Prelude.{◌∷◌, Option, None, Some}
use Rattle.std.specs.Option.{is_none, unwrap_or}
use Rattle.laws.specs.Usual.{Bool, List, [], ℕ, drop}
use Rattle.members.specs.Members.{numbers_from}
use Rattle.members.specs.declared.Members.{Members}

abbrev pub first_in : List ℕ → Option ℕ
first_in [] = None
first_in (number ∷ rest) = Some number

-- the first listed number that is not below `from`
abbrev pub first_from : ℕ → Members → Option ℕ
first_from from members = first_in (numbers_from from (drop from members.entries))

abbrev pub is_nobody : Option ℕ → Bool
is_nobody found = is_none found

-- the number that was found, or another
abbrev pub number_or : ℕ → Option ℕ → ℕ
number_or otherwise found = unwrap_or found otherwise
