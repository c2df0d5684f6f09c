-- What is owed after one more, whether anything is, and a confirmation by its place in the numbers.
use Rattle.std.specs.Prelude.{◌∷◌, ◌+◌}
use Rattle.laws.specs.Usual.{Bool, true, false, cond, List, [], ℕ, get_or}
use Rattle.message.specs.declared.Confirmation.{Confirmation}
use Rattle.message_places.specs.Owed.{confirmation_by}
use Rattle.message_rules.specs.Rules.Confirming.{owing, is_full}

-- one that would be the ninth changes nothing
unfoldable pub owing_where_free : Confirmation → List Confirmation → List Confirmation
owing_where_free confirmation owed = cond (is_full confirmation owed) owed (owing confirmation owed)

abbrev pub is_owing : List Confirmation → Bool
is_owing [] = false
is_owing (first ∷ rest) = true

-- the confirmation from a place on
abbrev pub confirmation_at : List ℕ → ℕ → Confirmation
confirmation_at numbers at = confirmation_by (get_or numbers at 0) (get_or numbers (at + 1) 0) (get_or numbers (at + 2) 0)
