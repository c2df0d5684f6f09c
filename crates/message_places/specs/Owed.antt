-- The confirmations owed as C keeps them: how many, then three numbers for each, the oldest first. Above eight counts as eight. What stands behind them is
-- left as it is.
use Rattle.laws.specs.Usual.{cond, List, [], ℕ, suc, min, length, drop, get_or, eqb}
use Rattle.std.specs.Prelude.{◌∷◌, ◌++◌, ◌+◌, ◌*◌, ◌/◌, zero}
use Rattle.low_parts.specs.Parts.{octet}
use Rattle.message.specs.declared.Confirmation.{Confirmation}
use Rattle.message_rules.specs.Rules.Confirming.{owed_most}

-- the first of the three holds the status, the source from the second octet on, and the code above
abbrev pub confirmation_by : ℕ → ℕ → ℕ → Confirmation
confirmation_by head version number = record {
  status = octet head;
  source = octet (head / 256);
  code = head / 65536;
  version = version;
  number = number;
}

abbrev pub head_of : Confirmation → ℕ
head_of confirmation = confirmation.status + 256 * confirmation.source + 65536 * confirmation.code

-- so many confirmations in a list of numbers
abbrev pub rows_in : ℕ → List ℕ → List Confirmation
rows_in zero numbers = []
rows_in (suc count) numbers = confirmation_by (get_or numbers 0 0) (get_or numbers 1 0) (get_or numbers 2 0) ∷ rows_in count (drop 3 numbers)

abbrev pub count_in : ℕ → ℕ
count_in number = min owed_most number

unfoldable pub owed_in : List ℕ → List Confirmation
owed_in numbers = rows_in (count_in (get_or numbers 0 0)) (drop 1 numbers)

-- their numbers
abbrev pub rows_of : List Confirmation → List ℕ
rows_of [] = []
rows_of (confirmation ∷ rest) = head_of confirmation ∷ confirmation.version ∷ confirmation.number ∷ rows_of rest

-- a number that stands for the count already stays
abbrev pub with_count : ℕ → ℕ → ℕ
with_count number count = cond (eqb (count_in number) count) number count

-- the numbers with other confirmations in them
unfoldable pub kept_owed : List ℕ → List Confirmation → List ℕ
kept_owed numbers owed =
    with_count (get_or numbers 0 0) (length owed) ∷ (rows_of owed ++ drop (3 * length owed) (drop 1 numbers))
