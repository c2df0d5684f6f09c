-- The station list in four arrays of numbers: whether a number is listed, its areas, its watch time and its misses.
use Rattle.laws.specs.Usual.{Bool, false, List, [], ℕ, suc, length, get_or}
use Rattle.std.specs.Prelude.{◌≡◌, ◌||◌, ◌∷◌, ◌+◌, ◌*◌, zero}
use Rattle.area.specs.declared.Areas.{Areas}
use Rattle.members.specs.Members.{next_after}
use Rattle.members.specs.declared.Entry.{Entry}
use Rattle.members.specs.declared.Members.{Members}

-- four numbers in a row: address and size of area 1, then of area 2
abbrev pub areas_from : List ℕ → ℕ → Areas
areas_from areas start = record {
  one = record { address = get_or areas start 0; size = get_or areas (start + 1) 0 };
  two = record { address = get_or areas (start + 2) 0; size = get_or areas (start + 3) 0 };
}

-- the entry of a number
abbrev pub entry_in : List Bool → List ℕ → List ℕ → List ℕ → ℕ → Entry
entry_in listed areas watch misses number = record {
  listed = get_or listed number false;
  areas = areas_from areas (4 * number);
  watch = record { 0 = get_or watch number 0 };
  misses = get_or misses number 0;
}

-- the entries of so many numbers, from one on
abbrev pub entries_from : (ℕ → Entry) → ℕ → ℕ → List Entry
entries_from entry number zero = []
entries_from entry number (suc count) = entry number ∷ entries_from entry (suc number) count

-- the list that the arrays hold
unfoldable pub members_in : List Bool → List ℕ → List ℕ → List ℕ → Members
members_in listed areas watch misses = record { entries = entries_from (entry_in listed areas watch misses) 0 256 }

-- the arrays have a place for each number
pub record Whole (listed : List Bool) (areas watch misses : List ℕ) : Type 0 where
  pub each_listed : length listed ≡ 256
  pub each_areas : length areas ≡ 1024
  pub each_watch : length watch ≡ 256
  pub each_misses : length misses ≡ 256

-- the list with the flags alone
abbrev pub flagged : List Bool → Members
flagged listed = members_in listed [] [] []

-- "'Next' is the next larger number in the list with ours, or the smallest after the largest": the flags alone tell it.
abbrev pub next_in : ℕ → List Bool → ℕ → ℕ
next_in ours listed number = next_after ours (flagged listed) number

-- whether one of four numbers is listed, or one of sixteen
abbrev pub any_of_four : List Bool → ℕ → Bool
any_of_four listed from = (get_or listed from false || get_or listed (from + 1) false) || (get_or listed (from + 2) false || get_or listed (from + 3) false)

abbrev pub any_of_sixteen : List Bool → ℕ → Bool
any_of_sixteen listed from = (any_of_four listed from || any_of_four listed (from + 4)) || (any_of_four listed (from + 8) || any_of_four listed (from + 12))
