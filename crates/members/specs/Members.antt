-- The station list (paper 01, "The token view and the watch"): who is in it, next, misses and striking.
use Rattle.std.specs.Prelude.{◌∷◌, ◌+◌}
use Rattle.laws.specs.Usual.{Bool, true, false, cond, List, [], ℕ, suc, get_or, set, replicate, leb, ltb}
use Rattle.settling.specs.Ring.{next}
use Rattle.members.specs.declared.Entry.{Entry}
use Rattle.members.specs.declared.Members.{Members}

-- the entry of a number that is not listed
abbrev pub nobody : Entry
nobody = record {
  listed = false;
  areas = record { one = record { address = 0; size = 0 }; two = record { address = 0; size = 0 } };
  watch = record { 0 = 0 };
  misses = 0;
}

-- an empty list
abbrev pub no_members : Members
no_members = record { entries = replicate 256 nobody }

abbrev pub entry_of : Members → ℕ → Entry
entry_of members number = get_or members.entries number nobody

abbrev pub is_listed : Members → ℕ → Bool
is_listed members number = (entry_of members number).listed

abbrev pub with_entry : Members → ℕ → Entry → Members
with_entry members number entry = record { entries = set members.entries number entry }

-- the listed numbers, ascending
abbrev pub numbers_from : ℕ → List Entry → List ℕ
numbers_from number [] = []
numbers_from number (entry ∷ rest) = cond entry.listed (number ∷ numbers_from (suc number) rest) (numbers_from (suc number) rest)

abbrev pub numbers_of : Members → List ℕ
numbers_of members = numbers_from 0 members.entries

-- "If nobody else is listed"
abbrev pub is_empty : List ℕ → Bool
is_empty [] = true
is_empty (number ∷ rest) = false

-- "the list with ours", ascending
abbrev pub with_ours : ℕ → List ℕ → List ℕ
with_ours ours [] = ours ∷ []
with_ours ours (number ∷ rest) = cond (ltb ours number) (ours ∷ number ∷ rest) (number ∷ with_ours ours rest)

abbrev pub ring_of : ℕ → Members → List ℕ
ring_of ours members = with_ours ours (numbers_of members)

-- "'Next' is the next larger number in the list with ours, or the smallest after the largest."
abbrev pub next_after : ℕ → Members → ℕ → ℕ
next_after ours members number = next (ring_of ours members) number

-- "the smallest listed number, ours included"
abbrev pub first_of : List ℕ → ℕ
first_of [] = 0
first_of (number ∷ rest) = number

abbrev pub smallest : ℕ → Members → ℕ
smallest ours members = first_of (ring_of ours members)

-- "Every accepted cyclic frame .. clears the source's misses."
abbrev pub misses_set : ℕ → Entry → Entry
misses_set misses entry = record { listed = entry.listed; areas = entry.areas; watch = entry.watch; misses = misses }

abbrev pub cleared : Members → ℕ → Members
cleared members number = with_entry members number (misses_set 0 (entry_of members number))

-- "striking it": it is listed no more
abbrev pub struck : Members → ℕ → Members
struck members number = with_entry members number nobody

-- "A third miss in a row strikes it from the list."
abbrev pub strikes : Members → ℕ → Bool
strikes members number = leb 2 (entry_of members number).misses

-- "gets a miss if it is listed"
abbrev pub missed : Members → ℕ → Members
missed members number =
    cond (is_listed members number)
    (cond (strikes members number)
    (struck members number)
    (with_entry members number (misses_set ((entry_of members number).misses + 1) (entry_of members number))))
    members
