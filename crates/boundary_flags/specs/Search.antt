-- Laws for the search by the flags. Assumes nothing.
use Rattle.std.specs.Prelude.{◌≡◌, ◌||◌, ◌∷◌, ◌+◌, ◌<◌, ◌≤◌}
use Rattle.laws.specs.Usual.{refl, ap, ◌∙◌, Bool, true, false, cond, List, [], ℕ, suc, min, arith, length, get_or, drop}
use Rattle.std.proofs.Common.{le_refl, length-drop}
use Rattle.laws.specs.Tests.{neither_first, neither_second}
use Rattle.members.specs.Members.{numbers_from}
use Rattle.members_searching.specs.Search.{first_in, first_from, number_or}
use Rattle.members.specs.Loops.{numbers_skip, numbers_first}
use Rattle.members.specs.declared.Entry.{Entry}
use Rattle.members.specs.declared.Members.{Members}
use Rattle.boundary_lists.specs.Lists.{flagged, any_of_four, any_of_sixteen}
use Rattle.boundary_lists.specs.Laws.{length_in, listed_in}

module _ (listed : List Bool) (i : ℕ) (h : i < 256) where
  inside : i < length (flagged listed).entries
  inside = rw length_in h

  -- a number that is not listed is passed over
  pub first_skip : get_or listed i false ≡ false → first_from i (flagged listed) ≡ first_from (i + 1) (flagged listed)
  first_skip e = ap first_in (numbers_skip (flagged listed).entries i inside (listed_in listed [] [] [] i h ∙ e))

  -- a number that is listed is the first one there
  pub first_here : (otherwise : ℕ) → get_or listed i false ≡ true → number_or otherwise (first_from i (flagged listed)) ≡ i
  first_here otherwise e =
      ap (λ (numbers : List ℕ). number_or otherwise (first_in numbers))
      (numbers_first (flagged listed).entries i inside (listed_in listed [] [] [] i h ∙ e))

-- numbers none of which is listed are passed over at once
module _ (listed : List Bool) where
  step : (i j : ℕ) → i < 256 → i + 1 ≡ j → get_or listed i false ≡ false → first_from i (flagged listed) ≡ first_from j (flagged listed)
  step i j h e not_listed = first_skip listed i h not_listed ∙ ap (λ (k : ℕ). first_from k (flagged listed)) e

  four_skip : (i j : ℕ) → i + 4 ≤ 256 → i + 4 ≡ j → any_of_four listed i ≡ false → first_from i (flagged listed) ≡ first_from j (flagged listed)
  four_skip i j h e none =
      let front = get_or listed i false || get_or listed (i + 1) false in
      let back = get_or listed (i + 2) false || get_or listed (i + 3) false in
      let in_front = neither_first front back none in
      let in_back = neither_second front back none in
      step i (i + 1) (omega arith) refl (neither_first (get_or listed i false) (get_or listed (i + 1) false) in_front)
      ∙ step (i + 1) (i + 2) (omega arith) (omega arith) (neither_second (get_or listed i false) (get_or listed (i + 1) false) in_front)
      ∙ step (i + 2) (i + 3) (omega arith) (omega arith) (neither_first (get_or listed (i + 2) false) (get_or listed (i + 3) false) in_back)
      ∙ step (i + 3) j (omega arith) (omega arith) (neither_second (get_or listed (i + 2) false) (get_or listed (i + 3) false) in_back)

  pub sixteen_skip : (i : ℕ) → i + 16 ≤ 256 → any_of_sixteen listed i ≡ false → first_from i (flagged listed) ≡ first_from (i + 16) (flagged listed)
  sixteen_skip i h none =
      let front = any_of_four listed i || any_of_four listed (i + 4) in
      let back = any_of_four listed (i + 8) || any_of_four listed (i + 12) in
      let in_front = neither_first front back none in
      let in_back = neither_second front back none in
      four_skip i (i + 4) (omega arith) refl (neither_first (any_of_four listed i) (any_of_four listed (i + 4)) in_front)
      ∙ four_skip (i + 4) (i + 8) (omega arith) (omega arith) (neither_second (any_of_four listed i) (any_of_four listed (i + 4)) in_front)
      ∙ four_skip (i + 8) (i + 12) (omega arith) (omega arith) (neither_first (any_of_four listed (i + 8)) (any_of_four listed (i + 12)) in_back)
      ∙ four_skip (i + 12) (i + 16) (omega arith) (omega arith) (neither_second (any_of_four listed (i + 8)) (any_of_four listed (i + 12)) in_back)

-- what is found is not below where the search starts
not_below : (end number : ℕ) (entries : List Entry) → end ≤ number → end ≤ number_or end (first_in (numbers_from number entries))
not_below end number [] h = le_refl end
not_below end number (entry ∷ rest) h = by entry.listed (not_below end (suc number) rest (omega arith))
  where
    by : (t : Bool) → end ≤ number_or end (first_in (numbers_from (suc number) rest))
        → end ≤ number_or end (first_in (cond t (number ∷ numbers_from (suc number) rest) (numbers_from (suc number) rest)))
    by true later = h
    by false later = later

pub first_past : (end i : ℕ) (members : Members) → end ≤ i → min end (number_or end (first_from i members)) ≡ end
first_past end i members h = omega (arith, not_below end i (drop i members.entries) h)

-- what is found is a number of the list
in_list : (number bound : ℕ) (entries : List Entry) → number + length entries ≤ bound → 0 < bound → number_or 0 (first_in (numbers_from number entries)) < bound
in_list number bound [] h some = some
in_list number bound (entry ∷ rest) h some = by entry.listed (in_list (suc number) bound rest (omega arith) some)
  where
    by : (t : Bool) → number_or 0 (first_in (numbers_from (suc number) rest)) < bound
        → number_or 0 (first_in (cond t (number ∷ numbers_from (suc number) rest) (numbers_from (suc number) rest))) < bound
    by true later = omega arith
    by false later = later

-- what a search of the whole list says of one that answers otherwise where nobody is found
module _ (listed : List Bool) (from otherwise : ℕ) where
  abbrev numbers : List ℕ
  numbers = numbers_from from (drop from (flagged listed).entries)

  pub found_one : min 256 (number_or 256 (first_from from (flagged listed))) < 256
      → number_or otherwise (first_from from (flagged listed)) ≡ min 256 (number_or 256 (first_from from (flagged listed)))
  found_one = by numbers
    where
      by : (ns : List ℕ) → min 256 (number_or 256 (first_in ns)) < 256 → number_or otherwise (first_in ns) ≡ min 256 (number_or 256 (first_in ns))
      by [] h = absurd (omega arith)
      by (number ∷ rest) h = omega arith

  pub found_none : from ≤ 256 → 256 ≤ min 256 (number_or 256 (first_from from (flagged listed)))
      → number_or otherwise (first_from from (flagged listed)) ≡ otherwise
  found_none start = by numbers (in_list from 256 (drop from (flagged listed).entries) (rw (length-drop, length_in) (omega arith)) (omega arith))
    where
      by : (ns : List ℕ) → number_or 0 (first_in ns) < 256 → 256 ≤ min 256 (number_or 256 (first_in ns)) → number_or otherwise (first_in ns) ≡ otherwise
      by [] few h = refl
      by (number ∷ rest) few h = absurd (omega arith)
