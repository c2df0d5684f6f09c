-- Laws for loops that go over the list by the numbers of its entries. Assumes nothing.
use Rattle.std.specs.Prelude.{◌≡◌, ◌&&◌, ◌||◌, ◌∷◌, ◌+◌, ◌<◌, ◌≤◌}
use Rattle.laws.specs.Usual.{ap, true, false, not, List, [], ℕ, length, get_or, drop, eqb}
use Rattle.std.proofs.Common.{add-one, drop_of_length-le, drop-cons}
use Rattle.area.specs.Overlap.{areas_overlap}
use Rattle.area.specs.declared.Areas.{Areas}
use Rattle.members.specs.Members.{nobody, numbers_from}
use Rattle.members.specs.Listing.{overlap_from}
use Rattle.members.specs.declared.Entry.{Entry}

module _ (entries : List Entry) (i : ℕ) where
  -- at the end nobody is left
  pub numbers_end : length entries ≤ i → numbers_from i (drop i entries) ≡ []
  numbers_end h = ap (numbers_from i) (drop_of_length-le entries h)

  -- a number that is not listed is passed over
  pub numbers_skip : i < length entries → (get_or entries i nobody).listed ≡ false
      → numbers_from i (drop i entries) ≡ numbers_from (i + 1) (drop (i + 1) entries)
  numbers_skip h e = rw (add-one, drop-cons entries i nobody, e)

  -- a number that is listed is the first one there
  pub numbers_first : i < length entries → (get_or entries i nobody).listed ≡ true
      → numbers_from i (drop i entries) ≡ i ∷ numbers_from (i + 1) (drop (i + 1) entries)
  numbers_first h e = rw (add-one, drop-cons entries i nobody, e)

  module _ (but : ℕ) (areas : Areas) where
    pub overlap_end : length entries ≤ i → overlap_from i but areas (drop i entries) ≡ false
    overlap_end h = ap (overlap_from i but areas) (drop_of_length-le entries h)

    pub overlap_more : i < length entries → overlap_from i but areas (drop i entries)
        ≡ ((((get_or entries i nobody).listed && not (eqb i but)) && areas_overlap areas (get_or entries i nobody).areas)
        || overlap_from (i + 1) but areas (drop (i + 1) entries))
    overlap_more h = rw (add-one, drop-cons entries i nobody)
