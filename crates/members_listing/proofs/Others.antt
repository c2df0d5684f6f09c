-- The search for an overlap as the library makes it, over the entries with their numbers. Assumes nothing.
use Rattle.laws.specs.Usual.{refl, ap, Bool, not, List, [], ℕ, suc, eqb}
use Rattle.std.specs.Prelude.{◌≡◌, ◌&&◌, ◌||◌, ◌∷◌}
use Rattle.std.specs.List.{list_any, enumerate_from}
use Rattle.std.proofs.Common.{add-one}
use Rattle.area.specs.Overlap.{areas_overlap}
use Rattle.area.specs.declared.Areas.{Areas}
use Rattle.members.specs.Listing.{overlap_from}
use Rattle.members.specs.declared.Entry.{Entry}

-- an entry with its number is listed, is not that of one number, and overlaps
abbrev pub overlaps : ℕ → Areas → ℕ × Entry → Bool
overlaps but areas numbered = (numbered.1.listed && not (eqb numbered.0 but)) && areas_overlap areas numbered.1.areas

pub any_overlaps : (number but : ℕ) (areas : Areas) (entries : List Entry)
    → list_any (overlaps but areas) (enumerate_from number entries) ≡ overlap_from number but areas entries
any_overlaps number but areas [] = refl
any_overlaps number but areas (entry ∷ rest) =
    rw add-one (ap (λ (found : Bool). overlaps but areas (number, entry) || found) (any_overlaps (suc number) but areas rest))
