-- Listing a station (paper 01, "Starting and joining").
use Rattle.std.specs.Prelude.{◌&&◌, ◌||◌, ◌∷◌}
use Rattle.laws.specs.Usual.{Bool, true, false, cond, not, List, [], ℕ, suc, eqb}
use Rattle.area.specs.Overlap.{areas_overlap}
use Rattle.area.specs.declared.Areas.{Areas}
use Rattle.units.specs.declared.Milliseconds.{Milliseconds}
use Rattle.members.specs.Members.{with_entry}
use Rattle.members.specs.declared.Entry.{Entry}
use Rattle.members.specs.declared.Members.{Members}

-- "with both sizes 0": the addresses stay as they were
abbrev pub bare : Areas → Areas
bare areas = record {
  one = record { address = areas.one.address; size = 0 };
  two = record { address = areas.two.address; size = 0 };
}

-- some entry, but that of one number, is listed with areas that overlap these
abbrev pub overlap_from : ℕ → ℕ → Areas → List Entry → Bool
overlap_from number but areas [] = false
overlap_from number but areas (entry ∷ rest) =
    ((entry.listed && not (eqb number but)) && areas_overlap areas entry.areas) || overlap_from (suc number) but areas rest

-- "overlaps another station's in the list": a station's own old entry is not another's
abbrev pub overlaps_other : Members → ℕ → Areas → Bool
overlaps_other members number areas = overlap_from 0 number areas members.entries

-- our own areas overlap a listed one: no entry has number 0, so none is left out
abbrev pub overlaps_listed : Members → Areas → Bool
overlaps_listed members areas = overlap_from 0 0 areas members.entries

-- "Whoever is listed with an area that overlaps another station's in the list, or ours once our request has fallen due, is listed with both
-- sizes 0." "Listing a station again replaces its entry, misses cleared." Our areas are given where our request has fallen due, else empty
-- ones, which overlap nothing.
abbrev pub listing : Members → ℕ → Areas → Milliseconds → Areas → Members
listing members number areas watch ours =
    with_entry members number
    (record {
      listed = true;
      areas = cond (overlaps_other members number areas || areas_overlap areas ours) (bare areas) areas;
      watch = watch;
      misses = 0;
    })
