-- Paper 01, "Frame fields used": the two areas of the common memory.
use Rattle.std.specs.Prelude.{◌&&◌, ◌∷◌, ◌+◌, ◌*◌}
use Rattle.laws.specs.Usual.{Bool, List, [], ℕ, get_or, leb}
use Rattle.area.specs.declared.Area.{Area}
use Rattle.area.specs.declared.Area.TheVariants.{One, Two}
use Rattle.area.specs.declared.Areas.{Areas}
use Rattle.area.specs.declared.Extent.{Extent}
use Rattle.area.specs.declared.Part.{Part}
use Rattle.area.specs.declared.Span.{Span}

-- "Area 1 has 512 words, area 2 has 8192. .. Common memory is 17,408 octets, area 1 first." A word is two octets.
abbrev pub extents : List Extent
extents = record { words = 512; start = 0 } ∷ record { words = 8192; start = 1024 } ∷ []

abbrev pub memory_octets : ℕ
memory_octets = 17408

-- an area's place in that table
abbrev pub place_of : Area → ℕ
place_of One = 0
place_of Two = 1

abbrev pub extent_of : Area → Extent
extent_of area = get_or extents (place_of area) (record { words = 0; start = 0 })

-- "Address plus size stays within each; size 0 is an empty area."
abbrev pub in_area : Area → Part → Bool
in_area area part = leb (part.address + part.size) (extent_of area).words

abbrev pub in_range : Areas → Bool
in_range areas = in_area One areas.one && in_area Two areas.two

-- where a part's octets stand in the common memory
abbrev pub span_of : Area → Part → Span
span_of area part = record { start = (extent_of area).start + 2 * part.address; length = 2 * part.size }
