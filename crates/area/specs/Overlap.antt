-- Paper 01, "Starting and joining": when two stations' areas overlap.
use Rattle.std.specs.Prelude.{◌&&◌, ◌||◌, ◌+◌}
use Rattle.laws.specs.Usual.{Bool, ltb}
use Rattle.area.specs.declared.Areas.{Areas}
use Rattle.area.specs.declared.Part.{Part}

abbrev pub filled : Part → Bool
filled a = ltb 0 a.size

abbrev pub starts_before_end : Part → Part → Bool
starts_before_end a b = ltb a.address (b.address + b.size)

-- "An empty area overlaps nothing." Two others overlap where each starts before the other ends.
abbrev pub parts_overlap : Part → Part → Bool
parts_overlap a b = (filled a && filled b) && (starts_before_end a b && starts_before_end b a)

-- in area 1 or in area 2
abbrev pub areas_overlap : Areas → Areas → Bool
areas_overlap a b = parts_overlap a.one b.one || parts_overlap a.two b.two
