-- A part that is in range has its octets inside its own area of the common memory. Assumes nothing.
use Rattle.std.specs.Prelude.{◌≡◌, ◌+◌, ◌*◌, ◌≤◌}
use Rattle.laws.specs.Usual.{true, arith}
use Rattle.std.proofs.Common.{leb-true}
use Rattle.area.specs.Areas.{in_area, extent_of, span_of, memory_octets}
use Rattle.area.specs.declared.Area.{Area}
use Rattle.area.specs.declared.Area.TheVariants.{One, Two}
use Rattle.area.specs.declared.Part.{Part}

pub record Inside (area : Area) (part : Part) : Type 0 where
  pub from : (extent_of area).start ≤ (span_of area part).start
  pub to : (span_of area part).start + (span_of area part).length ≤ (extent_of area).start + 2 * (extent_of area).words
  pub memory : (extent_of area).start + 2 * (extent_of area).words ≤ memory_octets

pub inside : (area : Area) (part : Part) → in_area area part ≡ true → Inside area part
inside One part e = let h = leb-true (part.address + part.size) 512 e in record { from = omega arith; to = omega arith; memory = omega arith }
inside Two part e = let h = leb-true (part.address + part.size) 8192 e in record { from = omega arith; to = omega arith; memory = omega arith }
