-- `asking_sending::turn::copy_part` meets its contract.
use Rattle.std.specs.Prelude.{◌≡◌, ◌+◌, ◌-◌, ◌≤◌}
use Rattle.laws.specs.Usual.{ap, ◌∙◌, true, ℕ, arith, length, take, drop, rules}
use lib.ListN.{length-take}
use Rattle.area.specs.Areas.{in_area, span_of, memory_octets}
use Rattle.area.specs.Within.{inside}
use Rattle.area.specs.declared.Area.{Area}
use Rattle.area.specs.declared.Part.{Part}
use Rattle.area.specs.declared.Span.{Span}
use Rattle.copying.specs.Pasted.{pasted}
use Rattle.station.specs.Rules.Data.{octets_in}
use Rattle.asking_sending.proofs.turn.copy_part.Goals as goal

-- the octets of a part in range stand in the common memory
ends : (area : Area) (part : Part) (span : Span) → span ≡ span_of area part → in_area area part ≡ true → span.start + span.length ≤ memory_octets
ends area part span e ranged = rw e (omega (arith, (inside area part ranged).to, (inside area part ranged).memory))
