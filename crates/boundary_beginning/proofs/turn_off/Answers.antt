-- `boundary_beginning::turn_off` meets its contract.
use Rattle.laws.specs.Usual.{ap, ◌∙◌}
use Rattle.area.specs.declared.Areas.{Areas}
use Rattle.boundary_core.specs.Crossing.{core_of}
use Rattle.station.specs.Rules.State.{fresh}
use Rattle.station.specs.declared.Phase.TheVariants.{Off}
use Rattle.boundary_beginning.proofs.turn_off.Goals as goal

pub returns : goal.returns
returns c =
    let number = c.args.number in
    let parts = c.no_areas-parts.ensures in
    record { value = c.begin.ensures.value ∙ ap (λ (areas : Areas). core_of (fresh Off (record { number = number; areas = areas; watch = record { 0 = 0 } }))) parts; misses_after = c.begin.ensures.misses_after }
