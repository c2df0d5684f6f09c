-- `boundary_inspecting::quiet_ticks` meets its contract.
use Rattle.laws.specs.Usual.{ap, ◌∙◌}
use Rattle.boundary_core.specs.Crossing.{station_in}
use Rattle.boundary_core.specs.declared.Core.{Core}
use Rattle.boundary_quiet.specs.Numbers.{quiet_numbers}
use Rattle.ticking_quiet.specs.Quiet.{quiet_of}
use Rattle.boundary_inspecting.proofs.quiet_ticks.Goals as goal

pub returns : goal.returns
returns c areas misses =
    c.quiet_ticks.ensures areas misses
    ∙ ap (λ (k : Core). quiet_numbers (quiet_of (station_in k c.args.listed.now areas c.args.watch.now misses))) c.core_in.ensures.value
