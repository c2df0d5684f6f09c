-- `ticking_many::jump` meets its contract.
use Rattle.std.specs.Prelude.{◌<◌}
use Rattle.laws.specs.Usual.{arith}
use Rattle.ticking_jump.specs.JumpTicks.{jump_ticks}
use Rattle.ticking_many.proofs.jump.Goals as goal

pub returns-clause-ticks_le_count : goal.returns-clause-ticks_le_count
returns-clause-ticks_le_count c =
    let few : c.args.station.own.watch.0 < 256 = omega arith in
    rw (c.jump-jumped.ensures, c.watch_time-time.ensures, c.is_alone-alone.ensures)
    (jump_ticks c.args.station c.args.count few).0

pub returns-clause-station_value : goal.returns-clause-station_value
returns-clause-station_value c =
    let few : c.args.station.own.watch.0 < 256 = omega arith in
    rw (c.jump-jumped.ensures, c.watch_time-time.ensures, c.is_alone-alone.ensures)
    (jump_ticks c.args.station c.args.count few).1
