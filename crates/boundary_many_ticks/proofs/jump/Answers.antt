-- `boundary_many_ticks::jump` meets its contract.
use Rattle.std.specs.Prelude.{◌<◌}
use Rattle.laws.specs.Usual.{[], arith}
use Rattle.boundary_many_ticks.specs.Jump.{jumps_in}
use Rattle.boundary_many_ticks.proofs.jump.Goals as goal

pub returns : goal.returns
returns c =
    let a = c.args in
    let number : a.core.own.number < 256 = omega arith in
    let few : a.core.own.watch.0 < 256 = omega arith in
    let timed = c.watch_time-time in
    let law = jumps_in a.core a.listed.now number a.count few in
    record {
      ticks_le_count =
          rw (c.jump-jumped.ensures, c.counts_in-counts.ensures, c.is_alone-alone.ensures)
          (law [] a.watch.now [] timed.result (timed.ensures [] [])).0;
      by_index = λ areas misses.
          rw (c.with_counts.ensures, c.jump-jumped.ensures, c.counts_in-counts.ensures, c.is_alone-alone.ensures)
          (law areas a.watch.now misses timed.result (timed.ensures areas misses)).1;
    }
