-- Paper 01, "What the box does and doesn't do": "A tick is 100 microseconds; the watch time in a frame is in milliseconds, 10 ticks each;
-- a tick count is never taken for a millisecond count."
use Rattle.std.specs.Prelude.{◌*◌}
use Rattle.units.specs.declared.Ticks.{Ticks}
use Rattle.units.specs.declared.Milliseconds.{Milliseconds}
use Rattle.units.specs.declared.Wait.{Wait}

-- a watch time is a wait of as many milliseconds
abbrev pub as_wait : Milliseconds → Wait
as_wait watch = record { 0 = watch.0 }

-- a wait in milliseconds as ticks
abbrev pub in_ticks : Wait → Ticks
in_ticks wait = record { 0 = wait.0 * 10 }
