-- The counts that a run holds are those of its ring, after each step; so where it ends is where the definition's run ends. Assumes nothing.
use Rattle.std.specs.Prelude.{◌≡◌, ◌+◌, ◌<◌}
use Rattle.laws.specs.Usual.{List, ℕ, suc, length, get_or}
use Prim.Native.Nat.{zero}
use Rattle.settling.specs.Ring.{Event, passes, silences}
use Rattle.settle_views.specs.Views.{stations_of, views_of, different_views}
use Rattle.settle_views.specs.Proper.{Proper}
use Rattle.settle_views.specs.declared.Ring.{Ring}
use Rattle.settle_counts.specs.Counts.{views_in, count_in, above_zero, counts_of}
use Rattle.settle_run.specs.declared.Running.{Running}
use Rattle.settle_run.specs.declared.Settled.{Settled}
use Rattle.settle_run.specs.Running.{counts_in, onward}

-- a run whose counts are those of its ring, a ring that an input can give
pub record Held (running : Running) : Type 0 where
  pub size : length running.ring.views ≡ 256
  pub proper : Proper running.ring
  pub counts : counts_in running ≡ counts_of running.ring

-- the run after so many steps
abbrev pub running_after : ℕ → Running → Running
running_after zero running = running
running_after (suc steps) running = running_after steps (onward running)

-- What a run holds that is at a ring.
pub record RightCounts (ring : Ring) (running : Running) : Type 0 where
  pub at : running.ring ≡ ring
  -- "every number is proved to be the count of stations with that view"
  pub number : (view : ℕ) → view < 256 → get_or running.numbers view 0 ≡ count_in view (views_in ring)
  -- "and the total the count of numbers above 0"
  pub total : running.settled.views ≡ above_zero running.numbers
  -- which is the number of different views
  pub different : running.settled.views ≡ different_views (stations_of ring) (views_of ring)

-- the totals of some events behind the steps so far
abbrev pub totals_with : Settled → List Event → Ring → Settled
totals_with settled events last = record {
  passes = settled.passes + passes events;
  silences = settled.silences + silences events;
  views = different_views (stations_of last) (views_of last);
}
