-- A run on its way, with its counts. Words in quotes are paper 02's, E3: "let it hold a running number for each view and the total, and
-- adjust them at every pass and silence".
use Rattle.laws.specs.Usual.{Bool, cond, List, ℕ, suc, min, eqb, leb}
use Rattle.std.specs.Prelude.{◌||◌, ◌+◌, ◌-◌, zero}
use Rattle.settle_views.specs.Views.{ring_with, stations_of}
use Rattle.settle_views.specs.declared.Ring.{Ring}
use Rattle.settle_moves.specs.Moves.{view_after, moved}
use Rattle.settle_counts.specs.Counts.{above_zero, counts_of, carried_numbers}
use Rattle.settle_counts.specs.declared.Counts.{Counts}
use Rattle.settle_run.specs.Run.{event_in, stepped_by, limit_of}
use Rattle.settle_run.specs.declared.Kind.{Kind}
use Rattle.settle_run.specs.declared.Kind.TheVariants.{Pass, Silence}
use Rattle.settle_run.specs.declared.Running.{Running}
use Rattle.settle_run.specs.declared.Settled.{Settled}
use Rattle.settle_run.specs.declared.Stepped.{Stepped}

-- the numbers after the next step
abbrev pub numbers_after : Ring → List ℕ → List ℕ
numbers_after ring numbers = carried_numbers (view_after (stations_of ring) (event_in ring)) numbers

-- the next step, with the total of the numbers after it
abbrev pub stepped_with : Ring → List ℕ → Stepped
stepped_with ring numbers = stepped_by ring (above_zero (numbers_after ring numbers)) (event_in ring)

-- one more; 4,294,967,295, which no run reaches, stays
abbrev pub one_more : ℕ → ℕ
one_more steps = min 4294967295 (steps + 1)

-- the steps so far, with one more
abbrev pub added_by : Kind → Settled → ℕ → Settled
added_by (Pass from to) settled views = record { passes = one_more settled.passes; silences = settled.silences; views = views }
added_by Silence settled views = record { passes = settled.passes; silences = one_more settled.silences; views = views }

abbrev pub added : Settled → Stepped → Settled
added settled stepped = added_by stepped.kind settled stepped.views

-- the run of a ring, before its first step
abbrev pub running_of : Ring → Running
running_of ring = record {
  ring = ring;
  numbers = (counts_of ring).numbers;
  settled = record { passes = 0; silences = 0; views = (counts_of ring).total };
  left = limit_of ring;
}

-- a run by its parts
abbrev pub running_in : List ℕ → List ℕ → Settled → ℕ → Running
running_in views numbers settled left = record { ring = ring_with views; numbers = numbers; settled = settled; left = left }

-- the counts that it holds
abbrev pub counts_in : Running → Counts
counts_in running = record { numbers = running.numbers; total = running.settled.views }

-- its next step, and the run after it
abbrev pub next_step : Running → Stepped
next_step running = stepped_with running.ring running.numbers

abbrev pub onward : Running → Running
onward running = record {
  ring = moved running.ring (event_in running.ring);
  numbers = numbers_after running.ring running.numbers;
  settled = added running.settled (next_step running);
  left = running.left - 1;
}

-- it has ended, by its total
abbrev pub has_ended : Settled → ℕ → Bool
has_ended settled left = eqb left 0 || leb settled.views 1

-- where it ends, with so many steps given
unfoldable pub end_from : ℕ → Running → Settled
end_from zero running = running.settled
end_from (suc left) running = cond (leb running.settled.views 1) running.settled (end_from left (onward running))
