-- The run that `settle` makes is a run of the ring of views; it stops at the first agreement, and at no other place; and it has at most
-- as many steps as the theory of settling says. Assumes nothing.
use Rattle.laws.specs.Usual.{[], refl, List, ℕ, suc, arith, length}
use Rattle.std.specs.Prelude.{◌≡◌, ◌∷◌, ◌+◌, ◌⊎◌, zero}
use Rattle.settling.specs.Steps.{after_all}
use Rattle.settling.specs.Ring.{Agreed, Event, pass, silence, move, Run, views_after, passes, silences}
use Rattle.settling.specs.Runs.{Differing}
use Rattle.settling.specs.Same.{Same}
use Rattle.settling.specs.First.{FirstAgreement}
use Rattle.settle_moves.specs.Moves.{moved}
use Rattle.settle_views.specs.Views.{stations_of, views_of}
use Rattle.settle_views.specs.declared.Ring.{Ring}
use Rattle.settle_run.specs.Run.{event_in, run_of}

-- What holds of the events that are made from a ring with so many steps given.
pub record Made (left : ℕ) (ring : Ring) (events : List Event) : Type 0 where
  -- each event can come, and finds views that differ
  pub run : Run (stations_of ring) (views_of ring) events
  pub differing : Differing (stations_of ring) (views_of ring) events
  -- all steps were made, or the views agree at the end
  pub ends : (length events ≡ left) ⊎ Agreed (stations_of ring) (views_after (stations_of ring) (views_of ring) events)
  -- the ring at the end has the same stations, with the views that the events leave
  pub stations : stations_of (after_all moved ring events) ≡ stations_of ring
  pub views : Same (stations_of ring) (views_of (after_all moved ring events)) (views_after (stations_of ring) (views_of ring) events)

-- What holds of the whole run of a ring that an input can give.
pub record Whole (ring : Ring) : Type 0 where
  -- it is a run of the ring of views, and the first agreement is at its end, not before
  pub run : Run (stations_of ring) (views_of ring) (run_of ring)
  pub first : FirstAgreement (move (stations_of ring)) (Agreed (stations_of ring)) (views_of ring) (run_of ring) (run_of ring) []
  pub agreed : Agreed (stations_of ring) (views_after (stations_of ring) (views_of ring) (run_of ring))
  -- the ring at the end has the same stations, with the views that the run leaves
  pub stations : stations_of (after_all moved ring (run_of ring)) ≡ stations_of ring
  pub views : Same (stations_of ring) (views_of (after_all moved ring (run_of ring))) (views_after (stations_of ring) (views_of ring) (run_of ring))

pub steps : (events : List Event) → length events ≡ passes events + silences events
steps [] = refl
steps (pass x ∷ events) = omega (arith, steps events)
steps (silence ∷ events) = omega (arith, steps events)

-- so many steps, each from the ring that the one before it leaves: what the program prints
unfoldable pub steps_from : ℕ → Ring → List Event
steps_from zero ring = []
steps_from (suc steps) ring = event_in ring ∷ steps_from steps (moved ring (event_in ring))
