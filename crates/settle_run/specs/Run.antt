-- The run that `settle` makes. Words in quotes are paper 01's, section "settle".
use Rattle.laws.specs.Usual.{[], Bool, cond, List, ℕ, suc, length, eqb, leb}
use Rattle.std.specs.Prelude.{Option, Some, None, is_none, ◌≡◌, ◌&&◌, ◌∷◌, ◌+◌, ◌-◌, ◌*◌, ◌≤◌, zero}
use Rattle.settling.specs.Steps.{after_all}
use Rattle.settling.specs.Ring.{next, Event, pass, silence, passes, silences}
use Rattle.settle_moves.specs.Moves.{moved}
use Rattle.settle_views.specs.Views.{stations_of, views_of, smallest_holder, different_views, unlisted_in}
use Rattle.settle_views.specs.declared.Ring.{Ring}
use Rattle.settle_run.specs.declared.Kind.{Kind}
use Rattle.settle_run.specs.declared.Kind.TheVariants.{Pass, Silence}
use Rattle.settle_run.specs.declared.Settled.{Settled}
use Rattle.settle_run.specs.declared.Stepped.{Stepped}

-- "the smallest holder passes (P); with no holder a silence (S)"
abbrev pub pass_by : Option ℕ → Event
pass_by (Some holder) = pass holder
pass_by None = silence

abbrev pub event_in : Ring → Event
event_in ring = pass_by (smallest_holder (stations_of ring) (views_of ring))

-- a step, with the number of different views afterwards
abbrev pub stepped_by : Ring → ℕ → Event → Stepped
stepped_by ring views (pass from) = record { kind = Pass from (next (stations_of ring) from); views = views }
stepped_by ring views silence = record { kind = Silence; views = views }

abbrev pub stepped_of : Ring → Stepped
stepped_of ring =
    stepped_by ring (different_views (stations_of (moved ring (event_in ring))) (views_of (moved ring (event_in ring)))) (event_in ring)

-- the letter of the kind
abbrev pub letter_of : Kind → ℕ
letter_of (Pass from to) = 0x50
letter_of Silence = 0x53

-- all views are equal
abbrev pub agreed_in : Ring → Bool
agreed_in ring = leb (different_views (stations_of ring) (views_of ring)) 1

-- "While views differ": a run of at most so many steps
unfoldable pub run_from : ℕ → Ring → List Event
run_from zero ring = []
run_from (suc left) ring = cond (agreed_in ring) [] (event_in ring ∷ run_from left (moved ring (event_in ring)))

-- "every view a listed station", and no station 0: what an input can give. Any other value makes no step.
abbrev pub is_ring : Ring → Bool
is_ring ring = is_none (unlisted_in ring) && eqb (views_of ring 0) 0

-- n stations agree in fewer than n×n steps (`settled_run`)
abbrev pub limit_of : Ring → ℕ
limit_of ring = cond (is_ring ring) (length (stations_of ring) * length (stations_of ring)) 0

abbrev pub run_of : Ring → List Event
run_of ring = run_from (limit_of ring) ring

-- "E: passes, silences, views": the steps of the whole run, and the number of different views after it
abbrev pub settled_of : Ring → Settled
settled_of ring = record {
  passes = passes (run_of ring);
  silences = silences (run_of ring);
  views = different_views (stations_of (after_all moved ring (run_of ring))) (views_of (after_all moved ring (run_of ring)));
}

-- how many steps the run of n stations has at most
pub record Bounded (n : ℕ) (settled : Settled) : Type 0 where
  pub passes_loose : settled.passes ≤ n * n * n
  pub silences_loose : settled.silences ≤ (n - 1) * (n - 1)
  -- sharper: at most n(n-1)/2 passes, at most 2n-3 silences, and none for one station
  pub passes_sharp : 2 * settled.passes ≤ n * (n - 1)
  pub silences_sharp : 2 ≤ n → settled.silences + 3 ≤ 2 * n
  pub silences_alone : n ≤ 1 → settled.silences ≡ 0
