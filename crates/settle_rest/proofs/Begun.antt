-- All that is to be printed for an input is its output. Assumes nothing.
use Rattle.laws.specs.Usual.{refl, ap, ap₂, ◌∙◌, Bool, true, false, cond, List, [], ℕ, suc, length}
use Rattle.std.specs.Prelude.{Result, Ok, Err, ◌≡◌, ◌∷◌, ◌++◌, zero}
use Rattle.std.proofs.Common.{eq-eqb}
use Rattle.settling.specs.Steps.{after_all}
use Rattle.settle_views.specs.Views.{stations_of, views_of}
use Rattle.settle_views.specs.declared.Ring.{Ring}
use Rattle.settle_moves.specs.Moves.{moved}
use Rattle.settle_counts.proofs.Kept.{views_small}
use Rattle.settle_run.specs.Run.{event_in, agreed_in, run_from, is_ring, limit_of, run_of}
use Rattle.settle_run.specs.Running.{running_of, onward}
use Rattle.settle_run.proofs.Whole.{differs, some_station, proper_ring}
use Rattle.settle_run.specs.Whole.{steps, steps_from}
use Rattle.settle_run.specs.Counted.{Held, running_after, RightCounts}
use Rattle.settle_run.proofs.Counted.{counts_run, held_start, held_agreed, held_onward, held_step, run_ends}
use Rattle.settle_run.specs.declared.Running.{Running}
use Rattle.settle_run.specs.declared.Settled.{Settled}
use Rattle.settle_run.specs.declared.Stepped.{Stepped}
use Rattle.settle_input.specs.Input.{read_of}
use Rattle.settle_input.specs.Whole.{ring_read}
use Rattle.settle_input.specs.declared.BadLine.{BadLine}
use Rattle.settle_output.specs.Output.{header_line, step_line, settled_line}
use Rattle.settle_rest.specs.Whole.{step_lines, answer_lines, run_lines, output_of}
use Rattle.settle_rest.specs.Rest.{lines_from, run_rest, rest_of, printing_for, printing_of}
use Rattle.settle_rest.specs.declared.Printing.TheVariants.{Header}

-- the lines that a run prints by its counts are those of the definition's steps
pub lines_steps : (left : ℕ) (running : Running) → Held running → lines_from left running ≡ step_lines (length (run_from left running.ring)) running.ring
unfolding lines_from step_lines run_from
lines_steps zero running h = refl
lines_steps (suc left) running h = go (agreed_in running.ring) refl (lines_steps left (onward running))
  where
    ring : Ring
    ring = running.ring

    go : (t : Bool) → agreed_in ring ≡ t
        → (Held (onward running) → lines_from left (onward running) ≡ step_lines (length (run_from left (moved ring (event_in ring)))) (moved ring (event_in ring)))
        → lines_from (suc left) running ≡ step_lines (length (cond t [] (event_in ring ∷ run_from left (moved ring (event_in ring))))) ring
    go true e rest = rw (held_agreed h, e)
    go false e rest =
        let some = some_station (stations_of ring) (views_of ring) (differs ring e) in
        rw (held_agreed h, e) (ap₂ (λ (made : Stepped) (l : List ℕ). step_line made ++ l) (held_step h some) (rest (held_onward h some)))

-- so all that a run prints is what the definition says, in every ring that an input can give
pub run_printed : (ring : Ring) → length ring.views ≡ 256 → is_ring ring ≡ true → header_line ++ run_rest (running_of ring) ≡ run_lines ring
run_printed ring size is =
    ap₂ (λ (lines : List ℕ) (settled : Settled). header_line ++ (lines ++ settled_line settled))
    (lines_steps (limit_of ring) (running_of ring) (held_start ring size is) ∙ ap (λ (k : ℕ). step_lines k ring) (steps (run_of ring)))
    (run_ends ring size (views_small size (proper_ring ring is)))

-- a ring that was read is one that is settled
settled_ring : (octets : List ℕ) (ring : Ring) → read_of octets ≡ Ok ring → is_ring ring ≡ true
settled_ring octets ring e = let g = ring_read octets ring e in rw (g.listed, eq-eqb _ _ g.nobody)

-- and the counts that are held while it is printed are those of its ring, after each step
pub counts_read : (octets : List ℕ) (ring : Ring) → read_of octets ≡ Ok ring
    → (running : Running) × (printing_of octets ≡ Header running)
    × ((steps : ℕ) → RightCounts (after_all moved ring (steps_from steps ring)) (running_after steps running))
unfolding printing_of
counts_read octets ring e =
    let g = ring_read octets ring e in (running_of ring, ap printing_for e, λ steps. counts_run ring g.size (settled_ring octets ring e) g.some steps)

pub begun : (octets : List ℕ) → rest_of (printing_of octets) ≡ output_of octets
unfolding rest_of printing_of
begun octets = by (read_of octets) refl
  where
    by : (read : Result Ring BadLine) → read_of octets ≡ read → rest_of (printing_for read) ≡ answer_lines read
    by (Ok ring) e = run_printed ring (ring_read octets ring e).size (settled_ring octets ring e)
    by (Err bad) e = refl
