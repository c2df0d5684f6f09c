-- Where a run is shortened, its first steps are left out and nothing else. Assumes nothing.
use Rattle.laws.specs.Usual.{refl, sym, ap, ap₂, ◌∙◌, Bool, true, false, cond, List, [], ℕ, suc, arith, length}
use Rattle.std.proofs.Common.{append_assoc}
use Rattle.std.specs.Prelude.{◌≡◌, ◌∷◌, ◌++◌, ◌-◌, ◌≤◌, zero}
use Rattle.settle_views.specs.Views.{stations_of, views_of}
use Rattle.settle_views.specs.declared.Ring.{Ring}
use Rattle.settle_moves.specs.Moves.{moved}
use Rattle.settle_output.specs.Output.{step_line, settled_line}
use Rattle.settle_run.specs.Run.{event_in, stepped_of, agreed_in, run_from, is_ring, run_of}
use Rattle.settle_run.specs.Running.{running_of, onward, end_from}
use Rattle.settle_run.proofs.Whole.{differs, some_station}
use Rattle.settle_run.specs.Whole.{steps}
use Rattle.settle_run.specs.Counted.{Held, running_after}
use Rattle.settle_run.proofs.Counted.{held_start, held_agreed, held_onward, held_step}
use Rattle.settle_run.specs.declared.Running.{Running}
use Rattle.settle_run.specs.declared.Settled.{Settled}
use Rattle.settle_run.specs.declared.Stepped.{Stepped}
use Rattle.settle_rest.specs.Whole.{step_lines}
use Rattle.settle_rest.specs.Rest.{lines_from, run_rest, steps_of, last_of, shortened}
use Rattle.settle_rest.specs.declared.Printing.{Printing}
use Rattle.settle_rest.specs.declared.Printing.TheVariants.{Bad, Header, Run, Over}

-- some steps, and what is printed behind them, are what is printed
parted : (first left : ℕ) (running : Running) → Held running → running.left ≡ left → first ≤ length (run_from left running.ring)
    → step_lines first running.ring ++ run_rest (running_after first running) ≡ run_rest running
unfolding lines_from step_lines run_from end_from
parted zero left running h l few = refl
parted (suc first) zero running h l few = absurd (omega arith)
parted (suc first) (suc left) running h l few = go (agreed_in running.ring) refl few (parted first left (onward running))
  where
    ring : Ring
    ring = running.ring

    next : Ring
    next = moved ring (event_in ring)

    go : (t : Bool) → agreed_in ring ≡ t → suc first ≤ length (cond t [] (event_in ring ∷ run_from left next))
        → (Held (onward running) → (onward running).left ≡ left → first ≤ length (run_from left next) → step_lines first next ++ run_rest (running_after first (onward running)) ≡ run_rest (onward running))
        → step_lines (suc first) ring ++ run_rest (running_after first (onward running)) ≡ run_rest running
    go true e few rest = absurd (omega arith)
    go false e few rest =
        let some = some_station (stations_of ring) (views_of ring) (differs ring e) in
        let less : running.left - 1 ≡ left = omega arith in
        let behind = rest (held_onward h some) less (omega arith) in
        let made = step_line (stepped_of ring) in
        let lines : lines_from running.left running ≡ made ++ lines_from left (onward running) =
        ap (λ (k : ℕ). lines_from k running) l ∙ rw (held_agreed h, e) (ap (λ (made : Stepped). step_line made ++ lines_from left (onward running)) (held_step h some)) in
        let end : end_from running.left running ≡ end_from left (onward running) = ap (λ (k : ℕ). end_from k running) l ∙ rw (held_agreed h, e) in
        append_assoc made (step_lines first next) (run_rest (running_after first (onward running)))
        ∙ ap (λ (l : List ℕ). made ++ l) (behind ∙ ap (λ (k : ℕ). lines_from k (onward running) ++ settled_line (end_from k (onward running))) less)
        ∙ sym (append_assoc made (lines_from left (onward running)) (settled_line (end_from left (onward running))))
        ∙ sym (ap₂ (λ (l : List ℕ) (settled : Settled). l ++ settled_line settled) lines end)

-- the steps that are left out, and behind them what is shown, are the run of a ring
pub last_steps : (shown : ℕ) (ring : Ring) → length ring.views ≡ 256 → is_ring ring ≡ true
    → step_lines (steps_of ring - shown) ring ++ run_rest (running_after (steps_of ring - shown) (running_of ring)) ≡ run_rest (running_of ring)
last_steps shown ring size is =
    parted (steps_of ring - shown) (running_of ring).left (running_of ring) (held_start ring size is) refl (omega (arith, steps (run_of ring)))

-- no more steps than are to be shown: none is left out
all_last : (shown : ℕ) (running : Running) → steps_of running.ring ≤ shown → last_of shown running ≡ running
all_last shown running few =
    let none : steps_of running.ring - shown ≡ 0 = omega arith in
    ap (λ (k : ℕ). running_after k running) none

-- of what is still to be printed: its run, where there is one, has no more steps
abbrev pub NoMore : ℕ → Printing → Type 0
NoMore shown (Bad number) = Unit {0}
NoMore shown (Header running) = steps_of running.ring ≤ shown
NoMore shown (Run running) = steps_of running.ring ≤ shown
NoMore shown Over = Unit {0}

pub all_shown : (shown : ℕ) (p : Printing) → NoMore shown p → shortened shown p ≡ p
all_shown shown (Bad number) few = refl
all_shown shown (Header running) few = ap Header (all_last shown running few)
all_shown shown (Run running) few = ap Run (all_last shown running few)
all_shown shown Over few = refl
