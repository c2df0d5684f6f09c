-- Laws of one line: it stands in front of what is still to be printed, and fits. Assumes nothing.
use Rattle.std.specs.Prelude.{◌≡◌, ◌++◌, ◌-◌, ◌<◌, ◌≤◌}
use Rattle.laws.specs.Usual.{refl, sym, ap, ap₂, ◌∙◌, Bool, true, false, false≢true, List, [], ℕ, suc, arith, leb}
use Rattle.std.proofs.Common.{append_assoc, append-nil, ne_eqb}
use Prim.Native.Nat.{zero}
use Rattle.settle_run.specs.Running.{has_ended, next_step, onward, end_from}
use Rattle.settle_run.proofs.Counted.{some_left, end_more, end_over}
use Rattle.settle_run.specs.declared.Running.{Running}
use Rattle.settle_run.specs.declared.Settled.{Settled}
use Rattle.settle_output.specs.Output.{step_line, settled_line, bad_line}
use Rattle.settle_output.specs.Room.{Fits, header_fits, step_fits, settled_fits, bad_fits}
use Rattle.settle_rest.specs.Rest.{lines_from, run_rest, rest_of, is_over}
use Rattle.settle_rest.specs.declared.Printing.{Printing}
use Rattle.settle_rest.specs.declared.Printing.TheVariants.{Bad, Header, Run, Over}
use Rattle.settle_print.specs.Parts.{run_line_by, run_next_by, next_line, next_of, lines_left}

-- a run that has ended prints no step more, and another its next
module _ (running : Running) where
  lines_over : (left : ℕ) → has_ended running.settled left ≡ true → lines_from left running ≡ []
  unfolding lines_from
  lines_over zero e = refl
  lines_over (suc left) e =
      let same : leb running.settled.views 1 ≡ true = rw (ne_eqb (suc left) 0 (λ z. omega arith)) at e in
      rw same

  lines_more : (left : ℕ) → has_ended running.settled left ≡ false → lines_from left running ≡ step_line (next_step running) ++ lines_from (left - 1) (onward running)
  unfolding lines_from
  lines_more zero e = absurd (false≢true (sym e))
  lines_more (suc left) e =
      let differ : leb running.settled.views 1 ≡ false = rw (ne_eqb (suc left) 0 (λ z. omega arith)) at e in
      let less : suc left - 1 ≡ left = omega arith in
      rw (less, differ)

-- a run's next line stands in front of what is to be printed behind it
run_line : (t : Bool) (running : Running) → has_ended running.settled running.left ≡ t → run_line_by t running ++ rest_of (run_next_by t running) ≡ run_rest running
unfolding rest_of
run_line true running e =
    append-nil (settled_line running.settled)
    ∙ sym (ap₂ (λ (l : List ℕ) (settled : Settled). l ++ settled_line settled) (lines_over running running.left e) (end_over running running.left e))
run_line false running e =
    sym (append_assoc (step_line (next_step running)) (lines_from (running.left - 1) (onward running)) (settled_line (end_from (running.left - 1) (onward running))))
    ∙ sym (ap₂ (λ (l : List ℕ) (settled : Settled). l ++ settled_line settled) (lines_more running running.left e) (end_more running running.left e))

-- and so does every other
pub line_next : (p : Printing) → next_line p ++ rest_of (next_of p) ≡ rest_of p
unfolding next_line next_of rest_of
line_next (Bad number) = append-nil (bad_line number)
line_next (Header running) = refl
line_next (Run running) = run_line (has_ended running.settled running.left) running refl
line_next Over = refl

run_lines : (t : Bool) (running : Running) → has_ended running.settled running.left ≡ t → lines_left (run_next_by t running) < suc running.left
run_lines true running e = omega arith
run_lines false running e = omega (arith, some_left running.settled running.left e)

-- and it is one line less
pub lines_next : (p : Printing) → is_over p ≡ false → lines_left (next_of p) < lines_left p
unfolding next_of
lines_next (Bad number) e = omega arith
lines_next (Header running) e = omega arith
lines_next (Run running) e = run_lines (has_ended running.settled running.left) running refl
lines_next Over e = absurd (false≢true (sym e))

-- only where nothing is to be printed it is over
over_is : (p : Printing) → is_over p ≡ true → p ≡ Over
over_is (Bad number) e = absurd (false≢true e)
over_is (Header running) e = absurd (false≢true e)
over_is (Run running) e = absurd (false≢true e)
over_is Over e = refl

pub none_over : (p : Printing) → is_over p ≡ true → lines_left p ≡ 0
none_over p e = ap lines_left (over_is p e)

pub rest_over : (p : Printing) → is_over p ≡ true → rest_of p ≡ []
unfolding rest_of
rest_over p e = ap rest_of (over_is p e)

pub none_left : (p : Printing) → lines_left p ≤ 0 → is_over p ≡ true
none_left p = by (is_over p) refl
  where
    by : (t : Bool) → is_over p ≡ t → lines_left p ≤ 0 → t ≡ true
    by true e h = refl
    by false e h = absurd (omega (arith, lines_next p e))

run_fits : (t : Bool) (running : Running) → Fits (run_line_by t running)
run_fits true running = settled_fits running.settled
run_fits false running = step_fits (next_step running)

pub line_fits : (p : Printing) → is_over p ≡ false → Fits (next_line p)
unfolding next_line
line_fits (Bad number) e = bad_fits number
line_fits (Header running) e = header_fits
line_fits (Run running) e = run_fits (has_ended running.settled running.left) running
line_fits Over e = absurd (false≢true (sym e))
