-- `settle_print::fill` meets its contract.
use Rattle.std.specs.Prelude.{◌≡◌, ◌&&◌, ◌+◌, ◌-◌, ◌≤◌}
use Rattle.laws.specs.Usual.{refl, sym, ap, ap₂, subst, ◌∙◌, Bool, true, false, not, List, ℕ, arith, length, take, drop, leb, rules}
use lib.ListN.{length-take, length-drop}
use borrow.Rule.Slice.PartMut.{put_mid}
use Rattle.copying.specs.Laws.{paste_nothing, paste_append, paste_part, length_pasted}
use Rattle.copying.specs.Pasted.{pasted}
use Rattle.settle_output.specs.Output.{room}
use Rattle.settle_rest.specs.Rest.{rest_of, is_over}
use Rattle.settle_rest.specs.declared.Printing.{Printing}
use Rattle.settle_print.specs.Parts.{next_line, lines_left, goes_on}
use Rattle.settle_print.specs.Lines.{lines_next, line_fits}
use Rattle.settle_print.specs.Filling.{Filling, not_over, has_room, written, filling_start, filling_next, filling_over}
use Rattle.settle_print.specs.declared.Filled.{Filled}
use Rattle.settle_print.proofs.fill.Goals as goal

-- a line put behind those that stand there
put_more : (buffer : List ℕ) {begun now : Printing} {at : ℕ} → Filling (length buffer) begun now at
    → pasted (pasted buffer 0 (take at (rest_of begun))) at (next_line now) ≡ pasted buffer 0 (take (at + length (next_line now)) (rest_of begun))
put_more buffer {begun} {now} {at} f =
    let front = take at (rest_of begun) in
    let place : at ≡ 0 + length front = omega (arith, f.count) in
    ap (λ (k : ℕ). pasted (pasted buffer 0 front) k (next_line now)) place
    ∙ paste_append buffer front (next_line now) 0 (omega (arith, f.count, f.inside))
    ∙ ap (λ (l : List ℕ). pasted buffer 0 l) (sym (written f))

-- the loop's test is that of the filling
tested : (size : ℕ) (now : Printing) (at long : ℕ) (line t : Bool) → line ≡ not (is_over now) → long ≡ size
    → (line && leb room (long - at)) ≡ t → goes_on size now at ≡ t
tested size now at long line t told same e =
    ap₂ (λ (line : Bool) (size : ℕ). line && leb room (size - at)) (sym told) (sym same) ∙ e

pub loop-buffer-init : goal.loop-buffer-init
loop-buffer-init c = (filling_start, sym (paste_nothing c.args.buffer.now 0), refl)

pub overflow_sub-buffer : goal.overflow_sub-buffer
overflow_sub-buffer c = omega (arith, c.loop-buffer.invariant.0.inside, c.loop-buffer.invariant.2)

pub slice_bounds-put_next-count : goal.slice_bounds-put_next-count
slice_bounds-put_next-count c = omega (arith, c.loop-buffer.invariant.0.inside, c.loop-buffer.invariant.2)

pub slice_bounds-put_next-start : goal.slice_bounds-put_next-start
slice_bounds-put_next-start c = omega (arith, c.loop-buffer.invariant.0.inside, c.loop-buffer.invariant.2)

pub put_next-at-requires : goal.put_next-at-requires
put_next-at-requires c =
    let loop = c.loop-buffer in
    let now = loop.printing in
    let on = tested (length c.args.buffer.now) now loop.at _ _ true (ap not c.is_over.ensures) loop.invariant.2 c.loop-buffer-test.true in
    omega (
      arith,
      has_room loop.invariant.0 on,
      loop.invariant.2,
      length-take (length loop.buffer - loop.at) (drop loop.at loop.buffer),
      length-drop loop.at loop.buffer,
    )

pub overflow_add-at : goal.overflow_add-at
overflow_add-at c =
    let loop = c.loop-buffer in
    let now = loop.printing in
    let on = tested (length c.args.buffer.now) now loop.at _ _ true (ap not c.is_over.ensures) loop.invariant.2 c.loop-buffer-test.true in
    record { fits = omega (arith, has_room loop.invariant.0 on, loop.invariant.2, c.put_next-at.ensures.value, line_fits now (not_over loop.invariant.0 on)) }

pub loop-buffer-smaller : goal.loop-buffer-smaller
loop-buffer-smaller c =
    let loop = c.loop-buffer in
    let now = loop.printing in
    let on = tested (length c.args.buffer.now) now loop.at _ _ true (ap not c.is_over.ensures) loop.invariant.2 c.loop-buffer-test.true in
    let next = ap lines_left c.put_next-at.ensures.printing_after in
    omega (arith, next, lines_next now (not_over loop.invariant.0 on))

pub loop-buffer-preserved : goal.loop-buffer-preserved
loop-buffer-preserved c =
    let loop = c.loop-buffer in
    let now = loop.printing in
    let on = tested (length c.args.buffer.now) now loop.at _ _ true (ap not c.is_over.ensures) loop.invariant.2 c.loop-buffer-test.true in
    let a = c.args in
    let buffer = a.buffer.now in
    let begun = a.printing in
    let put = c.put_next-at in
    let count : length (next_line now) ≡ put.result = sym put.ensures.value in
    let filling = filling_next loop.invariant.0 on in
    let more = loop.at + put.result in
    let same : put_mid loop.at (length loop.buffer - loop.at) loop.buffer put.new.output ≡ pasted buffer 0 (take more (rest_of begun)) =
    ap (put_mid loop.at (length loop.buffer - loop.at) loop.buffer) put.ensures.output_after
    ∙ paste_part loop.buffer (next_line now) loop.at
    ∙ ap (λ (l : List ℕ). pasted l loop.at (next_line now)) loop.invariant.1
    ∙ put_more buffer loop.invariant.0
    ∙ ap (λ (n : ℕ). pasted buffer 0 (take (loop.at + n) (rest_of begun))) count in
    let inside : 0 + length (take more (rest_of begun)) ≤ length buffer = rw (sym count) (omega (arith, filling.count, filling.inside)) in (
      rw (put.ensures.value, put.ensures.printing_after) filling,
      same,
      ap length same ∙ length_pasted buffer (take more (rest_of begun)) 0 inside,
    )

pub shape_of-buffer : goal.shape_of-buffer
shape_of-buffer c = c.loop-buffer.invariant.2

pub returns : goal.returns
returns c =
    let loop = c.loop-buffer in
    let a = c.args in
    let end = filling_over loop.invariant.0 (tested (length a.buffer.now) loop.printing loop.at _ _ false (ap not c.is_over.ensures) loop.invariant.2 c.loop-buffer-test.false) in
    record { value = end; buffer_after = loop.invariant.1 ∙ ap (λ (r : Filled). pasted a.buffer.now 0 (take r.length (rest_of a.printing))) end }
