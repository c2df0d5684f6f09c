-- `settle_write::write_rest` meets its contract.
use Rattle.std.specs.Prelude.{◌≡◌, ◌++◌}
use Rattle.std.specs.Io.KnownBytes.{Appends}
use Rattle.std.proofs.Common.{append_assoc, append-nil, length-take}
use Rattle.std.proofs.KnownBytes.{Appends-trans}
use Rattle.laws.specs.Usual.{sym, ap, subst, ◌∙◌, true, false, List, ℕ, arith, length, take}
use Rattle.settle_rest.specs.Rest.{rest_of, is_over}
use Rattle.settle_print.specs.Parts.{lines_left, part_of, filled_of}
use Rattle.settle_print.specs.Filling.{filled, fill_less}
use Rattle.settle_print.specs.Joined.{part_joined, front_part}
use Rattle.settle_print.specs.Lines.{rest_over}
use Rattle.settle_print.specs.declared.Filled.{Filled}
use Rattle.settle_write.proofs.write_rest.Goals as goal

pub slice_bounds-buffer-end : goal.slice_bounds-buffer-end
slice_bounds-buffer-end g c =
    let loop = c.loop-printing in
    let count = ap (λ (r : Filled). r.length) c.fill-filled.ensures.value in
    omega (arith, count, (filled (length loop.buffer) loop.printing).inside)

pub slice_bounds-write_all-end : goal.slice_bounds-write_all-end
slice_bounds-write_all-end g c =
    let loop = c.loop-printing in
    let done = c.fill-filled in
    let count = ap (λ (r : Filled). r.length) done.ensures.value in
    let all : length done.new.buffer ≡ length loop.buffer = done.auto.buffer in
    omega (arith, count, all, (filled (length loop.buffer) loop.printing).inside, length-take done.result.length done.new.buffer)

pub loop-printing-smaller : goal.loop-printing-smaller
loop-printing-smaller g c =
    let loop = c.loop-printing in
    let left = ap (λ (r : Filled). lines_left r.printing) c.fill-filled.ensures.value in
    let goes : is_over loop.printing ≡ false = sym c.is_over.ensures ∙ c.loop-printing-test.true in
    omega (arith, left, fill_less (length loop.buffer) loop.printing (omega arith) goes)

pub loop-printing-preserved : goal.loop-printing-preserved
loop-printing-preserved g c =
    let loop = c.loop-printing in
    let done = c.fill-filled in
    let size = length loop.buffer in
    let text : List ℕ = loop.invariant.1.0 in
    let part = part_of size loop.printing in
    let front : take done.result.length done.new.buffer ≡ part =
    ap (λ (r : Filled). take r.length done.new.buffer) done.ensures.value
    ∙ ap (take (filled_of size loop.printing).length) done.ensures.buffer_after
    ∙ front_part loop.printing loop.buffer in
    let wrote : Appends (g.W.Write.contents loop.output) (g.W.Write.contents c.write_all.new.self) part =
    subst (λ (l : List ℕ). Appends (g.W.Write.contents loop.output) (g.W.Write.contents c.write_all.new.self) l) front c.in_ok-write_all.ensures.bytes in (
      done.auto.buffer ∙ loop.invariant.0,
      (
        text ++ part,
        ap (λ (r : Filled). (text ++ part) ++ rest_of r.printing) done.ensures.value
            ∙ append_assoc text part (rest_of (filled_of size loop.printing).printing)
            ∙ ap (λ (l : List ℕ). text ++ l) (part_joined size loop.printing)
            ∙ loop.invariant.1.1,
        Appends-trans _ _ _ text part loop.invariant.1.2 wrote,
      ),
    )

pub returns : goal.returns
returns g c =
    let loop = c.loop-printing in
    let text : List ℕ = loop.invariant.1.0 in
    let over : is_over loop.printing ≡ true = sym c.is_over.ensures ∙ c.loop-printing-test.false in
    let whole : text ≡ rest_of c.args.printing =
    sym (append-nil text) ∙ ap (λ (l : List ℕ). text ++ l) (sym (rest_over loop.printing over)) ∙ loop.invariant.1.1 in
    subst (λ (l : List ℕ). Appends (g.W.Write.contents c.args.output.now) (g.W.Write.contents loop.output) l) whole loop.invariant.1.2
