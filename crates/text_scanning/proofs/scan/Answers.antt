-- `text_scanning::scan` meets its contract.
use Rattle.std.specs.Prelude.{◌≡◌, ◌+◌}
use Rattle.laws.specs.Usual.{false, refl, sym, ap, ap₂, ◌∙◌, List, [], ℕ, arith, length, get_or, drop}
use lib.ListN.{drop_of_length-le}
use Rattle.text_scanning.proofs.Scans.{scan_on, scan_ended, buffer_on, buffer_ended}
use Rattle.text_scanning.specs.Made.{made}
use Rattle.text_scanning.specs.Scanning.{scan_of, buffer_of}
use Rattle.text_scanning.proofs.scan.Goals as goal

pub loop-place-init : goal.loop-place-init
loop-place-init g c = record { line = refl; buffer = refl; within = omega arith }

pub returns-then-octet-eq10-clause-value : goal.returns-then-octet-eq10-clause-value
returns-then-octet-eq10-clause-value g c =
    let l = c.loop-place in
    sym (scan_ended (g.L.Gathers.pushed (length c.args.buffer.now)) made l.line l.place c.args.text.now c.loop-place-test.true c.if-octet-eq10.true) ∙ l.invariant.line

pub returns-then-octet-eq10-clause-buffer_after : goal.returns-then-octet-eq10-clause-buffer_after
returns-then-octet-eq10-clause-buffer_after g c =
    let l = c.loop-place in
    sym (buffer_ended (g.L.Gathers.pushed (length c.args.buffer.now)) g.L.Gathers.stored l.line l.buffer l.place c.args.text.now c.loop-place-test.true c.if-octet-eq10.true) ∙ l.invariant.buffer

pub loop-place-preserved : goal.loop-place-preserved
loop-place-preserved g c =
    let text = c.args.text.now in
    let push = g.L.Gathers.pushed (length c.args.buffer.now) in
    let store = g.L.Gathers.stored in
    let l = c.loop-place in
    let inside = c.loop-place-test.true in
    let other = c.if-octet-eq10.false in
    let octet = get_or text l.place 0 in
    let line = c.push.ensures.self_after ∙ ap (λ (n : ℕ). g.L.Gathers.pushed n l.line octet) l.auto.buffer in record {
      line = ap (λ (s : _). scan_of push made s (l.place + 1) (drop (l.place + 1) text)) line
          ∙ sym (scan_on push made l.line l.place text inside other) ∙ l.invariant.line;
      buffer = ap₂ (λ (s : _) (b : List ℕ). buffer_of push store s b (drop (l.place + 1) text)) line c.push.ensures.buffer_after
          ∙ sym (buffer_on push store l.line l.buffer l.place text inside other) ∙ l.invariant.buffer;
      within = omega (arith, inside);
    }

pub returns-clause-value : goal.returns-clause-value
returns-clause-value g c =
    let push = g.L.Gathers.pushed (length c.args.buffer.now) in
    let l = c.loop-place in
    let text = c.args.text.now in
    let done : drop l.place text ≡ [] = drop_of_length-le text (omega (arith, c.loop-place-test.false)) in
    let end : c.max.result ≡ l.place = omega (arith, c.max.ensures, c.loop-place-test.false, l.auto.place, l.invariant.within) in
    ap (λ (k : ℕ). made l.line k false) end ∙ sym (ap (scan_of push made l.line l.place) done) ∙ l.invariant.line

pub returns-clause-buffer_after : goal.returns-clause-buffer_after
returns-clause-buffer_after g c =
    let l = c.loop-place in
    let done : drop l.place c.args.text.now ≡ [] = drop_of_length-le c.args.text.now (omega (arith, c.loop-place-test.false)) in
    sym (ap (buffer_of (g.L.Gathers.pushed (length c.args.buffer.now)) g.L.Gathers.stored l.line l.buffer) done) ∙ l.invariant.buffer
