-- `decode::take_next` meets its contract.
use Rattle.std.specs.Prelude.{Some, None, ◌≡◌}
use Rattle.laws.specs.Usual.{sym, ap, ap₂, ◌∙◌, Bool, cond, List, ℕ, length, drop}
use Rattle.decode_answers.specs.Answers.{text_of}
use Rattle.copying.specs.Laws.{paste_nothing}
use Rattle.copying.specs.Pasted.{pasted}
use Rattle.decode_line.specs.Gathering.{scanned, buffer_scanned}
use Rattle.decode_line.specs.declared.Gathered.{Gathered}
use Rattle.text_scanning.specs.declared.Scanned.{Scanned}
use Rattle.text_feeding.proofs.Scan.{ended_taken, ended_said, open_taken, open_said, Scan}
use Rattle.decode.specs.Capture.{carried, decode}
use Rattle.decode.specs.Scanned.{scan_taken}
use Rattle.decode.proofs.take_next.Goals as goal

-- what the scan left
scan_done : (line : Gathered) (frame part : List ℕ) (at : ℕ) (result : Scanned Gathered) (after : List ℕ) →
    result ≡ scanned (length frame) line at (drop at part) → after ≡ buffer_scanned (length frame) line frame (drop at part) →
    Scan (decode (length frame)) (carried line frame) part at (carried result.line after) result.next result.ended
scan_done line frame part at result after e f = rw (e, f) (scan_taken (length frame) line frame part at)

pub returns-then-scanned : goal.returns-then-scanned
returns-then-scanned c =
    let a = c.args in
    let frame = a.frame.now in
    let got = c.scan-scanned in
    let ended = c.if-scanned.true in
    let put = c.put_answer-length in
    let done = scan_done a.line frame a.part.now a.at got.result got.new.buffer got.ensures.value got.ensures.buffer_after in
    let said =
    ap text_of c.answer_to.ensures ∙ ended_said done ended in record {
      frame_after = ap (λ (line : Gathered). carried line got.new.buffer) c.start-fresh.ensures
          ∙ ended_taken done ended;
      answer_value = ap₂ (λ (t : Bool) (n : ℕ). cond t (Some n) None) (sym ended ∙ done.ends) (put.ensures.value ∙ ap length said);
      text_after = put.ensures.output_after ∙ ap (pasted a.text.now 0) said;
      forward = done.forward;
    }

pub returns : goal.returns
returns c =
    let a = c.args in
    let frame = a.frame.now in
    let got = c.scan-scanned in
    let on = c.if-scanned.false in
    let done = scan_done a.line frame a.part.now a.at got.result got.new.buffer got.ensures.value got.ensures.buffer_after in
    let said = open_said done on in record { frame_after = open_taken done on; answer_value = ap₂ (λ (t : Bool) (n : ℕ). cond t (Some n) None) (sym on ∙ done.ends) (ap length said); text_after = sym (paste_nothing a.text.now 0) ∙ ap (pasted a.text.now 0) said; forward = done.forward }
