-- `replay_lines::Carried::take_next` meets its contract.
use Rattle.std.specs.Prelude.{◌≡◌}
use Rattle.laws.specs.Usual.{sym, ap, ◌∙◌, List, ℕ, length, drop}
use Rattle.copying.specs.Laws.{paste_nothing}
use Rattle.copying.specs.Pasted.{pasted}
use Rattle.text_feeding.proofs.Scan.{ended_taken, ended_said, open_taken, open_said, Scan}
use Rattle.replay_input.specs.Gathering.{scanned, buffer_scanned}
use Rattle.replay_input.specs.declared.Line.{Line}
use Rattle.text_scanning.specs.declared.Scanned.{Scanned}
use Rattle.replay_performing.specs.declared.Kept.{Kept}
use Rattle.replay_lines.specs.Replay.{carried, replay}
use Rattle.replay_lines.specs.Scanned.{scan_taken}
use Rattle.replay_lines.proofs.Carried.take_next.Goals as goal

-- what the scan left
scan_done : (kept : Kept) (line : Line) (stored part : List ℕ) (at : ℕ) (result : Scanned Line) (after : List ℕ) →
    result ≡ scanned line at (drop at part) → after ≡ buffer_scanned line stored (drop at part) →
    Scan replay (carried kept line stored) part at (carried kept result.line after) result.next result.ended
scan_done kept line stored part at result after e f = rw (e, f) (scan_taken kept line stored part at)

pub returns-then-scanned : goal.returns-then-scanned
returns-then-scanned c =
    let a = c.args in
    let before = a.self.now in
    let got = c.scan-scanned in
    let ended = c.if-scanned.true in
    let done = c.end_line-length.ensures in
    let scan = scan_done before.kept before.line before.stored a.part.now a.at got.result got.new.buffer got.ensures.value got.ensures.buffer_after in
    let said = ended_said scan ended in
    record { carried_after = done.carried_after ∙ ended_taken scan ended; length_value = done.length_value ∙ ap length said; answer_after = done.answer_after ∙ ap (pasted a.answer.now 0) said; ended_value = sym ended ∙ scan.ends; forward = scan.forward }

pub returns : goal.returns
returns c =
    let a = c.args in
    let before = a.self.now in
    let got = c.scan-scanned in
    let on = c.if-scanned.false in
    let scan = scan_done before.kept before.line before.stored a.part.now a.at got.result got.new.buffer got.ensures.value got.ensures.buffer_after in
    let said = open_said scan on in
    record { carried_after = open_taken scan on; length_value = ap length said; answer_after = sym (paste_nothing a.answer.now 0) ∙ ap (pasted a.answer.now 0) said; ended_value = sym on ∙ scan.ends; forward = scan.forward }
