-- `replay_reply_shown::put_panel` meets its contract.
use Rattle.std.specs.Prelude.{◌≡◌, ◌-◌}
use Rattle.laws.specs.Usual.{ap, ◌∙◌, List, ℕ, arith, length, take, replicate, rules}
use lib.ListN.{length-append, length-take}
use Rattle.copying.specs.Pasted.{pasted}
use Rattle.panel.specs.Panel.{text_of}
use Rattle.panel.specs.Texts.{shown_text}
use Rattle.panel.specs.declared.Text.{Text}
use Rattle.replay_reply_parts.specs.Lines.{ended}
use Rattle.replay_reply_shown.proofs.put_panel.Goals as goal

pub slice_bounds-put_line-end : goal.slice_bounds-put_line-end
slice_bounds-put_line-end c =
    let told = c.text_of-text.ensures in
    let text = text_of c.args.figure in
    omega (
      arith,
      ap (λ (t : Text). t.length) told,
      ap (λ (t : Text). length t.octets) told,
      length-append text (replicate (6 - length text) 0),
    )

pub put_line-requires : goal.put_line-requires
put_line-requires c =
    let text = c.text_of-text.result in
    let six : length text.octets ≡ 6 = search rules in
    omega (arith, c.requires, length-take (text.length - 0) text.octets)

pub returns : goal.returns
returns c =
    let text = c.text_of-text.result in
    let whole : text.length - 0 ≡ text.length = omega arith in
    let words : take (text.length - 0) text.octets ≡ text_of c.args.figure =
    ap (λ (k : ℕ). take k text.octets) whole
    ∙ ap (λ (t : Text). take t.length t.octets) c.text_of-text.ensures
    ∙ shown_text c.args.figure in
    let done = c.put_line.ensures in record { value = done.value ∙ ap (λ (l : List ℕ). length (ended l)) words; output_after = done.output_after ∙ ap (λ (l : List ℕ). pasted c.args.output.now 0 (ended l)) words }
