-- `panel_text::tenths_text` meets its contract.
use Rattle.std.specs.Prelude.{◌≡◌, ◌∷◌, ◌++◌, ◌+◌, ◌/◌, ◌%◌, ◌≤◌}
use Rattle.laws.specs.Usual.{ap, ap₂, ◌∙◌, List, [], ℕ, arith, length, set, replicate}
use lib.ListN.{length-append, length-set}
use lib.Seq.{append_snoc}
use Rattle.copying.specs.Laws.{paste_more, paste_append}
use Rattle.copying.specs.Pasted.{pasted}
use Rattle.text.specs.Decimal.{decimal_of}
use Rattle.text.specs.Digits.{one_digit}
use Rattle.panel_text.specs.Six.{four_digits, six}
use Rattle.panel_text.proofs.tenths_text.Goals as goal

abbrev zeros : List ℕ
zeros = replicate 16 0

-- a point behind a number, and another number behind the point
put_both : (whole tenths : List ℕ) → length whole ≤ 4
    → pasted (set (pasted zeros 0 whole) (0 + length whole) 0x2e) (0 + length whole + 1) tenths ≡ pasted zeros 0 (whole ++ (0x2e ∷ tenths))
put_both whole tenths h =
    let point = whole ++ (0x2e ∷ []) in
    let long : 0 + length whole + 1 ≡ 0 + length point = rw (length-append whole (0x2e ∷ [])) (omega arith) in
    ap₂ (λ (l : List ℕ) (k : ℕ). pasted l k tenths) (paste_more zeros whole 0 0x2e (omega arith)) long
    ∙ paste_append zeros point tenths 0 (omega arith)
    ∙ ap (pasted zeros 0) (append_snoc whole 0x2e tenths)

pub bounds-buffer-point : goal.bounds-buffer-point
bounds-buffer-point c = omega (arith, four_digits (c.args.gap.0 / 10) (omega arith), c.put_decimal-point.ensures.value)

pub put_decimal-length-requires : goal.put_decimal-length-requires
put_decimal-length-requires c = simp length-set (omega (arith, four_digits (c.args.gap.0 / 10) (omega arith), c.put_decimal-point.ensures.value, c.put_decimal-point.auto.output))

pub returns : goal.returns
returns c =
    let ticks = c.args.gap.0 in
    let first = c.put_decimal-point.ensures in
    let second = c.put_decimal-length.ensures in
    let whole = decimal_of (ticks / 10) in
    let tenths = decimal_of (ticks % 10) in
    let few : length whole ≤ 4 = four_digits (ticks / 10) (omega arith) in
    let one : length tenths ≡ 1 = ap length (one_digit (ticks % 10) (omega arith)) in
    let long : length (whole ++ (0x2e ∷ tenths)) ≡ length whole + 1 + length tenths = rw (length-append whole (0x2e ∷ tenths)) (omega arith) in
    let wrote : c.put_decimal-length.new.output ≡ pasted zeros 0 (whole ++ (0x2e ∷ tenths)) =
    second.output_after ∙ ap₂ (λ (l : List ℕ) (k : ℕ). pasted (set l k 0x2e) (k + 1) tenths) first.output_after first.value ∙ put_both whole tenths few in
    let end : c.put_decimal-length.result ≡ length (whole ++ (0x2e ∷ tenths)) = omega (arith, first.value, second.value) in
    rw (wrote, end, six (whole ++ (0x2e ∷ tenths)) (omega arith))
