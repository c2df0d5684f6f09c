-- A frame written in two steps: its header in front, then its data right behind. Assumes nothing.
use Rattle.std.specs.Prelude.{◌≡◌, ◌++◌, ◌+◌, ◌≤◌}
use Rattle.laws.specs.Usual.{sym, ap, ap₂, ◌∙◌, List, ℕ, length, take, drop}
use Rattle.std.proofs.Common.{length-take-le, le-leb}
use Rattle.copying.specs.Laws.{paste_both}
use Rattle.copying.specs.Pasted.{pasted}
use Rattle.frame.specs.declared.Fields.{Fields}
use Rattle.frame_reading.specs.Reading.{data_size}
use Rattle.frame_writing.specs.Lengths.{length_header}
use Rattle.frame_writing.specs.Writing.{fixed, header_of, whole_length, output_of}

joined : (out front block : List ℕ) (n : ℕ) → length front ≡ 64 → n ≤ length block → pasted (pasted out 0 front) 64 (take n block) ≡ (front ++ take n block) ++ drop (64 + n) out
joined out front block n e enough =
    ap (λ (k : ℕ). pasted (pasted out 0 front) k (take n block)) (sym e)
    ∙ paste_both out front (take n block)
    ∙ ap₂ (λ (k m : ℕ). (front ++ take n block) ++ drop (k + m) out) e (length-take-le n block enough)

pub in_two_steps : (fields : Fields) (block out : List ℕ) → data_size fields ≤ length block → whole_length fields ≤ length out
    → pasted (pasted out 0 (header_of (fixed fields))) 64 (take (data_size fields) block) ≡ output_of fields block out
in_two_steps fields block out enough room =
    simp (le-leb _ _ enough, le-leb _ _ room) (joined out (header_of (fixed fields)) block (data_size fields) (length_header (fixed fields)) enough)
