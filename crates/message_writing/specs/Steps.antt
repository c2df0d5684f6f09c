-- A message frame written in steps: the parts of its header, then its data right behind. Assumes nothing.
use Rattle.std.specs.Prelude.{◌≡◌, ◌++◌, ◌+◌, ◌≤◌}
use Rattle.laws.specs.Usual.{sym, ap, ap₂, ◌∙◌, List, ℕ, length, take, drop}
use Rattle.std.proofs.Common.{length-take-le}
use Rattle.copying.specs.Laws.{paste_both}
use Rattle.copying.specs.Pasted.{pasted}
use Rattle.frame_writing.proofs.Joined.{joined}
use Rattle.message.specs.declared.Letter.{Letter}
use Rattle.message_frames.specs.Frames.{header_of, output_of}
use Rattle.message_writing.specs.Parts.{length_header, front_of, middle_of, back_of, in_parts, length_front, length_middle}

pub header_in_steps : (letter : Letter) (out : List ℕ) → 64 ≤ length out
    → pasted (pasted (pasted out 0 (front_of letter)) 16 (middle_of letter)) 40 (back_of letter) ≡ pasted out 0 (header_of letter)
header_in_steps letter out room =
    joined out (front_of letter) (middle_of letter) (back_of letter) (length_front letter) (length_middle letter) room
    ∙ ap (pasted out 0) (in_parts letter)

pub in_two_steps : (letter : Letter) (mail out : List ℕ) → letter.octets ≤ length mail
    → pasted (pasted out 0 (header_of letter)) 64 (take letter.octets mail) ≡ output_of letter mail out
in_two_steps letter mail out enough =
    let part = take letter.octets mail in
    ap (λ (k : ℕ). pasted (pasted out 0 (header_of letter)) k part) (sym (length_header letter))
    ∙ paste_both out (header_of letter) part
    ∙ ap₂ (λ (k m : ℕ). (header_of letter ++ part) ++ drop (k + m) out) (length_header letter) (length-take-le letter.octets mail enough)
