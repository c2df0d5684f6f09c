-- RPL written behind TFL is the frame marked. Assumes nothing.
use Rattle.std.specs.Prelude.{◌≡◌, ◌+◌, ◌<◌, ◌≤◌}
use Rattle.laws.specs.Usual.{List, ℕ, arith, length, set}
use Rattle.copying.specs.Laws.{length_pasted, paste_one}
use Rattle.copying.specs.Pasted.{pasted}
use Rattle.frame.specs.Positions.{TFL}
use Rattle.frame_writing.specs.Writing.{long}
use Rattle.message_frames.specs.Places.{M_CTL, RPL}
use Rattle.message_carrying.specs.Steps.{marked}

pub marked_in_two : (count : ℕ) (out : List ℕ) → 64 ≤ length out → set (pasted out TFL (long (count + 20))) M_CTL RPL ≡ marked count out
marked_in_two count out header =
    let tfl = long (count + 20) in
    let room : M_CTL < length (pasted out TFL tfl) = rw (length_pasted out tfl TFL (omega arith)) (omega arith) in
    paste_one (pasted out TFL tfl) M_CTL RPL room
