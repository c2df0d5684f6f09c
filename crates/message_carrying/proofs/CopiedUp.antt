-- What `copy_within` leaves of a frame is the frame moved up. Assumes nothing.
use Rattle.std.specs.Prelude.{◌≡◌, ◌++◌, ◌+◌, ◌-◌, ◌≤◌}
use Rattle.laws.specs.Usual.{sym, ap₂, ◌∙◌, List, ℕ, arith, length, take, drop}
use Rattle.std.proofs.Common.{append_assoc, length-drop, length-take-le}
use Rattle.std.proofs.lemmas.Slice.{between_is}
use Rattle.std.specs.List.{copy_within}
use Rattle.message_carrying.specs.Steps.{moved}

pub copied_up : (count : ℕ) (out : List ℕ) → 64 ≤ count → count + 20 ≤ length out → copy_within out 64 count 84 ≡ moved count out
copied_up count out header room =
    let front : length (take count out) ≡ count = length-take-le count out (omega arith) in
    let long : length (drop 64 (take count out)) ≡ count - 64 = length-drop 64 (take count out) ∙ rw front in
    append_assoc (take 84 out) (take (count - 64) (drop 64 out)) (drop (84 + (count - 64)) out)
    ∙ ap₂ (λ (l : List ℕ) (k : ℕ). take 84 out ++ (l ++ drop (84 + k) out)) (between_is out 64 count) (sym long)
