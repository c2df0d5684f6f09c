-- A confirmation put into a frame in steps: TFL and RPL, then the data moved up, then its octets. Assumes nothing.
use Rattle.std.specs.Prelude.{◌≡◌, ◌∷◌, ◌++◌, ◌+◌, ◌≤◌}
use Rattle.laws.specs.Usual.{refl, sym, ap, ap₂, ◌∙◌, List, [], ℕ, arith, length, take, drop}
use Rattle.std.proofs.Common.{append_assoc, length-append, length-drop, take-append-drop, length-take-le, take_at, drop-drop}
use Rattle.std.proofs.lemmas.List.{take-append-le}
use Rattle.std.proofs.Math.Seq.{drop-append-add}
use Rattle.copying.specs.Laws.{length_pasted}
use Rattle.copying.specs.Pasted.{pasted}
use Rattle.frame.specs.Positions.{TFL}
use Rattle.frame_writing.specs.Writing.{long}
use Rattle.message.specs.declared.Confirmation.{Confirmation}
use Rattle.message_frames.specs.Confirmations.{confirmation_octets, inserted, carrying}
use Rattle.message_frames.specs.Places.{M_CTL, RPL}
use Rattle.message_carrying.specs.Laws.{paste_ahead, paste_within}

-- the octets with TFL of a frame of so many and 20 more, and with RPL
abbrev pub marked : ℕ → List ℕ → List ℕ
marked count octets = pasted (pasted octets TFL (long (count + 20))) M_CTL (RPL ∷ [])

-- the octets from 64 to `count` moved up by 20
abbrev pub moved : ℕ → List ℕ → List ℕ
moved count octets = pasted octets 84 (drop 64 (take count octets))

length_marked : (count : ℕ) (a : List ℕ) → 64 ≤ length a → length (marked count a) ≡ length a
length_marked count a header =
    let tfl = length_pasted a (long (count + 20)) TFL (omega arith) in
    length_pasted (pasted a TFL (long (count + 20))) (RPL ∷ []) M_CTL (rw tfl (omega arith)) ∙ tfl

marked_within : (count : ℕ) (a b : List ℕ) → 64 ≤ length a → marked count (a ++ b) ≡ marked count a ++ b
marked_within count a b header =
    let tfl = length_pasted a (long (count + 20)) TFL (omega arith) in
    ap (λ (l : List ℕ). pasted l M_CTL (RPL ∷ [])) (paste_within a b (long (count + 20)) TFL (omega arith))
    ∙ paste_within (pasted a TFL (long (count + 20))) b (RPL ∷ []) M_CTL (rw tfl (omega arith))

-- a frame f in front of b, moved up, with 20 octets put in
put_in : (f b octets : List ℕ) (count : ℕ) → length f ≡ count → 64 ≤ count → length octets ≡ 20 → 20 ≤ length b
    → pasted (moved count (f ++ b)) 64 octets ≡ inserted octets f ++ drop 20 b
put_in f b octets count whole header twenty room =
    let behind = length-drop 64 f in
    let all = length-append octets (drop 64 f) in
    let end : 64 + length (octets ++ drop 64 f) ≡ length f + 20 = omega arith in
    ap (λ (l : List ℕ). pasted (pasted (f ++ b) 84 (drop 64 l)) 64 octets) (take_at f b count whole)
    ∙ paste_ahead (f ++ b) octets (drop 64 f) 64 84 (omega arith) (rw length-append (omega arith))
    ∙ ap₂ (λ (l m : List ℕ). l ++ ((octets ++ drop 64 f) ++ m)) (take-append-le 64 f b (omega arith))
    (ap (λ (k : ℕ). drop k (f ++ b)) end ∙ drop-append-add f b 20)
    ∙ sym (append_assoc (take 64 f) (octets ++ drop 64 f) (drop 20 b))

pub in_steps : (confirmation : Confirmation) (count : ℕ) (out : List ℕ) → 64 ≤ count → count + 20 ≤ length out
    → pasted (moved count (marked count out)) 64 (confirmation_octets confirmation) ≡ carrying confirmation (take count out) ++ drop (count + 20) out
in_steps confirmation count out header room =
    let octets = confirmation_octets confirmation in
    let front : length (take count out) ≡ count = length-take-le count out (omega arith) in
    let rest = length-drop count out in
    let split : marked count out ≡ marked count (take count out) ++ drop count out =
    ap (marked count) (sym (take-append-drop count out)) ∙ marked_within count (take count out) (drop count out) (omega arith) in
    ap (λ (l : List ℕ). pasted (moved count l) 64 octets) split
    ∙ put_in (marked count (take count out)) (drop count out) octets count (length_marked count (take count out) (omega arith) ∙ front) header refl (omega arith)
    ∙ ap₂ (λ (n : ℕ) (l : List ℕ). inserted octets (pasted (pasted (take count out) TFL (long (n + 20))) M_CTL (RPL ∷ [])) ++ l) (sym front) (drop-drop 20 count out)
