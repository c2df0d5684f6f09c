-- Laws of putting one list into another. Assumes nothing.
use Rattle.std.specs.Prelude.{◌≡◌, ◌∷◌, ◌++◌, ◌+◌, ◌-◌, ◌<◌, ◌≤◌}
use Rattle.laws.specs.Usual.{sym, ap, ap₂, ◌∙◌, List, [], ℕ, suc, arith, length, get_or, take, drop, set}
use Rattle.std.proofs.Common.{append_assoc, append-nil, add-one, zero-add, add-zero, take-append-drop, length-append, length-take, length-drop, drop_of_length-le, drop-drop, drop-cons, take_all, take_at, take-add, length-take-le}
use Rattle.std.proofs.Math.Seq.{take-append_seam, drop-append_seam, drop-append-add, append_snoc}
use Rattle.std.proofs.lemmas.List.{set_at, set_split}
use Rattle.copying.specs.Pasted.{pasted}

pub paste_front : (d s : List ℕ) → pasted d 0 s ≡ s ++ drop (length s) d
paste_front d s = ap (λ (k : ℕ). s ++ drop k d) (zero-add (length s))

-- and there it is read
pub front_read : (d s : List ℕ) (n : ℕ) → n ≡ length s → take n (pasted d 0 s) ≡ s
front_read d s n e = ap (take n) (paste_front d s) ∙ take_at s (drop (length s) d) n (sym e)

-- at any place too
pub part_read : (d s : List ℕ) (at : ℕ) → at ≤ length d → take (length s) (drop at (pasted d at s)) ≡ s
part_read d s at h =
    let front : length (take at d) ≡ at = length-take-le at d h in
    ap (λ (k : ℕ). take (length s) (drop k (pasted d at s))) (sym front)
    ∙ ap (take (length s)) (drop-append_seam (take at d) (s ++ drop (at + length s) d))
    ∙ take-append_seam s (drop (at + length s) d)

-- one list in front, and another right behind it
pub paste_both : (d s t : List ℕ) → pasted (pasted d 0 s) (length s) t ≡ (s ++ t) ++ drop (length s + length t) d
paste_both d s t =
    rw (
      paste_front d s,
      take-append_seam s (drop (length s) d),
      drop-append-add s (drop (length s) d) (length t),
      drop-drop (length t) (length s) d,
      append_assoc s t (drop (length s + length t) d),
    )

-- no list grows or shrinks by it
pub length_pasted : (d s : List ℕ) (at : ℕ) → at + length s ≤ length d → length (pasted d at s) ≡ length d
length_pasted d s at h = simp (length-append, length-take, length-drop) (omega arith)

-- one octet behind what was put in
pub paste_more : (d s : List ℕ) (at x : ℕ) → at + length s < length d → set (pasted d at s) (at + length s) x ≡ pasted d at (s ++ (x ∷ []))
paste_more d s at x h =
    let front : length (take at d ++ s) ≡ at + length s = simp (length-append, length-take) (omega arith) in
    let end : at + length (s ++ (x ∷ [])) ≡ suc (at + length s) = rw (length-append s (x ∷ [])) (omega arith) in
    ap (λ (l : List ℕ). set (take at d ++ (s ++ l)) (at + length s) x) (drop-cons d (at + length s) 0 h)
    ∙ ap (λ (l : List ℕ). set l (at + length s) x) (sym (append_assoc (take at d) s (get_or d (at + length s) 0 ∷ drop (suc (at + length s)) d)))
    ∙ set_at (take at d ++ s) (get_or d (at + length s) 0) (drop (suc (at + length s)) d) x (at + length s) front
    ∙ append_assoc (take at d) s (x ∷ drop (suc (at + length s)) d)
    ∙ ap (λ (l : List ℕ). take at d ++ l) (sym (append_snoc s x (drop (suc (at + length s)) d)) ∙ ap (λ (k : ℕ). s ++ (x ∷ []) ++ drop k d) (sym end))

pub paste_one : (d : List ℕ) (at x : ℕ) → at < length d → set d at x ≡ pasted d at (x ∷ [])
paste_one d at x h = set_split d at x h ∙ ap (λ (k : ℕ). take at d ++ (x ∷ drop k d)) (sym (add-one at))

-- a second list right behind the first is the two put in as one
pub paste_append : (d s t : List ℕ) (at : ℕ) → at + length s ≤ length d → pasted (pasted d at s) (at + length s) t ≡ pasted d at (s ++ t)
paste_append d s t at h =
    let front : length (take at d ++ s) ≡ at + length s = simp (length-append, length-take) (omega arith) in
    let rest = drop (at + length s) d in
    let whole : pasted d at s ≡ (take at d ++ s) ++ rest = sym (append_assoc (take at d) s rest) in
    let end : at + length s + length t ≡ at + length (s ++ t) = rw (length-append s t) (omega arith) in
    let after : drop (at + length s + length t) (pasted d at s) ≡ drop (at + length (s ++ t)) d =
    ap₂ (λ (k : ℕ) (l : List ℕ). drop (k + length t) l) (sym front) whole
    ∙ drop-append-add (take at d ++ s) rest (length t)
    ∙ drop-drop (length t) (at + length s) d
    ∙ ap (λ (k : ℕ). drop k d) end in
    ap₂ (λ (l m : List ℕ). l ++ (t ++ m)) (ap (take (at + length s)) whole ∙ take_at (take at d ++ s) rest (at + length s) front) after
    ∙ append_assoc (take at d) s (t ++ drop (at + length (s ++ t)) d)
    ∙ ap (λ (l : List ℕ). take at d ++ l) (sym (append_assoc s t (drop (at + length (s ++ t)) d)))

-- nothing put in
pub paste_nothing : (d : List ℕ) (at : ℕ) → pasted d at [] ≡ d
paste_nothing d at = ap (λ (k : ℕ). take at d ++ drop k d) (add-zero at) ∙ take-append-drop at d

-- a piece of a list right behind the pieces before it
pub paste_piece : (d s : List ℕ) (at from to : ℕ) → from ≤ to → to ≤ length s → at + length s ≤ length d
    → pasted (pasted d at (take from s)) (at + from) (take (to - from) (drop from s)) ≡ pasted d at (take to s)
paste_piece d s at from to h k room =
    let front : length (take from s) ≡ from = length-take-le from s (omega arith) in
    let piece = take (to - from) (drop from s) in
    let end : from + (to - from) ≡ to = omega arith in
    ap (λ (n : ℕ). pasted (pasted d at (take from s)) (at + n) piece) (sym front)
    ∙ paste_append d (take from s) piece at (omega (arith, front))
    ∙ ap (λ (l : List ℕ). pasted d at l) (sym (take-add from (to - from) s))
    ∙ ap (λ (n : ℕ). pasted d at (take n s)) end

-- a list put in front of the part from `at` on, where that part stood, is put into the whole
pub paste_part : (d s : List ℕ) (at : ℕ)
    → take at d ++ (pasted (take (length d - at) (drop at d)) 0 s ++ drop (length d - at) (drop at d)) ≡ pasted d at s
paste_part d s at =
    let all : length (drop at d) ≤ length d - at = rw length-drop (omega arith) in
    rw (
      take_all (length d - at) (drop at d) all,
      drop_of_length-le (drop at d) all,
      paste_front (drop at d) s,
      drop-drop (length s) at d,
      append-nil (s ++ drop (at + length s) d),
    )
