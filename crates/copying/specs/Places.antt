-- A list octet by octet, where another was put into it. Assumes nothing.
use Rattle.std.specs.Prelude.{◌≡◌, ◌++◌, ◌+◌, ◌-◌, ◌<◌, ◌≤◌}
use Rattle.laws.specs.Usual.{refl, sym, ap, ◌∙◌, Bool, true, false, List, ℕ, arith, length, get_or, take, drop, leb}
use Rattle.std.proofs.Common.{append_assoc, length-append, length-take, drop-drop, get_or-append-add, get_or-take, get_or-drop, leb-true, leb-false}
use Rattle.std.proofs.Math.ListN.{get_or-append}
use Rattle.std.proofs.Math.Seq.{drop-append-add}
use Rattle.copying.specs.Pasted.{pasted}

-- the octets before what was put in, behind it, and in it
module _ (d s : List ℕ) (at : ℕ) (fits : at + length s ≤ length d) where
  pub paste_before : (i : ℕ) → i < at → get_or (pasted d at s) i 0 ≡ get_or d i 0
  paste_before i h =
      get_or-append (take at d) (s ++ drop (at + length s) d) 0 i (rw (length-take at d) (omega arith)) ∙ get_or-take at d i 0 h

  pub paste_in : (i : ℕ) → i < length s → get_or (pasted d at s) (at + i) 0 ≡ get_or s i 0
  paste_in i h =
      let front : length (take at d) ≡ at = length-take at d ∙ omega arith in
      ap (λ (k : ℕ). get_or (pasted d at s) (k + i) 0) (sym front)
      ∙ get_or-append-add (take at d) (s ++ drop (at + length s) d) i 0
      ∙ get_or-append s (drop (at + length s) d) 0 i h

  pub paste_behind : (i : ℕ) → at + length s ≤ i → get_or (pasted d at s) i 0 ≡ get_or d i 0
  paste_behind i h =
      let front : length (take at d) ≡ at = length-take at d ∙ omega arith in
      let place : i ≡ length (take at d) + (length s + (i - (at + length s))) = rw front (omega arith) in
      ap (λ (k : ℕ). get_or (pasted d at s) k 0) place
      ∙ get_or-append-add (take at d) (s ++ drop (at + length s) d) (length s + (i - (at + length s))) 0
      ∙ get_or-append-add s (drop (at + length s) d) (i - (at + length s)) 0
      ∙ get_or-drop (at + length s) d (i - (at + length s)) 0
      ∙ ap (λ (k : ℕ). get_or d k 0) (omega arith)

  pub paste_outside : (i : ℕ) → (at ≤ i → i < at + length s → ⊥) → get_or (pasted d at s) i 0 ≡ get_or d i 0
  paste_outside i out = by (leb at i) (leb (at + length s) i) refl refl
    where
      by : (a b : Bool) → leb at i ≡ a → leb (at + length s) i ≡ b → get_or (pasted d at s) i 0 ≡ get_or d i 0
      by true true e f = paste_behind i (leb-true (at + length s) i f)
      by true false e f = absurd (out (leb-true at i e) (leb-false (at + length s) i f))
      by false b e f = paste_before i (leb-false at i e)

-- what stands behind it
pub drop_behind : (d s : List ℕ) (at n : ℕ) → at + length s ≤ length d → at + length s ≤ n → drop n (pasted d at s) ≡ drop n d
drop_behind d s at n fits behind =
    let front : length (take at d ++ s) ≡ at + length s = simp (length-append, length-take) (omega arith) in
    let place : n ≡ length (take at d ++ s) + (n - (at + length s)) = rw front (omega arith) in
    let back : at + length s + (n - (at + length s)) ≡ n = omega arith in
    ap (drop n) (sym (append_assoc (take at d) s (drop (at + length s) d)))
    ∙ ap (λ (k : ℕ). drop k ((take at d ++ s) ++ drop (at + length s) d)) place
    ∙ drop-append-add (take at d ++ s) (drop (at + length s) d) (n - (at + length s))
    ∙ drop-drop (n - (at + length s)) (at + length s) d
    ∙ ap (λ (k : ℕ). drop k d) back
