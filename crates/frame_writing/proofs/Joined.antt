-- Three lists put in one right behind the other are put in as one. Assumes nothing.
use Rattle.std.specs.Prelude.{◌≡◌, ◌++◌, ◌≤◌}
use Rattle.laws.specs.Usual.{sym, ap, ◌∙◌, List, ℕ, arith, length}
use native.Mathlib.Nat.{zero-add}
use lib.ListN.{length-append}
use Rattle.copying.specs.Laws.{paste_append}
use Rattle.copying.specs.Pasted.{pasted}

pub joined : (out a b c : List ℕ) → length a ≡ 16 → length b ≡ 24 → 64 ≤ length out → pasted (pasted (pasted out 0 a) 16 b) 40 c ≡ pasted out 0 ((a ++ b) ++ c)
joined out a b c p q room =
    let both : length (a ++ b) ≡ 40 = rw (length-append a b) (omega arith) in
    let first : pasted (pasted out 0 a) 16 b ≡ pasted out 0 (a ++ b) =
    ap (λ (k : ℕ). pasted (pasted out 0 a) k b) (sym (zero-add (length a) ∙ p)) ∙ paste_append out a b 0 (omega arith) in
    ap (λ (l : List ℕ). pasted l 40 c) first
    ∙ ap (λ (k : ℕ). pasted (pasted out 0 (a ++ b)) k c) (sym (zero-add (length (a ++ b)) ∙ both))
    ∙ paste_append out (a ++ b) c 0 (omega arith)
