-- Laws of putting one list into another, from the end to the front. Assumes nothing.
use Rattle.std.specs.Prelude.{◌≡◌, ◌∷◌, ◌++◌, ◌+◌, ◌-◌, ◌<◌, ◌≤◌}
use Rattle.laws.specs.Usual.{sym, ap, ap₂, ◌∙◌, List, [], ℕ, suc, arith, length, get_or, take, drop, set}
use Rattle.std.proofs.Common.{append_assoc, length-append, length-drop, take-suc, drop-cons, get_or-take, length-take-le, take-take, drop_at}
use Rattle.std.proofs.Math.Seq.{append_snoc}
use Rattle.std.proofs.lemmas.List.{set_at, take-append-le, drop-append-le}
use Rattle.copying.specs.Pasted.{pasted}
use Rattle.copying.specs.Places.{paste_before}

-- one octet right before what was put in
pub paste_one_ahead : (d t : List ℕ) (at x : ℕ) → at < length d → set (pasted d (suc at) t) at x ≡ pasted d at (x ∷ t)
paste_one_ahead d t at x h =
    let rest = t ++ drop (suc at + length t) d in
    let end : suc at + length t ≡ at + length (x ∷ t) = omega arith in
    ap (λ (l : List ℕ). set (l ++ rest) at x) (take-suc d at 0 h)
    ∙ ap (λ (l : List ℕ). set l at x) (append_snoc (take at d) (get_or d at 0) rest)
    ∙ set_at (take at d) (get_or d at 0) rest x at (length-take-le at d (omega arith))
    ∙ ap (λ (k : ℕ). take at d ++ (x ∷ (t ++ drop k d))) end

-- a list right before what was put in is the two put in as one
pub paste_ahead : (d s t : List ℕ) (at n : ℕ) → n ≡ at + length s → n + length t ≤ length d → pasted (pasted d n t) at s ≡ pasted d at (s ++ t)
paste_ahead d s t at n e room =
    let front : length (take n d) ≡ n = length-take-le n d (omega arith) in
    let rest = drop (n + length t) d in
    let before : take at (pasted d n t) ≡ take at d =
    take-append-le at (take n d) (t ++ rest) (rw front (omega arith)) ∙ take-take at n d (omega arith) in
    let behind : drop (at + length s) (pasted d n t) ≡ t ++ rest =
    ap (λ (k : ℕ). drop k (pasted d n t)) (sym e) ∙ drop_at (take n d) (t ++ rest) n front in
    let end : n + length t ≡ at + length (s ++ t) = rw (length-append s t) (omega arith) in
    ap₂ (λ (l m : List ℕ). l ++ (s ++ m)) before behind
    ∙ ap (λ (l : List ℕ). take at d ++ l) (sym (append_assoc s t rest) ∙ ap (λ (k : ℕ). (s ++ t) ++ drop k d) end)

-- a list put into the first of two leaves the second alone
pub paste_within : (a b s : List ℕ) (at : ℕ) → at + length s ≤ length a → pasted (a ++ b) at s ≡ pasted a at s ++ b
paste_within a b s at room =
    let rest = drop (at + length s) a in
    ap₂ (λ (l m : List ℕ). l ++ (s ++ m)) (take-append-le at a b (omega arith)) (drop-append-le (at + length s) a b room)
    ∙ sym (append_assoc (take at a) (s ++ rest) b ∙ ap (λ (l : List ℕ). take at a ++ l) (append_assoc s rest b))

-- the octets from n to `count` moved up by 20, and then the one before them
pub move_one : (d : List ℕ) (count n : ℕ) → 0 < n → n ≤ count → count + 20 ≤ length d
    → let above = pasted d (n + 20) (drop n (take count d)) in set above (n - 1 + 20) (get_or above (n - 1) 0) ≡ pasted d (n - 1 + 20) (drop (n - 1) (take count d))
move_one d count n some low room =
    let s = take count d in
    let t = drop n s in
    let at = n - 1 in
    let next : n ≡ suc at = omega arith in
    let end : n + 20 ≡ suc (at + 20) = omega arith in
    let whole : length s ≡ count = length-take-le count d (omega arith) in
    let left = length-drop n s in
    let octet : get_or (pasted d (n + 20) t) at 0 ≡ get_or s at 0 =
    paste_before d t (n + 20) (omega arith) at (omega arith) ∙ sym (get_or-take count d at 0 (omega arith)) in
    let rest : get_or s at 0 ∷ t ≡ drop at s = ap (λ (k : ℕ). get_or s at 0 ∷ drop k s) next ∙ sym (drop-cons s at 0 (omega arith)) in
    ap (λ (x : ℕ). set (pasted d (n + 20) t) (at + 20) x) octet
    ∙ ap (λ (k : ℕ). set (pasted d k t) (at + 20) (get_or s at 0)) end
    ∙ paste_one_ahead d t (at + 20) (get_or s at 0) (omega arith)
    ∙ ap (pasted d (at + 20)) rest
