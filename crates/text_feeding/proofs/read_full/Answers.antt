-- `text_feeding::read_full` meets its contract.
use Rattle.std.proofs.Common.{◌≡◌, ℕ, ◌+◌, ◌-◌, ◌≤◌, List, ◌++◌, rules, arith, length, take, slice_range, sym, ap, ◌∙◌, subst, le_refl, drop_at, length-take-le}
use Rattle.std.proofs.lemmas.Slice.{take-put_mid_below}
use Rattle.std.proofs.KnownBytes.{Consumes-trans}
use Rattle.std.proofs.Math.Seq.{take-add, take-append-le}
use Rattle.std.specs.Io.KnownBytes.{Consumes}
use borrow.Rule.Slice.PartMut.{put_mid, post_of}
use Rattle.text_feeding.proofs.read_full.Goals as goal

-- the front of a buffer, and what came behind it
take_split : (from to : ℕ) (old new : List ℕ) → from ≤ to → take from new ≡ take from old → take from old ++ slice_range new from to ≡ take to new
take_split from to old new h front =
    let same : from + (to - from) ≡ to = omega arith in
    ap (λ (l : List ℕ). l ++ slice_range new from to) (sym front) ∙ sym (take-add from (to - from) new) ∙ ap (λ (n : ℕ). take n new) same

slice_range-put_mid : (from room count : ℕ) (xs ys : List ℕ) → from ≤ length xs → count ≤ length ys
    → slice_range (put_mid from room xs ys) from (from + count) ≡ take count ys
slice_range-put_mid from room count xs ys within fits =
    let same : (from + count) - from ≡ count = omega arith in
    let after = post_of from room xs in
    ap (take ((from + count) - from)) (drop_at (take from xs) (ys ++ after) from (length-take-le from xs within))
    ∙ ap (λ (m : ℕ). take m (ys ++ after)) same
    ∙ take-append-le count ys after fits

pub loop-done-preserved : goal.loop-done-preserved
loop-done-preserved g c =
    let l = c.loop-done in
    let from = l.done in
    let got = c.in-Ok.got in
    let room = length l.buffer - from in
    let within = l.invariant.1 in
    let part = slice_range-put_mid from room got l.buffer c.read_once.new.part within c.in-Ok.ensures.bound.0 in
    let joined = take_split from (from + got) l.buffer (put_mid from room l.buffer c.read_once.new.part) (omega arith) (take-put_mid_below _ _ _ _ _ (le_refl _) within) in (
      search rules,
      search rules,
      subst (Consumes _ _) (ap (λ (xs : List ℕ). take from l.buffer ++ xs) (sym part) ∙ joined) (Consumes-trans _ _ _ _ _ l.invariant.2 c.in-Ok.ensures.bytes.0),
    )
