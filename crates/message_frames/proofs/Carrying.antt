-- A frame with a confirmation in it, octet by octet: the fields that the base reads are those of the frame without it, but for its length, and so are the
-- data; and the confirmation reads back. Assumes nothing.
use Rattle.std.specs.Prelude.{◌≡◌, ◌&&◌, ◌||◌, ◌++◌, ◌+◌, ◌-◌, ◌*◌, ◌<◌, ◌≤◌}
use Rattle.laws.specs.Usual.{refl, sym, ap, ap₂, ◌∙◌, Bool, true, false, not, List, ℕ, arith, length, take, drop, eqb, ltb}
use Rattle.std.proofs.Common.{append_assoc, length-append, length-drop, drop_at, get_or-append-add, get_or-take, length-take-le, le-leb, ltb-true}
use Rattle.std.proofs.Math.ListN.{get_or-append}
use Rattle.std.proofs.lemmas.Bool.{eqb-false, not-true}
use Rattle.copying.specs.Laws.{length_pasted}
use Rattle.copying.specs.Places.{paste_in, paste_outside, drop_behind}
use Rattle.frame.specs.Octets.{octet_at, word_at, long_at}
use Rattle.frame.specs.Positions.{TFL, BSIZE}
use Rattle.frame_round_trip.proofs.Digits.{word_back, long_back}
use Rattle.laws.specs.Tests.{both, first, second}
use Rattle.message.specs.declared.Confirmation.{Confirmation}
use Rattle.message_frames.specs.Confirmations.{confirmation_octets, raised, flag, lengthened, flagged, carrying, is_set, confirms, confirmation_in}
use Rattle.message_frames.specs.Places.{M_CTL, RPL, confirmation_length}

-- a place in the header that is neither of TFL nor the first octet of M_CTL
abbrev pub is_elsewhere : ℕ → Bool
is_elsewhere at = ltb at 64 && ((ltb at 4 || ltb 7 at) && not (eqb at 24))

module _ (confirmation : Confirmation) (s : List ℕ) (whole : 64 ≤ length s) where
  abbrev changed : List ℕ
  changed = flagged (lengthened s)

  length_lengthened : length (lengthened s) ≡ length s
  length_lengthened = length_pasted s (raised s) TFL (omega arith)

  length_changed : length changed ≡ length s
  length_changed = length_pasted (lengthened s) flag M_CTL (rw length_lengthened (omega arith)) ∙ length_lengthened

  front_length : length (take 64 changed) ≡ 64
  front_length = length-take-le 64 changed (rw length_changed (omega arith))

  pub length_carrying : length (carrying confirmation s) ≡ length s + confirmation_length
  length_carrying =
      length-append (take 64 changed) (confirmation_octets confirmation ++ drop 64 changed)
      ∙ ap₂ (λ (a b : ℕ). a + b) front_length
      (length-append (confirmation_octets confirmation) (drop 64 changed)
      ∙ ap (λ (n : ℕ). 20 + n) (length-drop 64 changed ∙ ap (λ (n : ℕ). n - 64) length_changed))
      ∙ omega arith

  -- an octet of the header
  header_octet : (at : ℕ) → at < 64 → octet_at (carrying confirmation s) at ≡ octet_at changed at
  header_octet at h =
      get_or-append (take 64 changed) (confirmation_octets confirmation ++ drop 64 changed) 0 at (rw front_length h)
      ∙ get_or-take 64 changed at 0 h

  pub elsewhere : (at : ℕ) → is_elsewhere at ≡ true → octet_at (carrying confirmation s) at ≡ octet_at s at
  elsewhere at e =
      let header = ltb-true at 64 (first (ltb at 64) _ e) in
      let rest = second (ltb at 64) _ e in
      let one = first (ltb at 4 || ltb 7 at) _ rest in
      let other = eqb-false at 24 (not-true _ (second (ltb at 4 || ltb 7 at) _ rest)) in
      header_octet at header
      ∙ paste_outside (lengthened s) flag M_CTL (rw length_lengthened (omega arith)) at (λ f b. other (omega arith))
      ∙ paste_outside s (raised s) TFL (omega arith) at (λ f b. by (ltb at 4) refl one f b)
    where
      by : (low : Bool) → ltb at 4 ≡ low → (low || ltb 7 at) ≡ true → 4 ≤ at → at < 8 → ⊥
      by true e o f b = let h = ltb-true at 4 e in omega arith
      by false e o f b = let h = ltb-true 7 at o in omega arith

  -- TFL
  length_octet : (i : ℕ) → i < 4 → octet_at (carrying confirmation s) (4 + i) ≡ octet_at (raised s) i
  length_octet i h =
      header_octet (4 + i) (omega arith)
      ∙ paste_outside (lengthened s) flag M_CTL (rw length_lengthened (omega arith)) (4 + i) (λ f b. omega arith)
      ∙ paste_in s (raised s) TFL (omega arith) i h

  pub length_read : long_at (carrying confirmation s) TFL ≡ length s + confirmation_length
  length_read =
      ap₂ (λ (a b : ℕ). a * 65536 + b)
      (ap₂ (λ (a b : ℕ). a * 256 + b) (length_octet 0 (omega arith)) (length_octet 1 (omega arith)))
      (ap₂ (λ (a b : ℕ). a * 256 + b) (length_octet 2 (omega arith)) (length_octet 3 (omega arith)))
      ∙ long_back (length s + confirmation_length)

  pub word_elsewhere : (at : ℕ) → is_elsewhere at ≡ true → is_elsewhere (at + 1) ≡ true → word_at (carrying confirmation s) at ≡ word_at s at
  word_elsewhere at e f = ap₂ (λ (a b : ℕ). a * 256 + b) (elsewhere at e) (elsewhere (at + 1) f)

  -- what stands behind the confirmation is what stood behind the header
  pub behind : drop 84 (carrying confirmation s) ≡ drop 64 s
  behind =
      ap (drop 84) (sym (append_assoc (take 64 changed) (confirmation_octets confirmation) (drop 64 changed)))
      ∙ drop_at (take 64 changed ++ confirmation_octets confirmation) (drop 64 changed) 84
      (length-append (take 64 changed) (confirmation_octets confirmation) ∙ ap (λ (n : ℕ). n + 20) front_length)
      ∙ drop_behind (lengthened s) flag M_CTL 64 (rw length_lengthened (omega arith)) (omega arith)
      ∙ drop_behind s (raised s) TFL 64 (omega arith) (omega arith)

  -- the octets of the confirmation
  confirmation_octet : (i : ℕ) → i < 20 → octet_at (carrying confirmation s) (64 + i) ≡ octet_at (confirmation_octets confirmation) i
  confirmation_octet i h =
      ap (λ (n : ℕ). octet_at (carrying confirmation s) (n + i)) (sym front_length)
      ∙ get_or-append-add (take 64 changed) (confirmation_octets confirmation ++ drop 64 changed) i 0
      ∙ get_or-append (confirmation_octets confirmation) (drop 64 changed) 0 i h

  control_octet : octet_at (carrying confirmation s) M_CTL ≡ RPL
  control_octet =
      header_octet 24 (omega arith)
      ∙ paste_in (lengthened s) flag M_CTL (rw length_lengthened (omega arith)) 0 (omega arith)

  -- it reads back to what it says
  pub confirmation_read : confirmation_in (carrying confirmation s) ≡ confirmation
  confirmation_read = simp (
    confirmation_octet 4 (omega arith),
    confirmation_octet 6 (omega arith),
    confirmation_octet 7 (omega arith),
    confirmation_octet 11 (omega arith),
    confirmation_octet 12 (omega arith),
    confirmation_octet 13 (omega arith),
    confirmation_octet 14 (omega arith),
    confirmation_octet 15 (omega arith),
    confirmation_octet 16 (omega arith),
    confirmation_octet 17 (omega arith),
    confirmation_octet 18 (omega arith),
    confirmation_octet 19 (omega arith),
    long_back,
    word_back,
  )

  -- and it is seen, where the data begin behind the header of 64
  pub confirmation_seen : 64 + word_at s BSIZE ≡ length s → confirms (carrying confirmation s) ≡ true
  confirmation_seen header =
      let size = word_elsewhere BSIZE refl refl in
      let before : 84 ≤ length (carrying confirmation s) - word_at (carrying confirmation s) BSIZE = rw (length_carrying, size) (omega arith) in
      both (ap (is_set RPL) control_octet) (both (le-leb _ _ before) (ap (λ (n : ℕ). eqb n 1) (confirmation_octet 1 (omega arith))))
