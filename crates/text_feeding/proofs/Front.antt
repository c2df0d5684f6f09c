-- A text that was put in front of a buffer. Assumes nothing.
use Rattle.std.specs.Prelude.{◌≡◌, ◌-◌, ◌≤◌}
use Rattle.laws.specs.Usual.{ap, ◌∙◌, List, ℕ, arith, length, take, drop}
use Rattle.std.proofs.Math.Nat.{sub-zero}
use Rattle.std.proofs.Common.{length-append}
use Rattle.copying.specs.Laws.{paste_front, front_read as front_taken}
use Rattle.copying.specs.Pasted.{pasted}

module _ (buffer text : List ℕ) {after : List ℕ} {end : ℕ} (e : end ≡ length text) (put : after ≡ pasted buffer 0 text) where
  -- it is no longer than the buffer
  pub front_within : end ≤ length after
  front_within = omega (arith, e, ap length (put ∙ paste_front buffer text) ∙ length-append text (drop (length text) buffer))

  -- and is the part from place 0 to its end
  pub front_read : take (end - 0) after ≡ text
  front_read = ap (λ (n : ℕ). take n after) (sub-zero end) ∙ ap (take end) put ∙ front_taken buffer text end e
