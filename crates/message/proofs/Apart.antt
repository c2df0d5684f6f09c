-- No message code is one of the four codes of the base. Assumes nothing.
use Rattle.std.specs.Prelude.{◌≡◌}
use Rattle.laws.specs.Usual.{refl, sym, ap, ◌∙◌, Bool, true, false, false≢true, ℕ, eqb}
use Rattle.std.proofs.Common.{eqb-true}
use Rattle.frame.specs.Codes.{code_of, is_known}
use Rattle.message.specs.Codes.{is_message}

-- a number that is no message code is another than one that is
other : (number code : ℕ) → is_message number ≡ true → is_message code ≡ false → eqb number code ≡ false
other number code message none = by (eqb number code) refl
  where
    by : (same : Bool) → eqb number code ≡ same → same ≡ false
    by true e = absurd (false≢true (sym none ∙ ap is_message (sym (eqb-true number code e)) ∙ message))
    by false e = refl

pub message_unknown : (number : ℕ) → is_message number ≡ true → is_known (code_of number) ≡ false
message_unknown number message =
    rw (other number 65000 message refl, other number 65001 message refl, other number 65002 message refl, other number 65012 message refl)
