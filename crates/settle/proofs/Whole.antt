-- The output of the front of an input is the output of all of it, where nothing stands behind the front or the front is long enough.
-- Assumes nothing.
use Rattle.std.specs.Prelude.{◌≡◌, ◌++◌, ◌<◌, ◌≤◌, OnOk, IfSome, Result, Ok, Err, Some, None}
use Rattle.std.specs.Io.KnownBytes.{Consumes, IsAtEnd}
use Rattle.std.proofs.Common.{append-nil}
use Rattle.std.proofs.Math.Decide.{dec_lt}
use Rattle.std.proofs.Math.Seq.{take-append_seam}
use Rattle.laws.specs.Usual.{sym, ap, subst, ◌∙◌, List, [], ℕ, arith, length}
use Rattle.std.specs.declared.option.Option.{Option}
use Rattle.settle_input.specs.Input.{read_of}
use Rattle.settle_input.specs.Prefix.{read_prefix}
use Rattle.settle_rest.specs.Whole.{answer_lines, output_of}

front_output : (size count : ℕ) (front rest : List ℕ) → 2040 ≤ size → count ≡ length front → (count < size → rest ≡ []) → output_of front ≡ output_of (front ++ rest)
front_output size count front rest room all end = by (dec_lt count size)
  where
    by : Dec (count < size) → output_of front ≡ output_of (front ++ rest)
    by (yes less) = ap output_of (sym (append-nil front) ∙ ap (λ (l : List ℕ). front ++ l) (sym (end less)))
    by (no enough) =
        ap answer_lines
        (ap read_of (sym (take-append_seam front rest)) ∙ read_prefix (length front) (front ++ rest) (omega arith))

-- so what holds of the output of what was read holds of the output of all that can be read
pub whole_output : {E : Type 0} (P : List ℕ → Type 0) (read : Result (Unit {0}) E) (before after : Option (List ℕ)) (size count : ℕ) (front : List ℕ) →
    2040 ≤ size → count ≡ length front → Consumes before after front → OnOk read (count < size → IsAtEnd after) → P (output_of front) →
    OnOk read (IfSome before (λ octets. P (output_of octets)))
whole_output P (Err e) before after size count front room all took end said = tt
whole_output P (Ok u) None after size count front room all took end said = tt
whole_output P (Ok u) (Some octets) None size count front room all took end said = absurd took
whole_output P (Ok u) (Some octets) (Some rest) size count front room all took end said =
    subst P (front_output size count front rest room all end ∙ ap output_of (sym took)) said
