-- `text_octets::unspell` meets its contract.
use Rattle.std.specs.Prelude.{◌≡◌, ◌++◌, ◌+◌}
use Rattle.laws.specs.Usual.{sym, ap, ap₂, ◌∙◌, List, ℕ, arith, length, get_or, take, drop, set}
use native.Mathlib.Nat.{zero-add}
use native.Mathlib.Numerals.{add-one}
use lib.Seq.{paste, paste-zero, paste-suc, length-take-le, take_all}
use Rattle.std.specs.Prelude.{min, ◌≤◌}
use Rattle.copying.specs.Pasted.{pasted}
use Rattle.text_hexadecimal.specs.OctetLaws.{octets_most, octet_at_lem}
use Rattle.text_hexadecimal.specs.Octets.{octets_of}
use Rattle.text_octets.proofs.unspell.Goals as goal
use Rattle.std.proofs.Math.Decide.{dec_le}

pub loop-i-init : goal.loop-i-init
loop-i-init c = paste-zero c.args.output.now 0 (octets_of c.args.digits.now)

pub octet_at-requires : goal.octet_at-requires
octet_at-requires c = omega (arith, c.loop-i-test.true, c.min-size.ensures, c.size_of.ensures, octets_most c.args.digits.now)

pub loop-i-preserved : goal.loop-i-preserved
loop-i-preserved c =
    let d = c.args.output.now in
    let digits = c.args.digits.now in
    let s = octets_of digits in
    let i = c.loop-i.i in
    let value : c.octet_at.result ≡ get_or s i 0 = c.octet_at.ensures ∙ sym (octet_at_lem digits i (omega (arith, c.loop-i-test.true, c.min-size.ensures, c.size_of.ensures))) in
    ap₂ (λ (l : List ℕ) (x : ℕ). set l i x) c.loop-i.invariant value
    ∙ ap (λ (k : ℕ). set (paste d 0 s i) k (get_or s i 0)) (sym (zero-add i))
    ∙ paste-suc d 0 s i 0 (omega (arith, c.loop-i-test.true, c.min-size.ensures)) (omega (arith, c.loop-i-test.true, c.min-size.ensures, c.size_of.ensures))
    ∙ ap (paste d 0 s) (sym (add-one i))

-- what has been written when no more is, or when there is no more room
written : (d s : List ℕ) (i : ℕ) → i ≡ min (length s) (length d) → paste d 0 s i ≡ pasted d 0 (take (length d) s)
written d s i e = by (dec_le (length d) (length s))
  where
    by : Dec (length d ≤ length s) → paste d 0 s i ≡ pasted d 0 (take (length d) s)
    by (yes h) =
        let full : i ≡ length d = omega (arith, e) in
        ap₂ (λ (l : List ℕ) (k : ℕ). l ++ drop (0 + k) d) (ap (λ (k : ℕ). take k s) full) (full ∙ sym (length-take-le (length d) s h))
    by (no h) =
        let all : take (length d) s ≡ s = take_all (length d) s (omega arith) in
        let end : i ≡ length s = omega (arith, e) in
        ap₂ (λ (l : List ℕ) (k : ℕ). l ++ drop (0 + k) d) (take_all i s (omega arith) ∙ sym all) (end ∙ sym (ap length all))

pub returns-clause-output_after : goal.returns-clause-output_after
returns-clause-output_after c = c.loop-i.invariant ∙ written c.args.output.now (octets_of c.args.digits.now) c.loop-i.i (omega (arith, c.min-size.ensures, c.size_of.ensures))
