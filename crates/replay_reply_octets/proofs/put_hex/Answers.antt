-- `replay_reply_octets::put_hex` meets its contract.
use Rattle.std.specs.Prelude.{◌≡◌, ◌++◌, ◌+◌, ◌<◌, ◌≤◌}
use Rattle.laws.specs.Usual.{subst, List, refl, sym, ap, ◌∙◌, ℕ, arith, length, get_or, take}
use native.Mathlib.Numerals.{add-one}
use lib.Seq.{length-take-le, take-suc, take_all}
use Rattle.copying.specs.Laws.{paste_nothing}
use Rattle.replay_reply_parts.specs.Hex.{octet_text, hex_of}
use Rattle.replay_reply_parts.specs.HexLaws.{hex_length, hex_more}
use Rattle.replay_reply_parts.specs.Written.{Written, then}
use Rattle.replay_reply_octets.proofs.put_hex.Goals as goal

pub loop-octet-init : goal.loop-octet-init
loop-octet-init c =
    let a = c.args in
    ((omega arith, sym (paste_nothing a.output.now a.at)), refl)

pub put_octet-end-requires : goal.put_octet-end-requires
put_octet-end-requires c =
    let l = c.loop-octet in
    let octets = c.args.octets.now in
    omega (arith, c.requires, hex_length (take l.octet-index octets), length-take-le l.octet-index octets (omega arith), l.invariant.0.0)

pub loop-octet-preserved : goal.loop-octet-preserved
loop-octet-preserved c =
    let a = c.args in
    let l = c.loop-octet in
    let octets = a.octets.now in
    let i = l.octet-index in
    let octet = get_or octets i 0 in
    let inside : i < length octets = omega arith in
    let more : hex_of (take (i + 1) octets) ≡ hex_of (take i octets) ++ octet_text octet =
    ap (λ (k : ℕ). hex_of (take k octets)) (add-one i) ∙ ap hex_of (take-suc octets i 0 inside) ∙ hex_more (take i octets) octet in
    let room : a.at + length (hex_of (take i octets)) ≤ length a.output.now = omega (arith, c.requires, hex_length (take i octets), length-take-le i octets (omega arith)) in (
      rw more (then a.output.now a.at (hex_of (take i octets)) (octet_text octet) room l.invariant.0 (c.put_octet-end.ensures.value, c.put_octet-end.ensures.output_after)),
      c.put_octet-end.auto.output ∙ l.invariant.1,
    )

pub shape_of-output : goal.shape_of-output
shape_of-output c = c.loop-octet.invariant.1

pub returns : goal.returns
returns c =
    let l = c.loop-octet in
    let octets = c.args.octets.now in
    let all : take l.octet-index octets ≡ octets = take_all l.octet-index octets (omega arith) in
    let whole : Written c.args.output.now c.args.at (hex_of octets) l.output l.end = subst (λ (s : List ℕ). Written c.args.output.now c.args.at (hex_of s) l.output l.end) all l.invariant.0 in
    record { value = whole.0; output_after = whole.1 }
