-- `replay_reply_octets::put_octet` meets its contract.
use Rattle.std.specs.Prelude.{◌∷◌}
use Rattle.laws.specs.Usual.{[], arith}
use Rattle.replay_reply_parts.specs.Hex.{octet_text}
use Rattle.replay_reply_parts.specs.Written.{Written, then}
use Rattle.replay_reply_octets.proofs.put_octet.Goals as goal

pub returns : goal.returns
returns c =
    let a = c.args in
    let high = c.digit in
    let low = c.digit-2 in
    let first = c.put_mark-next.ensures in
    let second = c.put_mark.ensures in
    let both = then a.output.now a.at (high.result ∷ []) (low.result ∷ []) (omega (arith, c.requires))
    (first.value, first.output_after) (second.value, second.output_after) in
    let whole : Written a.output.now a.at (octet_text a.octet) c.put_mark.new.output c.put_mark.result =
    rw (← high.ensures, ← low.ensures) both in
    record { value = whole.0; output_after = whole.1 }
