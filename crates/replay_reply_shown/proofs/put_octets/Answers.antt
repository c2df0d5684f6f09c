-- `replay_reply_shown::put_octets` meets its contract.
use Rattle.std.specs.Prelude.{◌∷◌}
use Rattle.laws.specs.Usual.{[], arith, rules}
use Rattle.text.specs.Lines.{line_feed}
use Rattle.replay_reply_parts.specs.Hex.{hex_of}
use Rattle.replay_reply_shown.specs.Shown.{octets_text}
use Rattle.replay_reply_parts.specs.HexLaws.{hex_length}
use Rattle.replay_reply_parts.specs.Written.{then, in_front}
use Rattle.replay_reply_shown.proofs.put_octets.Goals as goal

pub put_mark-requires : goal.put_mark-requires
put_mark-requires c = omega (arith, c.requires, hex_length c.args.octets.now, c.put_hex-end.ensures.value, c.put_hex-end.auto.output)

pub returns : goal.returns
returns c =
    let out = c.args.output.now in
    let octets = c.args.octets.now in let both = in_front out (octets_text octets)
    (then out 0 (hex_of octets) (line_feed ∷ []) (omega (arith, c.requires, hex_length octets)) (c.put_hex-end.ensures.value, c.put_hex-end.ensures.output_after) (c.put_mark.ensures.value, c.put_mark.ensures.output_after)) in
    record { value = both.0; output_after = both.1 }
