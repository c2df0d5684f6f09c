-- `replay_reply_asked::put_frame` meets its contract.
use Rattle.std.specs.Prelude.{◌∷◌, ◌++◌}
use Rattle.laws.specs.Usual.{[], arith, rules}
use Rattle.text.specs.Lines.{space, line_feed}
use Rattle.replay_reply_parts.specs.Hex.{hex_of}
use Rattle.replay_reply_parts.specs.HexLaws.{hex_length}
use Rattle.replay_reply_parts.specs.Lines.{ended, spaced}
use Rattle.replay_reply_parts.specs.Written.{then, in_front}
use Rattle.replay_reply_asked.specs.Asked.{frame_word}
use Rattle.replay_reply_asked.proofs.put_frame.Goals as goal

pub put_mark-requires : goal.put_mark-requires
put_mark-requires c =
    let word = c.put_word-word in
    let hex = c.put_hex-end in
    omega (arith, c.requires, hex_length c.args.frame.now, word.ensures.value, word.auto.output, hex.ensures.value, hex.auto.output)

pub returns : goal.returns
returns c =
    let out = c.args.output.now in
    let digits = hex_of c.args.frame.now in
    let word = frame_word ++ (space ∷ []) in
    let both = then out 0 word digits (omega (arith, c.requires)) (c.put_word-word.ensures.value, c.put_word-word.ensures.output_after) (c.put_hex-end.ensures.value, c.put_hex-end.ensures.output_after) in let both = in_front out (ended (spaced frame_word digits))
    (then out 0 (word ++ digits) (line_feed ∷ []) (omega (arith, c.requires, hex_length c.args.frame.now)) both (c.put_mark.ensures.value, c.put_mark.ensures.output_after)) in
    record { value = both.0; output_after = both.1 }
