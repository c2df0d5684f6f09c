-- `replay_reply_outcome::put_outcome` meets its contract.
use Rattle.std.specs.Prelude.{◌∷◌, ◌++◌}
use Rattle.laws.specs.Usual.{[], arith, rules}
use lib.ListN.{length-append}
use Rattle.text.specs.Lines.{line_feed}
use Rattle.replay_reply_parts.specs.Lines.{ended}
use Rattle.replay_reply_parts.specs.Written.{then, in_front}
use Rattle.replay_reply_outcome.specs.Outcome.{data_word}
use Rattle.replay_reply_outcome.specs.Room.{data_length}
use Rattle.replay_reply_outcome.proofs.put_outcome.Goals as goal

pub put_mark-requires : goal.put_mark-requires
put_mark-requires c = omega (arith, c.requires, data_length c.args.«data», c.put_data-end.ensures.value, c.put_data-end.auto.output, c.put_word-token.ensures.value, c.put_word-token.auto.output)

pub returns : goal.returns
returns c =
    let out = c.args.output.now in
    let word = c.args.word.now in
    let outcome = data_word c.args.«data» in
    let few = data_length c.args.«data» in
    let both = then out 0 word outcome (omega (arith, c.requires)) (c.put_word-token.ensures.value, c.put_word-token.ensures.output_after) (c.put_data-end.ensures.value, c.put_data-end.ensures.output_after) in let both = in_front out (ended (word ++ outcome))
    (then out 0 (word ++ outcome) (line_feed ∷ []) (omega (arith, c.requires, length-append word outcome, few)) both (c.put_mark.ensures.value, c.put_mark.ensures.output_after)) in
    record { value = both.0; output_after = both.1 }
