-- `replay_reply_words::put_refused` meets its contract.
use Rattle.std.specs.Prelude.{◌∷◌, ◌++◌}
use Rattle.laws.specs.Usual.{[], arith, rules}
use Rattle.text.specs.Decimal.{decimal_of}
use Rattle.text.specs.Digits.{at_most}
use Rattle.text.specs.Lines.{space, line_feed}
use Rattle.replay_reply_parts.specs.Lines.{ended}
use Rattle.replay_reply_words.specs.Words.{refused_word}
use Rattle.replay_reply_parts.specs.Written.{then, in_front}
use Rattle.replay_reply_words.proofs.put_refused.Goals as goal

pub put_mark-requires : goal.put_mark-requires
put_mark-requires c = omega (arith, c.requires, at_most 10 c.number_of.result, c.put_number-end.ensures.value, c.put_number-end.auto.output, c.put_word-word.ensures.value, c.put_word-word.auto.output)

pub returns-clause-value : goal.returns-clause-value
returns-clause-value c =
    let out = c.args.output.now in
    let number = c.number_of in
    let named = space ∷ decimal_of number.result in
    let both = then out 0 refused_word named (omega (arith, c.requires)) (c.put_word-word.ensures.value, c.put_word-word.ensures.output_after) (c.put_number-end.ensures.value, c.put_number-end.ensures.output_after) in
    let line = then out 0 (refused_word ++ named) (line_feed ∷ []) (omega (arith, c.requires, at_most 10 number.result)) both (c.put_mark.ensures.value, c.put_mark.ensures.output_after) in
    rw (← number.ensures) (in_front out (ended (refused_word ++ named)) line).0

pub returns-clause-output_after : goal.returns-clause-output_after
returns-clause-output_after c =
    let out = c.args.output.now in
    let number = c.number_of in
    let named = space ∷ decimal_of number.result in
    let both = then out 0 refused_word named (omega (arith, c.requires)) (c.put_word-word.ensures.value, c.put_word-word.ensures.output_after) (c.put_number-end.ensures.value, c.put_number-end.ensures.output_after) in
    let line = then out 0 (refused_word ++ named) (line_feed ∷ []) (omega (arith, c.requires, at_most 10 number.result)) both (c.put_mark.ensures.value, c.put_mark.ensures.output_after) in
    rw (← number.ensures) (in_front out (ended (refused_word ++ named)) line).1
