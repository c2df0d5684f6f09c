-- `replay_reply_state::put_pair` meets its contract.
use Rattle.std.specs.Prelude.{◌∷◌}
use Rattle.laws.specs.Usual.{arith}
use Rattle.text.specs.Decimal.{decimal_of}
use Rattle.text.specs.Digits.{at_most}
use Rattle.text.specs.Lines.{comma}
use Rattle.replay_reply_state.specs.Room.{pair_length}
use Rattle.replay_reply_parts.specs.Written.{then}
use Rattle.replay_reply_state.proofs.put_pair.Goals as goal

pub put_number-requires : goal.put_number-requires
put_number-requires c = omega (arith, c.requires, at_most 10 c.args.first, c.put_number-next.ensures.value, c.put_number-next.auto.output)

pub returns : goal.returns
returns c =
    let a = c.args in
    let done = then a.output.now a.at (a.mark ∷ decimal_of a.first) (comma ∷ decimal_of a.second) (omega (arith, c.requires, at_most 10 a.first)) (c.put_number-next.ensures.value, c.put_number-next.ensures.output_after) (c.put_number.ensures.value, c.put_number.ensures.output_after) in
    record { upper_bound = omega (arith, done.0, pair_length a.mark a.first a.second); value = done.0; output_after = done.1 }
