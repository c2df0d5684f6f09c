-- `replay_reply_state::put_listed` meets its contract.
use Rattle.std.specs.Prelude.{◌∷◌, ◌++◌}
use Rattle.laws.specs.Usual.{arith}
use lib.ListN.{length-append}
use Rattle.text.specs.Decimal.{decimal_of}
use Rattle.text.specs.Digits.{at_most}
use Rattle.text.specs.Lines.{space, comma}
use Rattle.replay_reply_state.specs.State.{colon, pair_text}
use Rattle.replay_reply_state.specs.Room.{pair_length}
use Rattle.replay_reply_parts.specs.Written.{then}
use Rattle.replay_reply_state.proofs.put_listed.Goals as goal

pub put_pair-first-requires : goal.put_pair-first-requires
put_pair-first-requires c = omega (arith, c.requires, at_most 10 c.args.number, c.put_number-listed.ensures.value, c.put_number-listed.auto.output)

pub put_pair-second-requires : goal.put_pair-second-requires
put_pair-second-requires c =
    omega (
      arith,
      c.requires,
      at_most 10 c.args.number,
      c.put_number-listed.ensures.value,
      c.put_number-listed.auto.output,
      c.put_pair-first.ensures.upper_bound,
      c.put_pair-first.auto.output,
    )

pub put_pair-requires : goal.put_pair-requires
put_pair-requires c =
    omega (
      arith,
      c.requires,
      at_most 10 c.args.number,
      c.put_number-listed.ensures.value,
      c.put_number-listed.auto.output,
      c.put_pair-first.ensures.upper_bound,
      c.put_pair-first.auto.output,
      c.put_pair-second.ensures.upper_bound,
      c.put_pair-second.auto.output,
    )

pub returns : goal.returns
returns c =
    let a = c.args in
    let e = a.entry in
    let out = a.output.now in
    let name = space ∷ decimal_of a.number in
    let one = pair_text colon e.areas.one.address e.areas.one.size in
    let two = pair_text comma e.areas.two.address e.areas.two.size in
    let rest = pair_text comma e.watch.0 e.misses in
    let long = at_most 10 a.number in
    let long_one = pair_length colon e.areas.one.address e.areas.one.size in
    let long_two = pair_length comma e.areas.two.address e.areas.two.size in
    let first = then out a.at name one (omega (arith, c.requires, long)) (c.put_number-listed.ensures.value, c.put_number-listed.ensures.output_after) (c.put_pair-first.ensures.value, c.put_pair-first.ensures.output_after) in
    let second = then out a.at (name ++ one) two (omega (arith, c.requires, long, long_one, length-append name one)) first (c.put_pair-second.ensures.value, c.put_pair-second.ensures.output_after) in let both = then out a.at ((name ++ one) ++ two) rest (omega (arith, c.requires, long, long_one, long_two, length-append name one, length-append (name ++ one) two)) second (c.put_pair.ensures.value, c.put_pair.ensures.output_after) in
    record { value = both.0; output_after = both.1 }
