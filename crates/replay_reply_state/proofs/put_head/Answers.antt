-- `replay_reply_state::put_head` meets its contract.
use Rattle.std.specs.Prelude.{◌∷◌, ◌++◌}
use Rattle.laws.specs.Usual.{arith}
use lib.ListN.{length-append}
use Rattle.text.specs.Decimal.{decimal_of}
use Rattle.text.specs.Digits.{at_most}
use Rattle.replay_reply_state.specs.Room.{phase_length}
use Rattle.text.specs.Lines.{space}
use Rattle.replay_reply_state.specs.State.{phase_word, head_text}
use Rattle.replay_reply_parts.specs.Written.{Written, then}
use Rattle.replay_reply_state.proofs.put_head.Goals as goal

pub put_number-named-requires : goal.put_number-named-requires
put_number-named-requires c = omega (arith, c.requires, phase_length c.args.phase, c.put_phase-word.ensures.value, c.put_phase-word.auto.output)

pub put_number-requires : goal.put_number-requires
put_number-requires c =
    omega (
      arith,
      c.requires,
      phase_length c.args.phase,
      at_most 10 c.args.number,
      c.put_phase-word.ensures.value,
      c.put_phase-word.auto.output,
      c.put_number-named.ensures.value,
      c.put_number-named.auto.output,
    )

pub returns : goal.returns
returns c =
    let a = c.args in
    let out = a.output.now in
    let shown = c.view_shown-shown in
    let word = phase_word a.phase in
    let named = space ∷ decimal_of a.number in
    let few = phase_length a.phase in
    let both = then out a.at word named (omega (arith, c.requires, few)) (c.put_phase-word.ensures.value, c.put_phase-word.ensures.output_after) (c.put_number-named.ensures.value, c.put_number-named.ensures.output_after) in
    let done = then out a.at (word ++ named) (space ∷ decimal_of shown.result) (omega (arith, c.requires, few, length-append word named, at_most 10 a.number)) both (c.put_number.ensures.value, c.put_number.ensures.output_after) in
    let few_shown = at_most 10 shown.result in
    let whole : Written out a.at (head_text a.phase a.number a.view) c.put_number.new.output c.put_number.result = rw (← shown.ensures) done in
    record {
      upper_bound = omega (arith, done.0, few, at_most 10 a.number, few_shown, length-append word named, length-append (word ++ named) (space ∷ decimal_of shown.result));
      value = whole.0;
      output_after = whole.1;
    }
