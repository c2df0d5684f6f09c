-- `replay_reply_state::put_state` meets its contract.
use Rattle.std.specs.Prelude.{◌∷◌, ◌++◌, ◌+◌, ◌≤◌}
use Rattle.laws.specs.Usual.{[], arith, length}
use lib.ListN.{length-append}
use Rattle.text.specs.Lines.{line_feed}
use Rattle.replay_reply_parts.specs.Lines.{ended}
use Rattle.replay_reply_state.specs.State.{head_text, entries_from, state_text}
use Rattle.replay_reply_parts.specs.Written.{then, in_front}
use Rattle.replay_reply_state.proofs.put_state.Goals as goal

pub put_entries-end-requires : goal.put_entries-end-requires
put_entries-end-requires c =
    omega (arith, c.requires, c.put_head-head.ensures.upper_bound, c.put_head-head.auto.output)

pub put_mark-requires : goal.put_mark-requires
put_mark-requires c =
    omega (
      arith,
      c.requires,
      c.put_head-head.ensures.upper_bound,
      c.put_head-head.auto.output,
      c.put_entries-end.ensures.upper_bound,
      c.put_entries-end.auto.output,
    )

pub returns : goal.returns
unfolding state_text
returns c =
    let out = c.args.output.now in
    let s = c.args.station in
    let head = head_text s.phase s.own.number s.view in
    let entries = entries_from 0 s.members.entries in
    let done = c.put_entries-end.ensures in
    let wrote = c.put_head-head.ensures in
    let room : 0 + length (head ++ entries) ≤ length out = omega (arith, c.requires, wrote.upper_bound, wrote.value, length-append head entries, done.upper_bound, done.value) in
    let both = then out 0 head entries (omega (arith, c.requires, wrote.upper_bound, wrote.value)) (wrote.value, wrote.output_after) (done.value, done.output_after) in let both = in_front out (ended (head ++ entries)) (then out 0 (head ++ entries) (line_feed ∷ []) room both (c.put_mark.ensures.value, c.put_mark.ensures.output_after)) in
    record { value = both.0; output_after = both.1 }
