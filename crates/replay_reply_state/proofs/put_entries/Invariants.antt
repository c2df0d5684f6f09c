use Rattle.std.specs.Prelude.{◌≡◌}
use Rattle.laws.specs.Usual.{length, take}
use Rattle.replay_reply_state.specs.State.{entries_from}
use Rattle.replay_reply_parts.specs.Written.{Written}
use Rattle.replay_reply_state.proofs.put_entries.Given as goal

abbrev pub invariant-loop-number : goal.invariant-loop-number
invariant-loop-number l =
    Written l.initial.output l.at (entries_from 0 (take l.number l.fn.members.entries)) l.output l.end
    × (length l.output ≡ length l.initial.output)
