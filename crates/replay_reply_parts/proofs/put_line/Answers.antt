-- `replay_reply_parts::put_line` meets its contract.
use Rattle.std.specs.Prelude.{◌∷◌}
use Rattle.laws.specs.Usual.{[], arith, rules}
use Rattle.text.specs.Lines.{line_feed}
use Rattle.replay_reply_parts.specs.Lines.{ended}
use Rattle.replay_reply_parts.specs.Written.{then, in_front}
use Rattle.replay_reply_parts.proofs.put_line.Goals as goal
