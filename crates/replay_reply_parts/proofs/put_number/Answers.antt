-- `replay_reply_parts::put_number` meets its contract.
use Rattle.std.specs.Prelude.{◌∷◌}
use Rattle.laws.specs.Usual.{[], arith, rules}
use Rattle.text.specs.Decimal.{decimal_of}
use Rattle.replay_reply_parts.specs.Written.{then}
use Rattle.replay_reply_parts.proofs.put_number.Goals as goal
