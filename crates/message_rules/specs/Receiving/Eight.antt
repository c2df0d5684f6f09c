-- Up to eight confirmations are owed, in every state that calls can leave. Assumes nothing.
use Rattle.std.specs.Prelude.{◌≤◌}
use Rattle.laws.specs.Usual.{length}
use Rattle.message_rules.specs.Rules.State.{Messages}

abbrev pub Few : Messages → Type 0
Few messages = length messages.owed ≤ 8
