-- The buffers: what a call on both leaves of the common memory, the assembly buffer and the turn buffer is what the call of the base leaves. Assumes nothing.
use Rattle.std.specs.Prelude.{◌≡◌}
use Rattle.laws.specs.Usual.{List, ℕ}
use Rattle.message_rules.specs.Rules.Calls.{Both, hear_of}
use Rattle.station.specs.Rules.Hearing as base

-- and leaves the buffers, as the base does.
pub record SameBuffers (both : Both) (octets memory assembly : List ℕ) : Type 0 where
  pub memory_same : (hear_of both octets memory assembly).memory ≡ (base.hear_of both.ring octets memory assembly).memory
  pub assembly_same : (hear_of both octets memory assembly).assembly ≡ (base.hear_of both.ring octets memory assembly).assembly
