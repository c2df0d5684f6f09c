use Rattle.std.specs.Prelude.{◌≡◌}
use Rattle.laws.specs.Usual.{length, take}
use Rattle.replay_reply_parts.specs.Hex.{hex_of}
use Rattle.replay_reply_parts.specs.Written.{Written}
use Rattle.replay_reply_octets.proofs.put_hex.Given as goal

abbrev pub invariant-loop-octet : goal.invariant-loop-octet
invariant-loop-octet l =
    Written l.initial.output l.at (hex_of (take l.octet-index l.octets)) l.output l.end
    × (length l.output ≡ length l.initial.output)
