-- Every frame asked for is accepted by whoever knows its sender and its destination. Assumes nothing.
use Rattle.std.specs.Prelude.{◌≡◌}
use Rattle.laws.specs.Usual.{true}
use Rattle.frame.specs.Codes.{is_token, is_cyclic}
use Rattle.station.specs.Rules.Hearing.{knows}
use Rattle.station.specs.Types.{Fields, Participating, Station}

-- a participant that lists the sender, and lists the destination or is it, and is not the sender. A request or a trigger may come from a
-- station that is not listed yet, and goes to 255: there only `other` is asked.
pub record Listens (listener : Station) (frame : Fields) : Type 0 where
  pub participates : listener.phase ≡ Participating
  pub other : ¬ (frame.source ≡ listener.own.number)
  pub source : is_cyclic frame.code ≡ true → knows listener frame.source ≡ true
  pub destination : is_token frame.code ≡ true → knows listener frame.destination ≡ true
