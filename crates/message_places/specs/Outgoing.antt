-- The message part on both sides of the boundary: what is owed and what is known of the sources are lent apart, and the rest is the outgoing side.
use Rattle.laws.specs.Usual.{List}
use Rattle.message.specs.declared.Confirmation.{Confirmation}
use Rattle.message_rules.specs.Rules.State.{Messages, Sources}
use Rattle.message_places.specs.declared.Outgoing.{Outgoing}

-- a message part's outgoing side
abbrev pub outgoing_of : Messages → Outgoing
outgoing_of messages = record {
  allowed = messages.allowed;
  version = messages.version;
  slot = messages.slot;
  given = record { one = messages.last_one_to_one; all = messages.last_to_all };
  went = record { now = messages.went_now; last = messages.went_last };
}

-- a message part of an outgoing side, what is owed, and what is known of the sources
abbrev pub messages_of : Outgoing → List Confirmation → Sources → Messages
messages_of outgoing owed sources = record {
  allowed = outgoing.allowed;
  version = outgoing.version;
  slot = outgoing.slot;
  last_one_to_one = outgoing.given.one;
  last_to_all = outgoing.given.all;
  went_now = outgoing.went.now;
  went_last = outgoing.went.last;
  owed = owed;
  sources = sources;
}
