-- The rules of messages worked out at single numbers, before anything is proved of all: the cycle rule at its edges, the waits of a resend, how a message is
-- judged, what is then known and owed, and what handing one in answers. Assumes nothing.
use Rattle.std.specs.Prelude.{◌∷◌}
use Rattle.laws.specs.Usual.{[], Bool, List, ℕ, replicate}
use Rattle.message.specs.declared.Confirmation.{Confirmation}
use Rattle.message.specs.declared.Judged.TheVariants.{New}
use Rattle.message.specs.declared.Letter.{Letter}
use Rattle.message.specs.declared.Mail.{Mail}
use Rattle.message.specs.declared.Message.{Message}
use Rattle.message.specs.declared.Slot.{Slot}
use Rattle.message_rules.specs.Rules.Hearing.{confirmation_of}
use Rattle.message_rules.specs.Rules.Posting.{waiting}
use Rattle.message_rules.specs.Rules.State.{Known, Messages, no_message, begun, with_slot}
use Rattle.station.specs.Rules.State.{fresh, never}
use Rattle.station.specs.declared.Phase.TheVariants.{Listening}
use Rattle.station.specs.declared.Station.{Station}

-- a slot with so many ticks, takings and resends
abbrev pub slot_of : Mail → ℕ → ℕ → Bool → ℕ → Slot
slot_of mail ticks takings asked resends = record {
  mail = mail;
  message = no_message;
  octets = 0;
  number = 1;
  ticks = ticks;
  takings = takings;
  asked = asked;
  resends = resends;
}

-- a letter of station 7 to a destination, with a version and a number
abbrev pub letter_to : ℕ → ℕ → ℕ → Letter
letter_to destination version number = record {
  source = 7;
  version = version;
  number = number;
  message = record { destination = destination; code = 10000; size = 0; address = 0; result = 0 };
  octets = 0;
}

abbrev pub known : Known
known = record { version = 9; one_to_one = 4; to_all = 6 }

-- eight are owed, and the same one not twice; a ninth would be too many
abbrev pub one_of : ℕ → Confirmation
one_of number = confirmation_of New (letter_to 3 9 number)

abbrev pub eight : List Confirmation
eight = one_of 1 ∷ one_of 2 ∷ one_of 3 ∷ one_of 4 ∷ one_of 5 ∷ one_of 6 ∷ one_of 7 ∷ one_of 8 ∷ []

-- 11, then 12, then 13, then "off"
abbrev pub listening : Station
listening = fresh Listening (record { number = 3; areas = never.own.areas; watch = record { 0 = 1 } })

abbrev pub open_slot : Messages
open_slot = with_slot (begun (record { cycle = record { 0 = 100 }; version = 1 })) (waiting (letter_to 255 0 0).message 0)

abbrev pub bad : Message
bad = record { destination = 255; code = 65000; size = 0; address = 0; result = 0 }

abbrev pub buffer : List ℕ
buffer = replicate 1024 0
