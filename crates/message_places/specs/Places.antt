-- The outgoing side as C keeps it: eighteen numbers of 32 bits in the order of the header's `flnet_outgoing`, changed in place. Of a number that stands for
-- an octet, two octets or a flag only its low part counts, and what stands above that part is left as it is.
use Rattle.std.specs.Prelude.{◌∷◌}
use Rattle.laws.specs.Usual.{cond, List, [], ℕ, get_or, eqb, leb}
use Rattle.low_parts.specs.Parts.{octet, octets, flag, with_octet, with_octets, with_flag}
use Rattle.message.specs.Words.{mail_number}
use Rattle.message.specs.declared.Mail.{Mail}
use Rattle.message.specs.declared.Mail.TheVariants.{Nothing, Waiting, Unconfirmed, Confirmed, Sent, Failed}
use Rattle.message.specs.declared.Message.{Message}
use Rattle.message.specs.declared.Slot.{Slot}
use Rattle.message_rules.specs.Rules.State.{Messages, Sources}
use Rattle.message_places.specs.Outgoing.{messages_of}
use Rattle.message_places.specs.Owed.{owed_in}
use Rattle.message_places.specs.declared.Outgoing.{Outgoing}

-- What became of a message: "0 nothing, 1 waiting, 2 unconfirmed, 3 confirmed, 4 sent (to all), 5 failed"; any other number counts as nothing.
abbrev pub mail_at : ℕ → Mail
mail_at number =
    cond (eqb number (mail_number Waiting)) Waiting
    (cond (eqb number (mail_number Unconfirmed)) Unconfirmed
    (cond (eqb number (mail_number Confirmed)) Confirmed
    (cond (eqb number (mail_number Sent)) Sent
    (cond (eqb number (mail_number Failed)) Failed Nothing))))

abbrev pub mail_in : ℕ → ℕ
mail_in number = cond (leb (octet number) 5) (octet number) 0

-- what the numbers hold, in their order
abbrev pub message_in : List ℕ → Message
message_in numbers = record {
  destination = octet (get_or numbers 3 0);
  code = octets (get_or numbers 4 0);
  size = octets (get_or numbers 5 0);
  address = get_or numbers 6 0;
  result = octet (get_or numbers 7 0);
}

abbrev pub slot_in : List ℕ → Slot
slot_in numbers = record {
  mail = mail_at (mail_in (get_or numbers 2 0));
  message = message_in numbers;
  octets = octets (get_or numbers 8 0);
  number = get_or numbers 9 0;
  ticks = octets (get_or numbers 10 0);
  takings = octet (get_or numbers 11 0);
  asked = flag (get_or numbers 12 0);
  resends = octet (get_or numbers 13 0);
}

unfoldable pub outgoing_in : List ℕ → Outgoing
outgoing_in numbers = record {
  allowed = record { 0 = octets (get_or numbers 0 0) };
  version = get_or numbers 1 0;
  slot = slot_in numbers;
  given = record { one = get_or numbers 14 0; all = get_or numbers 15 0 };
  went = record { now = flag (get_or numbers 16 0); last = flag (get_or numbers 17 0) };
}

-- a number that stands for this already stays
abbrev pub with_mail : ℕ → Mail → ℕ
with_mail number mail = cond (eqb (mail_in number) (mail_number mail)) number (with_octet number (mail_number mail))

-- the numbers with another outgoing side in them
unfoldable pub kept_outgoing : List ℕ → Outgoing → List ℕ
kept_outgoing numbers outgoing =
    with_octets (get_or numbers 0 0) outgoing.allowed.0
    ∷ outgoing.version
    ∷ with_mail (get_or numbers 2 0) outgoing.slot.mail
    ∷ with_octet (get_or numbers 3 0) outgoing.slot.message.destination
    ∷ with_octets (get_or numbers 4 0) outgoing.slot.message.code
    ∷ with_octets (get_or numbers 5 0) outgoing.slot.message.size
    ∷ outgoing.slot.message.address
    ∷ with_octet (get_or numbers 7 0) outgoing.slot.message.result
    ∷ with_octets (get_or numbers 8 0) outgoing.slot.octets
    ∷ outgoing.slot.number
    ∷ with_octets (get_or numbers 10 0) outgoing.slot.ticks
    ∷ with_octet (get_or numbers 11 0) outgoing.slot.takings
    ∷ with_flag (get_or numbers 12 0) outgoing.slot.asked
    ∷ with_octet (get_or numbers 13 0) outgoing.slot.resends
    ∷ outgoing.given.one
    ∷ outgoing.given.all
    ∷ with_flag (get_or numbers 16 0) outgoing.went.now
    ∷ with_flag (get_or numbers 17 0) outgoing.went.last
    ∷ []

-- the message part in what C lends: the outgoing side, what is owed, and what is known of the sources,
abbrev pub messages_in : List ℕ → List ℕ → Sources → Messages
messages_in numbers owed sources = messages_of (outgoing_in numbers) (owed_in owed) sources

-- in three tables
abbrev pub messages_lent : List ℕ → List ℕ → List ℕ → List ℕ → List ℕ → Messages
messages_lent numbers owed versions one_to_one to_all = messages_in numbers owed (record { versions = versions; one_to_one = one_to_one; to_all = to_all })
