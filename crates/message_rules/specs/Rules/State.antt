-- The message part of a station (E2 of paper 02, clause 9.3.3 of JEM 1479): what it holds, and how it begins.
use Rattle.laws.specs.Usual.{[], Bool, true, false, List, ℕ, max, get_or, set, replicate}
use Rattle.message.specs.declared.Allowance.{Allowance}
use Rattle.message.specs.declared.Cycle.{Cycle}
use Rattle.message.specs.declared.Confirmation.{Confirmation}
use Rattle.message.specs.declared.Mail.TheVariants.{Nothing}
use Rattle.message.specs.declared.Message.{Message}
use Rattle.message.specs.declared.Slot.{Slot}

-- the slot: the message that waits to go or to be confirmed, or what became of the last one. (E9 of paper 02 has eight of them.)
abbrev pub no_message : Message
no_message = record { destination = 0; code = 0; size = 0; address = 0; result = 0 }

abbrev pub empty_slot : Slot
empty_slot = record {
  mail = Nothing;
  message = no_message;
  octets = 0;
  number = 0;
  ticks = 0;
  takings = 0;
  asked = false;
  resends = 0;
}

-- What we know of a source (9.3.3 e 2): the version of its numbers, and the last one-to-one and the last to-all number; 0 is none yet.
pub record Known : Type 0 where
  pub version : ℕ
  pub one_to_one : ℕ
  pub to_all : ℕ

-- of every source, in three tables of numbers, each with a place for every octet
pub record Sources : Type 0 where
  pub versions : List ℕ
  pub one_to_one : List ℕ
  pub to_all : List ℕ

abbrev pub no_sources : Sources
no_sources = record { versions = replicate 256 0; one_to_one = replicate 256 0; to_all = replicate 256 0 }

abbrev pub known_of : Sources → ℕ → Known
known_of sources source = record {
  version = get_or sources.versions source 0;
  one_to_one = get_or sources.one_to_one source 0;
  to_all = get_or sources.to_all source 0;
}

abbrev pub with_known : Sources → ℕ → Known → Sources
with_known sources source known = record {
  versions = set sources.versions source known.version;
  one_to_one = set sources.one_to_one source known.one_to_one;
  to_all = set sources.to_all source known.to_all;
}

pub record Messages : Type 0 where
  -- the allowed cycle, and the version of our numbers
  pub allowed : Cycle
  pub version : ℕ
  pub slot : Slot
  -- the one-to-one number and the to-all number last given; 0 is none
  pub last_one_to_one : ℕ
  pub last_to_all : ℕ
  -- whether a message went this turn, and last turn
  pub went_now : Bool
  pub went_last : Bool
  -- the confirmations owed, oldest first
  pub owed : List Confirmation
  pub sources : Sources

-- nothing of messages: an off station's
abbrev pub no_messages : Messages
no_messages = record {
  allowed = record { 0 = 0 };
  version = 0;
  slot = empty_slot;
  last_one_to_one = 0;
  last_to_all = 0;
  went_now = false;
  went_last = false;
  owed = [];
  sources = no_sources;
}

-- A start begins with all of it empty. The version comes from the host, which has time or chance to make it from (9.3.3 e 1); 0 is none yet to those
-- who hear us, so it is taken as 1.
abbrev pub begun : Allowance → Messages
begun allowance = record {
  allowed = allowance.cycle;
  version = max 1 allowance.version;
  slot = empty_slot;
  last_one_to_one = 0;
  last_to_all = 0;
  went_now = false;
  went_last = false;
  owed = [];
  sources = no_sources;
}

-- a message part with some of its parts changed. Whatever makes one of another goes by these, so that each part is named here once.

abbrev pub with_slot : Messages → Slot → Messages
with_slot messages slot = record {
  allowed = messages.allowed;
  version = messages.version;
  slot = slot;
  last_one_to_one = messages.last_one_to_one;
  last_to_all = messages.last_to_all;
  went_now = messages.went_now;
  went_last = messages.went_last;
  owed = messages.owed;
  sources = messages.sources;
}

-- a message has gone in this turn: its slot, and the numbers last given
abbrev pub with_gone : Messages → Slot → ℕ → ℕ → Messages
with_gone messages slot one_to_one to_all = record {
  allowed = messages.allowed;
  version = messages.version;
  slot = slot;
  last_one_to_one = one_to_one;
  last_to_all = to_all;
  went_now = true;
  went_last = messages.went_last;
  owed = messages.owed;
  sources = messages.sources;
}

-- A turn begins: the one that was this turn is now the last, and nothing has gone in the new one.
abbrev pub with_turn : Messages → Slot → Messages
with_turn messages slot = record {
  allowed = messages.allowed;
  version = messages.version;
  slot = slot;
  last_one_to_one = messages.last_one_to_one;
  last_to_all = messages.last_to_all;
  went_now = false;
  went_last = messages.went_now;
  owed = messages.owed;
  sources = messages.sources;
}

-- a message was heard: what is owed, and what we know of the sources
abbrev pub with_heard : Messages → List Confirmation → Sources → Messages
with_heard messages owed sources = record {
  allowed = messages.allowed;
  version = messages.version;
  slot = messages.slot;
  last_one_to_one = messages.last_one_to_one;
  last_to_all = messages.last_to_all;
  went_now = messages.went_now;
  went_last = messages.went_last;
  owed = owed;
  sources = sources;
}
