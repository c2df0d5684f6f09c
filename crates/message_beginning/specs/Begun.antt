-- The message part as it begins: an outgoing side, nothing owed, and no source known.
use Rattle.std.specs.Prelude.{◌≡◌}
use Rattle.laws.specs.Usual.{sym, Bool, cond, List, [], ℕ, length, replicate}
use Rattle.message_owed.specs.Laws.{owed_same}
use Rattle.message_places.proofs.Laws.{outgoing_same}
use Rattle.message_places.specs.Outgoing.{outgoing_of, messages_of}
use Rattle.message_places.specs.Owed.{owed_in, kept_owed}
use Rattle.message_places.specs.Places.{outgoing_in, kept_outgoing, messages_lent}
use Rattle.message_places.specs.declared.Outgoing.{Outgoing}
use Rattle.message_rules.specs.Rules.State.{Messages, no_sources}

abbrev pub begun_where : Bool → Outgoing → Messages → Messages
begun_where begins begun messages = cond begins (messages_of begun [] no_sources) messages

-- a message part in arrays that is left alone
pub alone : (outgoing owed versions one_to_one to_all : List ℕ) → length outgoing ≡ 18 → length owed ≡ 25
    → (outgoing ≡ kept_outgoing outgoing (outgoing_of (messages_lent outgoing owed versions one_to_one to_all)))
    × (owed ≡ kept_owed owed (messages_lent outgoing owed versions one_to_one to_all).owed)
alone outgoing owed versions one_to_one to_all eighteen enough = (sym (outgoing_same outgoing eighteen), sym (owed_same owed enough))

-- one that begins
pub begun_in : (begun : Outgoing) (outgoing owed versions one_to_one to_all : List ℕ) → outgoing_in outgoing ≡ begun → owed_in owed ≡ []
    → versions ≡ replicate 256 0 → one_to_one ≡ replicate 256 0 → to_all ≡ replicate 256 0
    → messages_lent outgoing owed versions one_to_one to_all ≡ messages_of begun [] no_sources
begun_in begun outgoing owed versions one_to_one to_all o w v n t = rw (o, w, v, n, t)
