-- Clause 10.2 of JEM 1479: confirmations owed and carried, and a confirmation of ours that a frame brings.
use Rattle.std.specs.Prelude.{◌&&◌, ◌∷◌, ◌++◌, ◌+◌}
use Rattle.laws.specs.Usual.{[], Bool, true, false, cond, List, ℕ, length, take, drop, eqb, leb, ltb}
use Rattle.frame.specs.Octets.{octet_at}
use Rattle.frame.specs.Positions.{SNA}
use Rattle.message.specs.declared.Confirmation.{Confirmation}
use Rattle.message_frames.specs.Confirmations.{carrying, confirms, confirmation_in}
use Rattle.message_frames.specs.Places.{confirmation_length}
use Rattle.station.specs.Rules.State.{is_participating}
use Rattle.station.specs.declared.Heard.{Heard}
use Rattle.station.specs.declared.Station.{Station}
use Rattle.message_rules.specs.Rules.Again.{is_unconfirmed, slot_answered}
use Rattle.message_rules.specs.Rules.State.{Messages, with_slot}
use Rattle.station.specs.declared.Heard.TheVariants as heard

-- as many confirmations as one cyclic transmission may carry (10.2)
abbrev pub owed_most : ℕ
owed_most = 8

abbrev pub same_confirmation : Confirmation → Confirmation → Bool
same_confirmation a b =
    (eqb a.status b.status && eqb a.source b.source)
    && (eqb a.code b.code && (eqb a.version b.version && eqb a.number b.number))

abbrev pub is_owed : Confirmation → List Confirmation → Bool
is_owed confirmation [] = false
is_owed confirmation (other ∷ rest) = cond (same_confirmation confirmation other) true (is_owed confirmation rest)

-- one more, behind the others; the same one is not owed twice
abbrev pub owing : Confirmation → List Confirmation → List Confirmation
owing confirmation owed = cond (is_owed confirmation owed) owed (owed ++ (confirmation ∷ []))

-- it would be the ninth
abbrev pub is_full : Confirmation → List Confirmation → Bool
is_full confirmation owed = ltb owed_most (length (owing confirmation owed))

-- What an asking has written, with the oldest confirmation owed put in, and what is then still owed. `count` octets of the frame stand in front in the
-- output; 20 more must fit.
pub record Carried : Type 0 where
  pub owed : List Confirmation
  pub count : ℕ
  pub output : List ℕ

abbrev pub with_confirmation : Confirmation → List Confirmation → ℕ → List ℕ → Carried
with_confirmation confirmation rest count output = record {
  owed = rest;
  count = count + confirmation_length;
  output = carrying confirmation (take count output) ++ drop (count + confirmation_length) output;
}

abbrev pub carried_in : List Confirmation → ℕ → List ℕ → Carried
carried_in [] count output = record { owed = []; count = count; output = output }
carried_in (confirmation ∷ rest) count output =
    cond (leb (count + confirmation_length) (length output))
    (with_confirmation confirmation rest count output)
    (record { owed = confirmation ∷ rest; count = count; output = output })

-- A confirmation speaks of our unconfirmed message whose destination is the frame's source, with its code and number, where it names us and our version.
abbrev pub speaks_of : ℕ → Messages → ℕ → Confirmation → Bool
speaks_of own messages source confirmation =
    (is_unconfirmed messages.slot.mail && eqb messages.slot.message.destination source)
    && ((eqb messages.slot.message.code confirmation.code && eqb messages.slot.number confirmation.number)
    && (eqb own confirmation.source && eqb messages.version confirmation.version))

abbrev pub confirmed : ℕ → Messages → ℕ → Confirmation → Messages
confirmed own messages source confirmation =
    cond (speaks_of own messages source confirmation)
    (with_slot messages (slot_answered messages.slot confirmation.status))
    messages

abbrev pub is_cyclic_answer : Heard → Bool
is_cyclic_answer heard.Off = false
is_cyclic_answer heard.Done = false
is_cyclic_answer (heard.Cyclic token) = true
is_cyclic_answer (heard.Refused refusal) = false

-- a cyclic frame that a participant hears and does not refuse, with the answer that it got
abbrev pub after_frame : Station → Messages → List ℕ → Heard → Messages
after_frame station messages octets answer =
    cond (is_participating station.phase && (is_cyclic_answer answer && confirms octets))
    (confirmed station.own.number messages (octet_at octets SNA) (confirmation_in octets))
    messages
