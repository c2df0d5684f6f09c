-- What is put into the numbers of the outgoing side is what a rule makes of it, whatever is owed and known; and numbers left alone, where the rule changes
-- nothing. Assumes nothing.
use Rattle.std.specs.Prelude.{◌≡◌, ◌+◌}
use Rattle.laws.specs.Usual.{refl, sym, ap, ◌∙◌, Bool, false, cond, List, ℕ, min, length}
use Rattle.message.specs.declared.Confirmation.{Confirmation}
use Rattle.message.specs.declared.Mail.TheVariants.{Unconfirmed}
use Rattle.message.specs.declared.Slot.{Slot}
use Rattle.message_places.proofs.Laws.{outgoing_same}
use Rattle.message_places.specs.Outgoing.{outgoing_of, messages_of}
use Rattle.message_places.specs.Places.{outgoing_in, kept_outgoing}
use Rattle.message_places.specs.declared.Outgoing.{Outgoing}
use Rattle.message_rules.specs.Rules.Again.{is_unconfirmed, confirmation_wait, slot_with, or_failed, ticked}
use Rattle.message_rules.specs.Rules.State.{Messages, Sources, with_slot}

module _ (rule : Messages → Messages) (before after : List ℕ) where
  abbrev pub Makes : Type 0
  Makes =
      ((owed : List Confirmation) (sources : Sources)
      → messages_of (outgoing_in after) owed sources ≡ rule (messages_of (outgoing_in before) owed sources))
      × ((owed : List Confirmation) (sources : Sources)
      → after ≡ kept_outgoing before (outgoing_of (rule (messages_of (outgoing_in before) owed sources))))

  pub makes : (outgoing : Outgoing)
      → ((owed : List Confirmation) (sources : Sources) → messages_of outgoing owed sources ≡ rule (messages_of (outgoing_in before) owed sources))
      → after ≡ kept_outgoing before outgoing → outgoing_in after ≡ outgoing → Makes
  makes outgoing is put holds = (
    λ owed sources. ap (λ (o : Outgoing). messages_of o owed sources) holds ∙ is owed sources,
    λ owed sources. put ∙ ap (λ (m : Messages). kept_outgoing before (outgoing_of m)) (is owed sources),
  )

-- numbers that were left alone
pub left : (rule : Messages → Messages) (numbers : List ℕ) → length numbers ≡ 18
    → ((owed : List Confirmation) (sources : Sources)
    → messages_of (outgoing_in numbers) owed sources ≡ rule (messages_of (outgoing_in numbers) owed sources)) → Makes rule numbers numbers
left rule numbers all is = makes rule numbers numbers (outgoing_in numbers) is (sym (outgoing_same numbers all)) refl

-- a tick changes nothing where no message is unconfirmed
pub untouched : (messages : Messages) → is_unconfirmed messages.slot.mail ≡ false → messages ≡ ticked messages
untouched messages none = ap (λ (t : Bool). with_slot messages (cond t (or_failed counted) messages.slot)) (sym none)
  where
    counted : Slot
    counted = slot_with messages.slot Unconfirmed (min confirmation_wait (messages.slot.ticks + 1)) messages.slot.takings messages.slot.asked
