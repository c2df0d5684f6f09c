-- Which message a confirmation speaks of, one condition a field. Assumes nothing.
use Rattle.std.specs.Prelude.{◌≡◌, ◌&&◌}
use Rattle.laws.specs.Usual.{true, ℕ, eqb}
use Rattle.std.proofs.Common.{eqb-true}
use Rattle.laws.specs.Tests.{first, second}
use Rattle.message.specs.declared.Confirmation.{Confirmation}
use Rattle.message_rules.specs.Rules.Again.{is_unconfirmed}
use Rattle.message_rules.specs.Rules.Confirming.{speaks_of}
use Rattle.message_rules.specs.Rules.State.{Messages}
use Rattle.message_rules.proofs.Sending.Slots.{is_unconfirmed_lem}
use Rattle.message_rules.specs.Sending.Speaks.{Speaks}

pub speaks : (own : ℕ) (messages : Messages) (source : ℕ) (confirmation : Confirmation) → speaks_of own messages source confirmation ≡ true
    → Speaks own messages source confirmation
speaks own messages source confirmation e =
    let one = first (is_unconfirmed messages.slot.mail && eqb messages.slot.message.destination source) _ e in
    let rest = second (is_unconfirmed messages.slot.mail && eqb messages.slot.message.destination source) _ e in
    let two = first (eqb messages.slot.message.code confirmation.code && eqb messages.slot.number confirmation.number) _ rest in
    let three = second (eqb messages.slot.message.code confirmation.code && eqb messages.slot.number confirmation.number) _ rest in
    record {
      unconfirmed = is_unconfirmed_lem messages.slot.mail (first (is_unconfirmed messages.slot.mail) _ one);
      destination = eqb-true _ _ (second (is_unconfirmed messages.slot.mail) _ one);
      code = eqb-true _ _ (first (eqb messages.slot.message.code confirmation.code) _ two);
      number = eqb-true _ _ (second (eqb messages.slot.message.code confirmation.code) _ two);
      ours = eqb-true _ _ (first (eqb own confirmation.source) _ three);
      version = eqb-true _ _ (second (eqb own confirmation.source) _ three);
    }
