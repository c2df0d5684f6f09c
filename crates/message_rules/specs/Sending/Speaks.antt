-- Which message a confirmation speaks of, one condition a field. Assumes nothing.
use Rattle.std.specs.Prelude.{◌≡◌}
use Rattle.laws.specs.Usual.{ℕ}
use Rattle.message.specs.declared.Confirmation.{Confirmation}
use Rattle.message.specs.declared.Mail.TheVariants.{Unconfirmed}
use Rattle.message_rules.specs.Rules.State.{Messages}

-- it speaks of the unconfirmed message whose destination is the frame's source, with its code and number, where R_NA is ours and R_VSEQ our version
pub record Speaks (own : ℕ) (messages : Messages) (source : ℕ) (confirmation : Confirmation) : Type 0 where
  pub unconfirmed : messages.slot.mail ≡ Unconfirmed
  pub destination : messages.slot.message.destination ≡ source
  pub code : messages.slot.message.code ≡ confirmation.code
  pub number : messages.slot.number ≡ confirmation.number
  pub ours : own ≡ confirmation.source
  pub version : messages.version ≡ confirmation.version
