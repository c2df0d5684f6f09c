-- The test of `speaks_of` by our version and the slot alone: the rest of a message part does not matter to it.
use Rattle.std.specs.Prelude.{◌≡◌, ◌&&◌}
use Rattle.laws.specs.Usual.{refl, Bool, ℕ, eqb}
use Rattle.message.specs.declared.Confirmation.{Confirmation}
use Rattle.message.specs.declared.Slot.{Slot}
use Rattle.message_rules.specs.Rules.Again.{is_unconfirmed}
use Rattle.message_rules.specs.Rules.Confirming.{speaks_of}
use Rattle.message_rules.specs.Rules.State.{Messages}

abbrev pub speaks_by : ℕ → ℕ → Slot → ℕ → Confirmation → Bool
speaks_by own version slot source confirmation =
    (is_unconfirmed slot.mail && eqb slot.message.destination source)
    && ((eqb slot.message.code confirmation.code && eqb slot.number confirmation.number)
    && (eqb own confirmation.source && eqb version confirmation.version))

pub same_test : (own : ℕ) (messages : Messages) (source : ℕ) (confirmation : Confirmation)
    → speaks_of own messages source confirmation ≡ speaks_by own messages.version messages.slot source confirmation
same_test own messages source confirmation = refl
