-- What an asking writes where no message goes: the base's frame, or the base's frame with a confirmation put in. To whoever hears it, it is the base's frame.
-- Assumes nothing.
use Rattle.laws.specs.Usual.{List, ℕ}
use Rattle.message.specs.declared.Confirmation.{Confirmation}
use Rattle.message_frames.specs.Confirmations.{carrying}

-- octets that are those of a frame, or those with a confirmation put in
pub data Wrote (s : List ℕ) : List ℕ → Type 0 where
  alone : Wrote s s
  carries : (confirmation : Confirmation) → Wrote s (carrying confirmation s)
