-- The words of each answer about messages that is an enum, as numbers.
use Rattle.std.specs.Prelude.{ℕ}
use Rattle.message.specs.declared.Judged.{Judged}
use Rattle.message.specs.declared.Judged.TheVariants.{Abnormal, OtherVersion, Repeat, New}
use Rattle.message.specs.declared.Mail.{Mail}
use Rattle.message.specs.declared.Mail.TheVariants.{Nothing, Waiting, Unconfirmed, Confirmed, Sent, Failed}

-- what became of a message, as `mail` shows it
abbrev pub mail_number : Mail → ℕ
mail_number Nothing = 0
mail_number Waiting = 1
mail_number Unconfirmed = 2
mail_number Confirmed = 3
mail_number Sent = 4
mail_number Failed = 5

-- R_STS (10.2 of JEM 1479): 1 where it arrived, 5 for another version, 6 for an abnormal format. 2 and 3 are never written: the answer of a hearing hands
-- a message over, so nothing can be full.
abbrev pub status_of : Judged → ℕ
status_of Abnormal = 6
status_of OtherVersion = 5
status_of Repeat = 1
status_of New = 1
