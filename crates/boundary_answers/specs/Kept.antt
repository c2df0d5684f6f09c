-- The numbers lose nothing: each answer can be told from its numbers.
use Rattle.std.specs.Prelude.{Ok, Err, ◌≡◌}
use Rattle.laws.specs.Usual.{refl, ap, cond, ℕ, eqb}
use Rattle.frame_refusals.specs.Refusals.{number_of}
use Rattle.frame.specs.declared.Refusal.TheVariants.{Cut, Mark, Length, Code, Address, Taken, Area, Block, Stranger, NotDue, Buffer, Message, Waiting, Total, Number}
use Rattle.station.specs.Rules.Answers.{data_number, token_number, data_of}
use Rattle.frame.specs.declared.Refusal.{Refusal}
use Rattle.station.specs.declared.Data.{Data}
use Rattle.station.specs.declared.Data.TheVariants.{Kept, Written, Dropped, Repeat}
use Rattle.station.specs.declared.Token.{Token}
use Rattle.station.specs.Types.{Switched}
use Rattle.station.specs.declared.Ticked.{Ticked}
use Rattle.station.specs.declared.Heard.{Heard}
use Rattle.station.specs.Types.{Asked}
use Rattle.station.specs.declared.Token.TheVariants.{None, PassedOn, OursNow, RivalPassedOver, RivalWon}
use Rattle.boundary_answers.specs.Numbers.{switched_answer, ticked_answer, heard_answer, asked_answer}
use Rattle.boundary_answers.specs.declared.Answer.{Answer}
use Rattle.station.specs.declared.Heard.TheVariants as heard
use Rattle.station.specs.declared.Ticked.TheVariants as ticked

-- the case of each number
abbrev refusal_of : ℕ → Refusal
refusal_of number =
    cond (eqb number 1) Cut (cond (eqb number 2) Mark (cond (eqb number 3) Length (cond (eqb number 4) Code (cond (eqb number 5) Address (cond (eqb number 6) Taken (cond (eqb number 7) Area (cond (eqb number 8) Block (cond (eqb number 9) Stranger (cond (eqb number 10) NotDue (cond (eqb number 11) Buffer (cond (eqb number 12) Message (cond (eqb number 13) Waiting (cond (eqb number 14) Total Number)))))))))))))

refusal_kept : (refusal : Refusal) → refusal_of (number_of refusal) ≡ refusal
refusal_kept Cut = refl
refusal_kept Mark = refl
refusal_kept Length = refl
refusal_kept Code = refl
refusal_kept Address = refl
refusal_kept Taken = refl
refusal_kept Area = refl
refusal_kept Block = refl
refusal_kept Stranger = refl
refusal_kept NotDue = refl
refusal_kept Buffer = refl
refusal_kept Message = refl
refusal_kept Waiting = refl
refusal_kept Total = refl
refusal_kept Number = refl

abbrev data_at : ℕ → Data
data_at number = cond (eqb number 0) Kept (cond (eqb number 1) Written (cond (eqb number 2) Dropped Repeat))

data_kept : (outcome : Data) → data_at (data_number outcome) ≡ outcome
data_kept Kept = refl
data_kept Written = refl
data_kept Dropped = refl
data_kept Repeat = refl

abbrev token_at : ℕ → Data → Token
token_at number outcome =
    cond (eqb number 0) (None outcome) (cond (eqb number 1) (PassedOn outcome) (cond (eqb number 2) (OursNow outcome) (cond (eqb number 3) (RivalPassedOver outcome) (RivalWon outcome))))

token_kept : (token : Token) → token_at (token_number token) (data_at (data_number (data_of token))) ≡ token
token_kept (None outcome) = ap None (data_kept outcome)
token_kept (PassedOn outcome) = ap PassedOn (data_kept outcome)
token_kept (OursNow outcome) = ap OursNow (data_kept outcome)
token_kept (RivalPassedOver outcome) = ap RivalPassedOver (data_kept outcome)
token_kept (RivalWon outcome) = ap RivalWon (data_kept outcome)

abbrev pub switched_of : Answer → Switched
switched_of answer = cond (eqb answer.word 1) (Ok tt) (Err (refusal_of answer.refusal))

pub switched_kept : (answer : Switched) → switched_of (switched_answer answer) ≡ answer
switched_kept (Ok tt) = refl
switched_kept (Err refusal) = ap Err (refusal_kept refusal)

abbrev pub ticked_of : Answer → Ticked
ticked_of answer = cond (eqb answer.word 0) ticked.Off ticked.Done

pub ticked_kept : (answer : Ticked) → ticked_of (ticked_answer answer) ≡ answer
ticked_kept ticked.Off = refl
ticked_kept ticked.Done = refl

abbrev pub heard_of : Answer → Heard
heard_of answer =
    cond (eqb answer.word 0) heard.Off (cond (eqb answer.word 1) heard.Done (cond (eqb answer.word 2) (heard.Cyclic (token_at answer.token (data_at answer.outcome))) (heard.Refused (refusal_of answer.refusal))))

pub heard_kept : (answer : Heard) → heard_of (heard_answer answer) ≡ answer
heard_kept heard.Off = refl
heard_kept heard.Done = refl
heard_kept (heard.Cyclic token) = ap heard.Cyclic (token_kept token)
heard_kept (heard.Refused refusal) = ap heard.Refused (refusal_kept refusal)

abbrev pub asked_of : Answer → Asked
asked_of answer = cond (eqb answer.word 3) (Ok answer.octets) (Err (refusal_of answer.refusal))

pub asked_kept : (answer : Asked) → asked_of (asked_answer answer) ≡ answer
asked_kept (Ok octets) = refl
asked_kept (Err refusal) = ap Err (refusal_kept refusal)
