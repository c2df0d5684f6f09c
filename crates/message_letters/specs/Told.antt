-- A message, told by what the reading of a header refuses it with: of octets with a message code it is 4 where 1, 2 and 3 let them through. Assumes nothing.
use Rattle.std.specs.Prelude.{Ok, Err, ◌≡◌, ◌&&◌, ◌<◌}
use Rattle.laws.specs.Usual.{refl, ap, Bool, true, false, List, ℕ, length, eqb, leb}
use Rattle.std.proofs.lemmas.Bool.{lt-leb}
use Rattle.frame.specs.Octets.{word_at}
use Rattle.frame.specs.Positions.{TCD}
use Rattle.frame_reading.specs.Reading.{need, whole, marked, long, read_header_of}
use Rattle.frame_reading.specs.Reading.{Read}
use Rattle.frame_refusals.specs.Refusals.{number_of}
use Rattle.message.proofs.Apart.{message_unknown}
use Rattle.message.specs.Codes.{is_message}
use Rattle.message_rules.specs.Rules.Hearing.{is_letter}
use Rattle.station.specs.Rules.Hearing.{lent_right}
use Rattle.frame.specs.declared.Refusal.TheVariants as refusals

abbrev pub is_refused_by_code : Read → Bool
is_refused_by_code (Ok fields) = false
is_refused_by_code (Err refusal) = eqb (number_of refusal) 4

pub told_by_header : (octets : List ℕ) → is_message (word_at octets TCD) ≡ true
    → is_refused_by_code (read_header_of octets) ≡ (whole octets && (marked octets && (long octets && is_message (word_at octets TCD))))
told_by_header octets message =
    rw (message_unknown (word_at octets TCD) message, message) (by (whole octets) (marked octets) (long octets))
  where
    by : (a b c : Bool)
        → is_refused_by_code (need a refusals.Cut (need b refusals.Mark (need c refusals.Length (Err refusals.Code)))) ≡ (a && (b && (c && true)))
    by true true true = refl
    by true true false = refl
    by true false c = refl
    by false b c = refl

-- what one of the tests refuses is no message
module _ (octets memory assembly : List ℕ) where
  pub cut_none : length octets < 64 → is_letter octets memory assembly ≡ false
  cut_none few =
      by (lent_right memory assembly) (whole octets) (ap (λ (t : Bool). t && leb (length octets) 1120) (lt-leb 64 (length octets) few))
    where
      rest : Bool
      rest = marked octets && (long octets && is_message (word_at octets TCD))

      by : (lent enough : Bool) → enough ≡ false → (lent && (enough && rest)) ≡ false
      by true enough e = ap (λ (t : Bool). t && rest) e
      by false enough e = refl

  pub other_none : is_message (word_at octets TCD) ≡ false → is_letter octets memory assembly ≡ false
  other_none other = by (lent_right memory assembly) (whole octets) (marked octets) (long octets)
    where
      by : (lent a b c : Bool) → (lent && (a && (b && (c && is_message (word_at octets TCD))))) ≡ false
      by true true true true = other
      by true true true false = refl
      by true true false c = refl
      by true false b c = refl
      by false a b c = refl
