-- What is put into the numbers is what they hold then, and an outgoing side that they hold already changes none of them. Assumes nothing.
use Rattle.laws.specs.Usual.{refl, sym, ap, ap₂, ◌∙◌, Bool, true, false, cond, List, ℕ, suc, arith, length, get_or, eqb, leb}
use Rattle.std.specs.Prelude.{◌≡◌, ◌∷◌, ◌<◌, ◌≤◌, zero}
use Rattle.std.proofs.Common.{eq-eqb, le-leb, eqb-true, leb-true}
use Rattle.low_parts.specs.Parts.{octet, octets, with_octet}
use Rattle.low_parts.proofs.Laws.{octet_back, octets_back, flag_back, octet_same, octets_same, flag_same, elements, all_elements}
use Rattle.message.specs.Words.{mail_number}
use Rattle.message.specs.declared.Mail.{Mail}
use Rattle.message.specs.declared.Mail.TheVariants.{Nothing, Waiting, Unconfirmed, Confirmed, Sent, Failed}
use Rattle.message_places.specs.Places.{mail_at, mail_in, with_mail, outgoing_in, kept_outgoing}
use Rattle.message_places.specs.declared.Outgoing.{Outgoing}

-- each field is as wide as C has it
pub record Fits (outgoing : Outgoing) : Type 0 where
  pub allowed : outgoing.allowed.0 < 65536
  pub destination : outgoing.slot.message.destination < 256
  pub code : outgoing.slot.message.code < 65536
  pub size : outgoing.slot.message.size < 65536
  pub result : outgoing.slot.message.result < 256
  pub octets : outgoing.slot.octets < 65536
  pub ticks : outgoing.slot.ticks < 65536
  pub takings : outgoing.slot.takings < 256
  pub resends : outgoing.slot.resends < 256

mail_small : (mail : Mail) → mail_number mail ≤ 5
mail_small Nothing = omega arith
mail_small Waiting = omega arith
mail_small Unconfirmed = omega arith
mail_small Confirmed = omega arith
mail_small Sent = omega arith
mail_small Failed = omega arith

mail_at_lem : (mail : Mail) → mail_at (mail_number mail) ≡ mail
mail_at_lem Nothing = refl
mail_at_lem Waiting = refl
mail_at_lem Unconfirmed = refl
mail_at_lem Confirmed = refl
mail_at_lem Sent = refl
mail_at_lem Failed = refl

mail_back : (number : ℕ) (mail : Mail) → mail_at (mail_in (with_mail number mail)) ≡ mail
mail_back number mail = by (eqb (mail_in number) (mail_number mail)) refl
  where
    by : (same : Bool) → eqb (mail_in number) (mail_number mail) ≡ same
        → mail_at (mail_in (cond same number (with_octet number (mail_number mail)))) ≡ mail
    by true e = ap mail_at (eqb-true (mail_in number) (mail_number mail) e) ∙ mail_at_lem mail
    by false e =
        let small : mail_number mail ≤ 5 = mail_small mail in
        ap (λ (n : ℕ). mail_at (cond (leb n 5) n 0)) (octet_back number (mail_number mail) (omega arith))
        ∙ ap (λ (t : Bool). mail_at (cond t (mail_number mail) 0)) (le-leb (mail_number mail) 5 small)
        ∙ mail_at_lem mail

-- a number up to five is that of what it stands for
number_at : (number : ℕ) → number ≤ 5 → mail_number (mail_at number) ≡ number
number_at zero small = refl
number_at (suc zero) small = refl
number_at (suc (suc zero)) small = refl
number_at (suc (suc (suc zero))) small = refl
number_at (suc (suc (suc (suc zero)))) small = refl
number_at (suc (suc (suc (suc (suc zero))))) small = refl
number_at (suc (suc (suc (suc (suc (suc n)))))) small = absurd (omega arith)

mail_in_small : (number : ℕ) → mail_in number ≤ 5
mail_in_small number = by (leb (octet number) 5) refl
  where
    by : (small : Bool) → leb (octet number) 5 ≡ small → cond small (octet number) 0 ≤ 5
    by true e = leb-true (octet number) 5 e
    by false e = omega arith

mail_same : (number : ℕ) → with_mail number (mail_at (mail_in number)) ≡ number
mail_same number =
    ap (λ (t : Bool). cond t number (with_octet number (mail_number (mail_at (mail_in number)))))
    (eq-eqb (mail_in number) (mail_number (mail_at (mail_in number))) (sym (number_at (mail_in number) (mail_in_small number))))

-- The next call goes on from the outgoing side that was put in.
pub kept_outgoing_lem : (numbers : List ℕ) (outgoing : Outgoing) → Fits outgoing → outgoing_in (kept_outgoing numbers outgoing) ≡ outgoing
unfolding kept_outgoing outgoing_in
kept_outgoing_lem numbers outgoing fits = rw (
  octets_back (get_or numbers 0 0) outgoing.allowed.0 fits.allowed,
  mail_back (get_or numbers 2 0) outgoing.slot.mail,
  octet_back (get_or numbers 3 0) outgoing.slot.message.destination fits.destination,
  octets_back (get_or numbers 4 0) outgoing.slot.message.code fits.code,
  octets_back (get_or numbers 5 0) outgoing.slot.message.size fits.size,
  octet_back (get_or numbers 7 0) outgoing.slot.message.result fits.result,
  octets_back (get_or numbers 8 0) outgoing.slot.octets fits.octets,
  octets_back (get_or numbers 10 0) outgoing.slot.ticks fits.ticks,
  octet_back (get_or numbers 11 0) outgoing.slot.takings fits.takings,
  flag_back (get_or numbers 12 0) outgoing.slot.asked,
  octet_back (get_or numbers 13 0) outgoing.slot.resends fits.resends,
  flag_back (get_or numbers 16 0) outgoing.went.now,
  flag_back (get_or numbers 17 0) outgoing.went.last,
)

-- An outgoing side that the numbers hold already changes none of them.
pub outgoing_same : (numbers : List ℕ) → length numbers ≡ 18 → kept_outgoing numbers (outgoing_in numbers) ≡ numbers
unfolding kept_outgoing outgoing_in
outgoing_same numbers all =
    ap₂ ◌∷◌ (octets_same (at 0))
    (ap (λ (rest : List ℕ). at 1 ∷ rest)
    (ap₂ ◌∷◌ (mail_same (at 2))
    (ap₂ ◌∷◌ (octet_same (at 3))
    (ap₂ ◌∷◌ (octets_same (at 4))
    (ap₂ ◌∷◌ (octets_same (at 5))
    (ap (λ (rest : List ℕ). at 6 ∷ rest)
    (ap₂ ◌∷◌ (octet_same (at 7))
    (ap₂ ◌∷◌ (octets_same (at 8))
    (ap (λ (rest : List ℕ). at 9 ∷ rest)
    (ap₂ ◌∷◌ (octets_same (at 10))
    (ap₂ ◌∷◌ (octet_same (at 11))
    (ap₂ ◌∷◌ (flag_same (at 12))
    (ap₂ ◌∷◌ (octet_same (at 13))
    (ap (λ (rest : List ℕ). at 14 ∷ at 15 ∷ rest)
    (ap₂ ◌∷◌ (flag_same (at 16))
    (ap₂ ◌∷◌ (flag_same (at 17)) refl))))))))))))))))
    ∙ ap (elements at 0) (sym all)
    ∙ all_elements numbers
  where
    at : ℕ → ℕ
    at place = get_or numbers place 0
