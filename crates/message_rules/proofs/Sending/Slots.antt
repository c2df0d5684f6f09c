-- What can become of a slot while its message waits for its confirmation. Assumes nothing.
use Rattle.std.specs.Prelude.{◌≡◌, ◌&&◌, ◌<◌, ◌≤◌, ◌+◌}
use Rattle.laws.specs.Usual.{refl, sym, ap, subst, ◌∙◌, Bool, true, false, cond, false≢true, ℕ, min, eqb, leb}
use Rattle.std.proofs.Common.{leb-true, leb-false}
use Rattle.laws.specs.Tests.{second}
use Rattle.message.specs.declared.Mail.{Mail}
use Rattle.message.specs.declared.Mail.TheVariants.{Nothing, Waiting, Unconfirmed, Confirmed, Sent, Failed}
use Rattle.message_rules.specs.Rules.Again.{is_unconfirmed, resends_most, slot_with, is_due, or_failed, where_unconfirmed, slot_ticked, slot_taken, slot_answered}
use Rattle.message.specs.declared.Slot.{Slot}

-- the message of a slot, its number and how often it was sent again are the same
pub record SameMessage (before left : Slot) : Type 0 where
  pub message : left.message ≡ before.message
  pub octets : left.octets ≡ before.octets
  pub number : left.number ≡ before.number
  pub resends : left.resends ≡ before.resends

pub same_message : (slot : Slot) → SameMessage slot slot
same_message slot = record { message = refl; octets = refl; number = refl; resends = refl }

-- a resend that is due is not the fourth
abbrev pub Sure : Slot → Type 0
Sure slot = slot.mail ≡ Unconfirmed → is_due slot ≡ true → slot.resends < 3

-- what became of it is the same; or it was unconfirmed and failed, having been sent again three times; or a status 1 came for it
pub data Ends (confirming : Bool) (before left : Slot) : Type 0 where
  kept : left.mail ≡ before.mail → (Sure before → Sure left) → SameMessage before left → Ends confirming before left
  failed : before.mail ≡ Unconfirmed → left.mail ≡ Failed → 3 ≤ before.resends → SameMessage before left → Ends confirming before left
  confirmed : before.mail ≡ Unconfirmed → left.mail ≡ Confirmed → confirming ≡ true → SameMessage before left → Ends confirming before left

pub is_unconfirmed_lem : (mail : Mail) → is_unconfirmed mail ≡ true → mail ≡ Unconfirmed
is_unconfirmed_lem Nothing e = absurd (false≢true e)
is_unconfirmed_lem Waiting e = absurd (false≢true e)
is_unconfirmed_lem Unconfirmed e = refl
is_unconfirmed_lem Confirmed e = absurd (false≢true e)
is_unconfirmed_lem Sent e = absurd (false≢true e)
is_unconfirmed_lem Failed e = absurd (false≢true e)

not_over : (a b : Bool) → a ≡ true → (a && b) ≡ false → b ≡ false
not_over true b p q = q
not_over false b p q = absurd (false≢true p)

-- an unconfirmed message with other counts: it stays, or it has failed
module _ (confirming : Bool) (slot : Slot) (ticks takings : ℕ) (asked : Bool) (open_is : slot.mail ≡ Unconfirmed) where
  abbrev counted : Slot
  counted = slot_with slot Unconfirmed ticks takings asked

  counted_ends : Ends confirming slot (or_failed counted)
  counted_ends = by (is_due counted && leb resends_most slot.resends) refl
    where
      by : (over : Bool) → (is_due counted && leb resends_most slot.resends) ≡ over
          → Ends confirming slot (cond over (slot_with counted Failed ticks takings asked) counted)
      by true e =
          failed open_is refl (leb-true 3 slot.resends (second (is_due counted) _ e)) (record { message = refl; octets = refl; number = refl; resends = refl })
      by false e =
          kept (sym open_is) (λ sure u due. leb-false 3 slot.resends (not_over (is_due counted) _ due e)) (record { message = refl; octets = refl; number = refl; resends = refl })

module _ (confirming : Bool) (slot : Slot) where
  where_ends : (after : Slot) → (slot.mail ≡ Unconfirmed → Ends confirming slot (or_failed after)) → Ends confirming slot (where_unconfirmed slot after)
  where_ends after ends = by (is_unconfirmed slot.mail) refl
    where
      by : (waits : Bool) → is_unconfirmed slot.mail ≡ waits → Ends confirming slot (cond waits (or_failed after) slot)
      by true e = ends (is_unconfirmed_lem slot.mail e)
      by false e = kept refl (λ sure. sure) (same_message slot)

  pub ticked_ends : Ends confirming slot (slot_ticked slot)
  ticked_ends = where_ends (slot_with slot Unconfirmed (min 1000 (slot.ticks + 1)) slot.takings slot.asked) (λ e. counted_ends confirming slot (min 1000 (slot.ticks + 1)) slot.takings slot.asked e)

  pub taken_ends : Ends confirming slot (slot_taken slot)
  taken_ends = where_ends (slot_with slot Unconfirmed slot.ticks (min 3 (slot.takings + 1)) slot.asked) (λ e. counted_ends confirming slot slot.ticks (min 3 (slot.takings + 1)) slot.asked e)

-- a status that came for an unconfirmed message
pub answered_ends : (slot : Slot) (status : ℕ) → slot.mail ≡ Unconfirmed → Ends (eqb status 1) slot (slot_answered slot status)
answered_ends slot status open_is = by (eqb status 1) refl
  where
    by : (one : Bool) → eqb status 1 ≡ one
        → Ends one slot (cond one (slot_with slot Confirmed slot.ticks slot.takings slot.asked) (or_failed (slot_with slot Unconfirmed slot.ticks slot.takings true)))
    by true e = confirmed open_is refl refl (record { message = refl; octets = refl; number = refl; resends = refl })
    by false e = counted_ends false slot slot.ticks slot.takings true open_is

-- a taking behind it
joined : {a b c : Slot} → SameMessage a b → SameMessage b c → SameMessage a c
joined p q = record {
  message = q.message ∙ p.message;
  octets = q.octets ∙ p.octets;
  number = q.number ∙ p.number;
  resends = q.resends ∙ p.resends;
}

settled : {slot : Slot} (mail : Mail) → slot.mail ≡ mail → is_unconfirmed mail ≡ false → slot_taken slot ≡ slot
settled {slot} mail e done =
    ap (λ (waits : Bool). cond waits (or_failed (slot_with slot Unconfirmed slot.ticks (min 3 (slot.takings + 1)) slot.asked)) slot) (ap is_unconfirmed e ∙ done)

pub then_taken : {confirming : Bool} {before left : Slot} → Ends confirming before left → Ends confirming before (slot_taken left)
then_taken {confirming} {before} {left} (kept mail sure same) = by (taken_ends confirming left)
  where
    by : {after : Slot} → Ends confirming left after → Ends confirming before after
    by (kept m t s) = kept (m ∙ mail) (λ is. t (sure is)) (joined same s)
    by (failed u m r s) = failed (sym mail ∙ u) m (rw (sym same.resends) r) (joined same s)
    by (confirmed u m c s) = confirmed (sym mail ∙ u) m c (joined same s)
then_taken {confirming} {before} {left} (failed u m r same) =
    subst (Ends confirming before) (sym (settled Failed m refl)) (failed u m r same)
then_taken {confirming} {before} {left} (confirmed u m c same) =
    subst (Ends confirming before) (sym (settled Confirmed m refl)) (confirmed u m c same)
