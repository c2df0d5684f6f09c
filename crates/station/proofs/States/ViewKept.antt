-- Numbers that are ours or listed, and what the operations on the list keep of them. Assumes nothing.
use Rattle.std.specs.Prelude.{◌≡◌, ◌||◌, ◌+◌, ◌<◌}
use Rattle.laws.specs.Usual.{refl, sym, ap, subst, ◌∙◌, Bool, true, false, cond, ℕ, arith, eqb}
use Rattle.std.proofs.Math.Decide.{ℕ_discrete}
use Rattle.std.proofs.Common.{eq-eqb}
use Rattle.std.proofs.lemmas.Bool.{eqb-false}
use Rattle.members.specs.Members.{nobody, entry_of, is_listed, with_entry, misses_set, struck, strikes, missed, next_after, ring_of, smallest}
use Rattle.station.specs.Types.{Entry, Members}
use Rattle.settling.proofs.Next.{laws_of}
use Rattle.settling.specs.Next.{NextLaws}
use Rattle.settling.specs.Ring.{next}
use Rattle.station.proofs.States.ListKept.{set_either, next_has, smallest_has}
use Rattle.station.specs.States.Reachable.{Listed}
use Rattle.station.proofs.States.RingKept.{ring_stations, ours_in_ring, listed_in_ring}
use Rattle.station.specs.States.ViewKept.{Known}

pub known_ours : (ours : ℕ) (members : Members) → Known ours members ours
known_ours ours members = rw (eq-eqb ours ours refl)

known_listed : (ours : ℕ) (members : Members) (number : ℕ) → is_listed members number ≡ true → Known ours members number
known_listed ours members number e = by (eqb number ours)
  where
    by : (same : Bool) → (same || is_listed members number) ≡ true
    by true = refl
    by false = e

-- a list in which who was listed still is
known_more : (ours : ℕ) (before after : Members) (number : ℕ) → (is_listed before number ≡ true → is_listed after number ≡ true)
    → Known ours before number → Known ours after number
known_more ours before after number more known = by (eqb number ours) known
  where
    by : (same : Bool) → (same || is_listed before number) ≡ true → (same || is_listed after number) ≡ true
    by true e = refl
    by false e = more e

-- an entry that is listed strikes nobody
pub known_with : (ours : ℕ) (members : Members) (place : ℕ) (entry : Entry) (number : ℕ)
    → (number ≡ place → is_listed members number ≡ true → entry.listed ≡ true) → Known ours members number → Known ours (with_entry members place entry) number
known_with ours members place entry number new =
    known_more ours members (with_entry members place entry) number
    (λ l. set_either (λ (x : Entry). x.listed ≡ true) members.entries place entry number (λ same. new same l) l)

pub known_misses : (ours : ℕ) (members : Members) (place misses number : ℕ) → Known ours members number
    → Known ours (with_entry members place (misses_set misses (entry_of members place))) number
known_misses ours members place misses number =
    known_with ours members place (misses_set misses (entry_of members place)) number
    (λ same l. subst (λ (n : ℕ). is_listed members n ≡ true) same l)

module _ {ours : ℕ} {members : Members} (ok : Listed ours members) where
  pub next_known : (number : ℕ) → Known ours members number → Known ours members (next_after ours members number)
  next_known number known = next_has ok (Known ours members) (known_ours ours members) (known_listed ours members) number known

  pub smallest_known : Known ours members (smallest ours members)
  smallest_known = smallest_has ok (Known ours members) (known_ours ours members) (known_listed ours members)

  -- next after a listed number is another: we are in the ring too
  next_unlike : (x : ℕ) → is_listed members x ≡ true → ¬ (next_after ours members x ≡ x)
  next_unlike x l same =
      let laws = laws_of (ring_of ours members) (ring_stations ok) in
      by laws.0 laws.1 laws.2 (ℕ_discrete x laws.1)
    where
      by : (smallest largest : ℕ) → NextLaws (ring_of ours members) (next (ring_of ours members)) smallest largest → Dec (x ≡ largest) → ⊥
      by smallest largest laws (yes q) =
          let top : next (ring_of ours members) x ≡ smallest = ap (next (ring_of ours members)) q ∙ laws.wraps in
          let low = laws.least ours (ours_in_ring ok) in
          let high = laws.most ours (ours_in_ring ok) in
          let unlike = eqb-false x ours (ok.each x l).other in
          let bottom : smallest ≡ x = sym top ∙ same in
          unlike (omega arith)
      by smallest largest laws (no q) =
          let high = laws.most x (listed_in_ring ok x l) in
          let up = laws.up x in
          let below : x < largest = omega arith in
          let more = up below in
          absurd (omega (arith, same))

  -- and is known still when that one is missed
  pub missed_known : (x : ℕ) → Known ours members x → Known ours (missed members x) (next_after ours members x)
  missed_known x known = by (is_listed members x) refl (strikes members x)
    where
      by : (listed : Bool) → is_listed members x ≡ listed → (third : Bool) → Known ours
          (cond listed
          (cond third (struck members x) (with_entry members x (misses_set ((entry_of members x).misses + 1) (entry_of members x))))
          members) (next_after ours members x)
      by true l true =
          known_with ours members x nobody (next_after ours members x) (λ same k. absurd (next_unlike x l same)) (next_known x known)
      by true l false = known_misses ours members x ((entry_of members x).misses + 1) (next_after ours members x) (next_known x known)
      by false l third = next_known x known
