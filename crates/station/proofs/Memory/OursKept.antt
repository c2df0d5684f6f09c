-- "Our own areas are never written by a frame": in every state that calls can leave, hearing any octets leaves every octet of our own areas
-- in the common memory as it was. Assumes nothing.
use Rattle.std.specs.Prelude.{◌≡◌, ◌+◌, ◌≤◌}
use Rattle.laws.specs.Usual.{refl, sym, ◌∙◌, true, false, false≢true, List, ℕ, max, arith, length, get_or, eqb}
use Rattle.std.proofs.Common.{leb-true, eqb-true}
use Rattle.laws.specs.Tests.{first, neither_first, neither_second}
use Rattle.area.specs.Areas.{in_area, in_range, span_of, memory_octets}
use Rattle.area.specs.Overlap.{parts_overlap, areas_overlap}
use Rattle.area.specs.Words.{shared_overlap}
use Rattle.area.specs.declared.Area.TheVariants.{One, Two}
use Rattle.members.specs.Members.{entry_of}
use Rattle.station.proofs.States.Apart.{apart}
use Rattle.station.specs.Outcomes.HearCases.{writes, keeps, repeats, drops, HearCases, refuses, turns_off, gathers, heeds}
use Rattle.station.proofs.Outcomes.HearCases.{hear_cases}
use Rattle.station.specs.Rules.Hearing.{lent_right, hear_of, Hearing}
use Rattle.station.proofs.States.Sound.{sound}
use Rattle.station.proofs.Memory.Places.{In, written_outside}
use Rattle.station.specs.States.Reachable.{Reachable, Sound}
use Rattle.station.specs.Types.{Areas, Part, Station}

-- the place belongs to one of the two areas
pub data InAreas (areas : Areas) (at : ℕ) : Type 0 where
  in_one : In (span_of One areas.one) at → InAreas areas at
  in_two : In (span_of Two areas.two) at → InAreas areas at

-- an octet of two parts of one area is in a word of both
shared_one : (a b : Part) (at : ℕ) → In (span_of One a) at → In (span_of One b) at → parts_overlap a b ≡ true
shared_one a b at p q =
    shared_overlap {a = a} {b = b} {word = max a.address b.address} (record { from = omega arith; before = omega arith }) (record { from = omega arith; before = omega arith })

shared_two : (a b : Part) (at : ℕ) → In (span_of Two a) at → In (span_of Two b) at → parts_overlap a b ≡ true
shared_two a b at p q =
    shared_overlap {a = a} {b = b} {word = max a.address b.address} (record { from = omega arith; before = omega arith }) (record { from = omega arith; before = omega arith })

-- areas in range that do not overlap share no octet
module _ (a b : Areas) (ranged_a : in_range a ≡ true) (ranged_b : in_range b ≡ true) (clear : areas_overlap a b ≡ false) (at : ℕ) where
  a_one : a.one.address + a.one.size ≤ 512
  a_one = leb-true (a.one.address + a.one.size) 512 (first (in_area One a.one) (in_area Two a.two) ranged_a)

  b_one : b.one.address + b.one.size ≤ 512
  b_one = leb-true (b.one.address + b.one.size) 512 (first (in_area One b.one) (in_area Two b.two) ranged_b)

  not_both : InAreas a at → InAreas b at → ⊥
  not_both (in_one p) (in_one q) = false≢true (sym (neither_first _ _ clear) ∙ shared_one a.one b.one at p q)
  not_both (in_one p) (in_two q) = let h = a_one in omega arith
  not_both (in_two p) (in_one q) = let h = b_one in omega arith
  not_both (in_two p) (in_two q) = false≢true (sym (neither_second (parts_overlap a.one b.one) _ clear) ∙ shared_two a.two b.two at p q)

-- the buffers have their length where a frame is read
pub memory_long : (memory assembly : List ℕ) → lent_right memory assembly ≡ true → length memory ≡ memory_octets
memory_long memory assembly e = eqb-true (length memory) 17408 (first (eqb (length memory) 17408) (eqb (length assembly) 17408) e)

-- No heard frame changes an octet of our own areas.
pub ours_kept : (station : Station) → Reachable station → (octets memory assembly : List ℕ) (at : ℕ) → InAreas station.own.areas at
    → get_or (hear_of station octets memory assembly).memory at 0 ≡ get_or memory at 0
ours_kept station reached octets memory assembly at ours = by (hear_cases station octets memory assembly)
  where
    by : {result : Hearing} → HearCases station octets memory assembly result → get_or result.memory at 0 ≡ get_or memory at 0
    by (refuses refusal) = refl
    by (turns_off out) = refl
    by (gathers frame {after} from (writes areas new next last)) =
        let ok : Sound station = sound station reached in
        let ranged_ours = (ok.ours (rw from.participates)).areas in
        let ranged = (ok.list.each frame.source from.listed).areas in
        let clear = (apart station reached).ours (rw from.participates) frame.source from.listed in
        let never = not_both station.own.areas (entry_of station.members frame.source).areas ranged_ours ranged clear at ours in
        written_outside (entry_of station.members frame.source).areas after.assembly memory ranged
        (memory_long memory assembly from.accepts.lent) at (λ p. never (in_one p)) (λ p. never (in_two p))
    by (gathers frame from (keeps areas new next last)) = refl
    by (gathers frame from (repeats areas again)) = refl
    by (gathers frame from (drops why)) = refl
    by (heeds frame facts entered) = refl
