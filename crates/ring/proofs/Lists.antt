-- What holds of the list of a station in a ring. Assumes nothing.
use Rattle.laws.specs.Usual.{[], refl, sym, ap, ◌∙◌, true, cond, List, ℕ, suc, get_or, set}
use Rattle.std.specs.Prelude.{◌≡◌, ◌∷◌, ◌⊎◌, zero}
use Rattle.std.proofs.Common.{inl, inr}
use Rattle.members.specs.Members.{nobody, is_listed, with_entry, numbers_from, with_ours, ring_of}
use Rattle.station.specs.Types.{Entry, Members}
use Rattle.settling.specs.Ring.{◌∈◌}
use Rattle.station.proofs.States.ListKept.{set_either}
use Rattle.station.proofs.States.RingKept.{in_ring}

-- an entry that is listed as the one before it was leaves the numbers as they were
numbers_set : (entries : List Entry) (at number : ℕ) (entry : Entry) → entry.listed ≡ (get_or entries at nobody).listed →
    numbers_from number (set entries at entry) ≡ numbers_from number entries
numbers_set [] at number entry e = refl
numbers_set (old ∷ rest) zero number entry e = rw e
numbers_set (old ∷ rest) (suc at) number entry e =
    ap (λ (l : List ℕ). cond old.listed (number ∷ l) l) (numbers_set rest at (suc number) entry e)

pub ring_kept : (ours at : ℕ) (members : Members) (entry : Entry) → entry.listed ≡ is_listed members at →
    ring_of ours (with_entry members at entry) ≡ ring_of ours members
ring_kept ours at members entry e = ap (with_ours ours) (numbers_set members.entries at 0 entry e)

-- an entry with the watch time of the one before it leaves every listed time as it was
pub time_kept : (entries : List Entry) (at x : ℕ) (entry : Entry) → entry.watch ≡ (get_or entries at nobody).watch →
    (get_or (set entries at entry) x nobody).watch ≡ (get_or entries x nobody).watch
time_kept entries at x entry e =
    set_either (λ (there : Entry). there.watch ≡ (get_or entries x nobody).watch) entries at entry x
    (λ same. e ∙ ap (λ (n : ℕ). (get_or entries n nobody).watch) (sym same)) refl

-- another station of the ring is listed
pub other_listed : (ours x : ℕ) (members : Members) → x ∈ ring_of ours members → ¬ (x ≡ ours) → is_listed members x ≡ true
other_listed ours x members m other = by (in_ring ours members x m)
  where
    by : (x ≡ ours) ⊎ (is_listed members x ≡ true) → is_listed members x ≡ true
    by (inl e) = absurd (other e)
    by (inr listed) = listed
