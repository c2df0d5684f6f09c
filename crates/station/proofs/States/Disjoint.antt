-- No overlap between listed areas, nor between them and ours once our request has fallen due: the definition, and what the operations on the
-- list keep of it. Assumes nothing.
use Rattle.laws.specs.Usual.{[], refl, sym, ap₂, ◌∙◌, Bool, true, false, cond, not, false≢true, List, ℕ, suc, arith, get_or, eqb}
use Rattle.std.specs.Prelude.{◌≡◌, ◌&&◌, ◌||◌, ◌∷◌, ◌+◌, zero}
use Rattle.std.proofs.Common.{ne_eqb}
use Rattle.area.specs.Overlap.{filled, starts_before_end, parts_overlap, areas_overlap}
use Rattle.laws.specs.Tests.{neither_first, neither_second}
use Rattle.members.specs.Listing.{bare, overlap_from, overlaps_other, listing}
use Rattle.members.specs.Members.{nobody, no_members, entry_of, is_listed, with_entry, misses_set, struck, strikes, missed}
use Rattle.station.proofs.States.ListKept.{none_listed, set_either}
use Rattle.station.specs.Types.{Milliseconds, Areas, Part, Entry, Members}
use Rattle.station.specs.States.Disjoint.{Disjoint, Clear}

-- overlap goes both ways
and_comm : (a b : Bool) → (a && b) ≡ (b && a)
and_comm true true = refl
and_comm true false = refl
and_comm false true = refl
and_comm false false = refl

parts_sym : (a b : Part) → parts_overlap a b ≡ parts_overlap b a
parts_sym a b = ap₂ ◌&&◌ (and_comm (filled a) (filled b)) (and_comm (starts_before_end a b) (starts_before_end b a))

pub overlap_sym : (a b : Areas) → areas_overlap a b ≡ areas_overlap b a
overlap_sym a b = ap₂ ◌||◌ (parts_sym a.one b.one) (parts_sym a.two b.two)

-- what a search for an overlap that fails tells of every entry but one
not_found : (entries : List Entry) (from but : ℕ) (areas : Areas) → overlap_from from but areas entries ≡ false
    → (i : ℕ) → ¬ (from + i ≡ but) → (get_or entries i nobody).listed ≡ true → areas_overlap areas (get_or entries i nobody).areas ≡ false
not_found [] from but areas e i other listed = absurd (false≢true listed)
not_found (entry ∷ rest) from but areas e zero other listed =
    let here : ((entry.listed && not (eqb from but)) && areas_overlap areas entry.areas) ≡ false = neither_first _ (overlap_from (suc from) but areas rest) e in
    let unlike : eqb from but ≡ false = ne_eqb from but (λ q. other (omega arith)) in
    rw (listed, unlike) at here
not_found (entry ∷ rest) from but areas e (suc i) other listed =
    not_found rest (suc from) but areas (neither_second ((entry.listed && not (eqb from but)) && areas_overlap areas entry.areas) _ e) i
    (λ q. other (omega arith)) listed

pub no_overlap : (members : Members) (but : ℕ) (areas : Areas) → overlaps_other members but areas ≡ false
    → (number : ℕ) → ¬ (number ≡ but) → is_listed members number ≡ true → areas_overlap areas (entry_of members number).areas ≡ false
no_overlap members but areas e number other listed = not_found members.entries 0 but areas e number (λ q. other (omega arith)) listed

-- an empty list
pub disjoint_none : Disjoint no_members
disjoint_none m n other l k = absurd (false≢true (sym (none_listed m) ∙ l))

pub clear_none : (areas : Areas) → Clear areas no_members
clear_none areas n l = absurd (false≢true (sym (none_listed n) ∙ l))

-- a new entry
module _ (members : Members) (number : ℕ) (entry : Entry) where
  pub clear_with : (areas : Areas) → Clear areas members → (entry.listed ≡ true → areas_overlap areas entry.areas ≡ false)
      → Clear areas (with_entry members number entry)
  clear_with areas clear new n =
      set_either (λ (x : Entry). x.listed ≡ true → areas_overlap areas x.areas ≡ false) members.entries number entry n (λ same. new) (clear n)

  pub disjoint_with : Disjoint members
      → (entry.listed ≡ true → (n : ℕ) → ¬ (n ≡ number) → is_listed members n ≡ true → areas_overlap entry.areas (entry_of members n).areas ≡ false)
      → Disjoint (with_entry members number entry)
  disjoint_with disjoint new m n other =
      set_either
      (λ (x : Entry). x.listed ≡ true → is_listed (with_entry members number entry) n ≡ true
      → areas_overlap x.areas (entry_of (with_entry members number entry) n).areas ≡ false)
      members.entries number entry m
      (λ same l. set_either (λ (y : Entry). y.listed ≡ true → areas_overlap entry.areas y.areas ≡ false) members.entries number entry n
      (λ same2. absurd (other (same ∙ sym same2)))
      (λ k. new l n (λ same2. other (same ∙ sym same2)) k))
      (λ l. set_either (λ (y : Entry). y.listed ≡ true → areas_overlap (entry_of members m).areas y.areas ≡ false) members.entries number entry n
      (λ same2 k. overlap_sym (entry_of members m).areas entry.areas ∙ new k m (λ same. other (same ∙ sym same2)) l)
      (λ k. disjoint m n other l k))

-- another count of misses
module _ (members : Members) (number misses : ℕ) where
  pub disjoint_misses : Disjoint members → Disjoint (with_entry members number (misses_set misses (entry_of members number)))
  disjoint_misses disjoint =
      disjoint_with members number (misses_set misses (entry_of members number)) disjoint (λ l n other k. disjoint number n (λ same. other (sym same)) l k)

  pub clear_misses : (areas : Areas) → Clear areas members → Clear areas (with_entry members number (misses_set misses (entry_of members number)))
  clear_misses areas clear = clear_with members number (misses_set misses (entry_of members number)) areas clear (λ l. clear number l)

-- a miss, and striking
pub missed_keeps : (P : Members → Type 0) (members : Members) (number : ℕ) → P members → P (struck members number)
    → ((misses : ℕ) → P (with_entry members number (misses_set misses (entry_of members number)))) → P (missed members number)
missed_keeps P members number same strike miss = by (is_listed members number) (strikes members number)
  where
    by : (listed third : Bool) → P
        (cond listed
        (cond third (struck members number) (with_entry members number (misses_set ((entry_of members number).misses + 1) (entry_of members number))))
        members)
    by true true = strike
    by true false = miss ((entry_of members number).misses + 1)
    by false third = same

pub disjoint_missed : (members : Members) (number : ℕ) → Disjoint members → Disjoint (missed members number)
disjoint_missed members number disjoint =
    missed_keeps Disjoint members number disjoint (disjoint_with members number nobody disjoint (λ l. absurd (false≢true l)))
    (λ misses. disjoint_misses members number misses disjoint)

pub clear_missed : (members : Members) (number : ℕ) (areas : Areas) → Clear areas members → Clear areas (missed members number)
clear_missed members number areas clear =
    missed_keeps (Clear areas) members number clear (clear_with members number nobody areas clear (λ l. absurd (false≢true l)))
    (λ misses. clear_misses members number misses areas clear)

-- "Whoever is listed with an area that overlaps another station's in the list, or ours once our request has fallen due, is listed with both
-- sizes 0."
module _ (members : Members) (number : ℕ) (areas : Areas) (watch : Milliseconds) (due : Areas) where
  pub disjoint_listing : Disjoint members → Disjoint (listing members number areas watch due)
  disjoint_listing disjoint =
      disjoint_with members number _ disjoint (λ l n other k. by (overlaps_other members number areas || areas_overlap areas due) refl n other k)
    where
      by : (test : Bool) → (overlaps_other members number areas || areas_overlap areas due) ≡ test → (n : ℕ) → ¬ (n ≡ number) → is_listed members n ≡ true
          → areas_overlap (cond test (bare areas) areas) (entry_of members n).areas ≡ false
      by true t n other k = refl
      by false t n other k = no_overlap members number areas (neither_first (overlaps_other members number areas) (areas_overlap areas due) t) n other k

  pub clear_listing : Clear due members → Clear due (listing members number areas watch due)
  clear_listing clear =
      clear_with members number _ due clear (λ l. by (overlaps_other members number areas || areas_overlap areas due) refl)
    where
      by : (test : Bool) → (overlaps_other members number areas || areas_overlap areas due) ≡ test → areas_overlap due (cond test (bare areas) areas) ≡ false
      by true t = overlap_sym due (bare areas)
      by false t = overlap_sym due areas ∙ neither_second (overlaps_other members number areas) (areas_overlap areas due) t
