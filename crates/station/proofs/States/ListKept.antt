-- What the operations on the list keep of it. Assumes nothing.
use Rattle.laws.specs.Usual.{[], refl, sym, ap, subst, ◌∙◌, Bool, true, false, cond, false≢true, List, ℕ, suc, arith, get_or, set, replicate, eqb, ltb}
use Rattle.std.specs.Prelude.{◌≡◌, ◌||◌, ◌∷◌, ◌+◌, ◌<◌, ◌≤◌, zero}
use Rattle.std.proofs.lemmas.List.{length-replicate}
use Rattle.std.proofs.Common.{length-set, leb-true, leb-false, le-leb}
use Rattle.area.specs.Areas.{in_area, in_range}
use Rattle.area.specs.Overlap.{areas_overlap}
use Rattle.area.specs.declared.Area.TheVariants.{One, Two}
use Rattle.block.specs.Blocks.{blocks_of}
use Rattle.laws.specs.Tests.{both, first, second}
use Rattle.members.specs.Listing.{bare, overlaps_other, listing}
use Rattle.members.specs.Members.{nobody, no_members, entry_of, is_listed, with_entry, numbers_from, numbers_of, with_ours, ring_of, next_after, first_of, smallest, misses_set, cleared, struck, strikes, missed}
use Rattle.frame_reading.specs.Reading.{is_station}
use Rattle.settling.specs.Ring.{first_above, next}
use Rattle.station.specs.States.Reachable.{Entered, Listed, Placed}
use Rattle.station.specs.Types.{Milliseconds, Areas, Entry, Members, Gathering}

-- an empty list has nobody in it
pub all_nobody : (k n : ℕ) → get_or (replicate k nobody) n nobody ≡ nobody
all_nobody zero n = refl
all_nobody (suc k) zero = refl
all_nobody (suc k) (suc n) = all_nobody k n

pub none_listed : (number : ℕ) → is_listed no_members number ≡ false
none_listed number = ap (λ (entry : Entry). entry.listed) (all_nobody 256 number)

pub empty_kept : (ours : ℕ) → Listed ours no_members
empty_kept ours = record { long = length-replicate 256 nobody; each = λ number e. absurd (false≢true (sym (none_listed number) ∙ e)) }

-- what holds of a new entry and of the old ones holds of each
pub set_either : (P : Entry → Type 0) (entries : List Entry) (number : ℕ) (entry : Entry) (n : ℕ)
    → (n ≡ number → P entry) → P (get_or entries n nobody) → P (get_or (set entries number entry) n nobody)
set_either P [] number entry n f p = p
set_either P (x ∷ rest) zero entry zero f p = f refl
set_either P (x ∷ rest) zero entry (suc n) f p = p
set_either P (x ∷ rest) (suc number) entry zero f p = p
set_either P (x ∷ rest) (suc number) entry (suc n) f p = set_either P rest number entry n (λ e. f (ap suc e)) p

module _ {ours : ℕ} {members : Members} (ok : Listed ours members) where
  pub entry_kept : (number : ℕ) (entry : Entry) → (entry.listed ≡ true → Entered ours number entry) → Listed ours (with_entry members number entry)
  entry_kept number entry f = record {
    long = length-set members.entries number entry ∙ ok.long;
    each = λ n. set_either (λ (x : Entry). x.listed ≡ true → Entered ours n x) members.entries number entry n
        (λ same. subst (λ (m : ℕ). entry.listed ≡ true → Entered ours m entry) (sym same) f) (ok.each n);
  }

  misses_kept : (number misses : ℕ) → misses ≤ 2 → Listed ours (with_entry members number (misses_set misses (entry_of members number)))
  misses_kept number misses few = entry_kept number (misses_set misses (entry_of members number)) (λ e. let old = ok.each number e in record {
    station = old.station;
    other = old.other;
    areas = old.areas;
    watch = old.watch;
    misses = few;
  })

  pub cleared_kept : (number : ℕ) → Listed ours (cleared members number)
  cleared_kept number = misses_kept number 0 (omega arith)

  pub missed_kept : (number : ℕ) → Listed ours (missed members number)
  missed_kept number = by (is_listed members number) (strikes members number) refl
    where
      by : (listed strike : Bool) → strikes members number ≡ strike → Listed ours
          (cond listed
          (cond strike (struck members number) (with_entry members number (misses_set ((entry_of members number).misses + 1) (entry_of members number))))
          members)
      by true true e = entry_kept number nobody (λ z. absurd (false≢true z))
      by true false e =
          let few = leb-false 2 (entry_of members number).misses e in
          misses_kept number ((entry_of members number).misses + 1) (omega arith)
      by false strike e = ok

  -- whatever holds of our own number and of the listed ones
  module _ (P : ℕ → Type 0) (own : P ours) (listed : (number : ℕ) → is_listed members number ≡ true → P number) where
    abbrev Each : List ℕ → Type 0
    Each [] = Unit {0}
    Each (number ∷ rest) = P number × Each rest

    numbers_each : (entries : List Entry) (from : ℕ) → ((i : ℕ) → (get_or entries i nobody).listed ≡ true → P (from + i)) → Each (numbers_from from entries)
    numbers_each [] from f = tt
    numbers_each (entry ∷ rest) from f =
        by entry.listed refl
        (numbers_each rest (suc from) (λ i e. let s : from + suc i ≡ suc from + i = omega arith in subst P s (f (suc i) e)))
      where
        by : (test : Bool) → entry.listed ≡ test → Each (numbers_from (suc from) rest)
            → Each (cond test (from ∷ numbers_from (suc from) rest) (numbers_from (suc from) rest))
        by true e more = let s : from + 0 ≡ from = omega arith in (subst P s (f 0 e), more)
        by false e more = more

    ours_each : (numbers : List ℕ) → Each numbers → Each (with_ours ours numbers)
    ours_each [] p = (own, tt)
    ours_each (number ∷ rest) p = by (ltb ours number) (ours_each rest p.1)
      where
        by : (test : Bool) → Each (with_ours ours rest) → Each (cond test (ours ∷ number ∷ rest) (number ∷ with_ours ours rest))
        by true more = (own, p)
        by false more = (p.0, more)

    ring_each : Each (ring_of ours members)
    ring_each = ours_each (numbers_of members) (numbers_each members.entries 0 (λ i e. let s : i ≡ 0 + i = omega arith in subst P s (listed i e)))

    above : (x : ℕ) (numbers : List ℕ) (d : ℕ) → P d → Each numbers → P (first_above x numbers d)
    above x [] d p q = p
    above x (y ∷ numbers) d p q = by (ltb x y) (above x numbers d p q.1)
      where
        by : (test : Bool) → P (first_above x numbers d) → P (cond test y (first_above x numbers d))
        by true more = q.0
        by false more = more

    next_in_lem : (numbers : List ℕ) (x : ℕ) → P x → Each numbers → P (next numbers x)
    next_in_lem [] x p q = p
    next_in_lem (y ∷ numbers) x p q = above x (y ∷ numbers) y q.0 q

    pub next_has : (number : ℕ) → P number → P (next_after ours members number)
    next_has number p = next_in_lem (ring_of ours members) number p ring_each

    first_has : (numbers : List ℕ) → Each (with_ours ours numbers) → P (first_of (with_ours ours numbers))
    first_has [] p = p.0
    first_has (number ∷ rest) p = by (ltb ours number) p
      where
        by : (test : Bool) → Each (cond test (ours ∷ number ∷ rest) (number ∷ with_ours ours rest)) → P (first_of (cond test (ours ∷ number ∷ rest) (number ∷ with_ours ours rest)))
        by true p = p.0
        by false p = p.0

    pub smallest_has : P (smallest ours members)
    smallest_has = first_has (numbers_of members) ring_each

  -- next and the smallest are 1 to 254
  pub next_station_lem : (number : ℕ) → is_station ours ≡ true → is_station number ≡ true → is_station (next_after ours members number) ≡ true
  next_station_lem number own e = next_has (λ n. is_station n ≡ true) own (λ n l. (ok.each n l).station) number e

  pub smallest_station : is_station ours ≡ true → is_station (smallest ours members) ≡ true
  smallest_station own = smallest_has (λ n. is_station n ≡ true) own (λ n l. (ok.each n l).station)

-- areas of size 0 are in range where the addresses were
pub bare_range : (areas : Areas) → in_range areas ≡ true → in_range (bare areas) ≡ true
bare_range areas e =
    let one = leb-true (areas.one.address + areas.one.size) 512 (first (in_area One areas.one) (in_area Two areas.two) e) in
    let two = leb-true (areas.two.address + areas.two.size) 8192 (second (in_area One areas.one) (in_area Two areas.two) e) in
    let p : areas.one.address + 0 ≤ 512 = omega arith in
    let q : areas.two.address + 0 ≤ 8192 = omega arith in
    both (le-leb (areas.one.address + 0) 512 p) (le-leb (areas.two.address + 0) 8192 q)

pub listing_kept : {ours : ℕ} {members : Members} (number : ℕ) (areas : Areas) (watch : Milliseconds) (due : Areas) → Listed ours members
    → is_station number ≡ true → eqb number ours ≡ false → in_range areas ≡ true → watch.0 ≤ 255 → Listed ours (listing members number areas watch due)
listing_kept {ours} {members} number areas watch due ok s o r w = entry_kept ok number _ (λ e. record {
  station = s;
  other = o;
  areas = by (overlaps_other members number areas || areas_overlap areas due);
  watch = w;
  misses = omega arith;
})
  where
    by : (test : Bool) → in_range (cond test (bare areas) areas) ≡ true
    by true = bare_range areas r
    by false = r

-- what is gathered stays in place
abbrev Stands : ℕ → Entry → Type 0
Stands blocks entry = (entry.listed ≡ true) × (blocks < blocks_of entry.areas)

module _ {members : Members} {gathering : Gathering} (p : Placed members gathering) where
  pub placed_with : (number : ℕ) (entry : Entry) → (gathering.source ≡ number → Stands gathering.blocks entry)
      → Placed (with_entry members number entry) gathering
  placed_with number entry f =
      let q = set_either (Stands gathering.blocks) members.entries number entry gathering.source f (p.listed, p.blocks) in
      record { listed = q.0; some = p.some; blocks = q.1 }

  pub placed_misses : (number misses : ℕ) → Placed (with_entry members number (misses_set misses (entry_of members number))) gathering
  placed_misses number misses =
      placed_with number (misses_set misses (entry_of members number))
      (λ same. subst (λ (n : ℕ). Stands gathering.blocks (entry_of members n)) same (p.listed, p.blocks))
