-- The list that the arrays hold: its entries, its changes, next, and that it says all of the arrays. Assumes nothing.
use Rattle.laws.specs.Usual.{refl, sym, ap, ap₂, ◌∙◌, Bool, false, cond, List, [], ℕ, suc, arith, length, get_or, set}
use Rattle.std.specs.Prelude.{◌≡◌, ◌∷◌, ◌+◌, ◌*◌, ◌/◌, ◌%◌, ◌<◌, ◌≢◌, zero}
use Rattle.std.proofs.Math.Decide.{ℕ_discrete}
use Rattle.std.proofs.Common.{zero-add, length-set, ext_get_or, get_or-set_same, get_or-set_other}
use Rattle.members.specs.Members.{nobody, entry_of, is_listed, with_entry, cleared, numbers_from, numbers_of, with_ours, next_after}
use Rattle.settling.specs.Ring.{next}
use Rattle.members.specs.declared.Entry.{Entry}
use Rattle.members.specs.declared.Members.{Members}
use Rattle.boundary_lists.specs.Lists.{entry_in, entries_from, members_in, flagged, Whole, next_in}

-- so many entries are made
entries_length : (entry : ℕ → Entry) (number count : ℕ) → length (entries_from entry number count) ≡ count
entries_length entry number zero = refl
entries_length entry number (suc count) = ap suc (entries_length entry (suc number) count)

-- each number's entry stands at its place
entries_at : (entry : ℕ → Entry) (number count i : ℕ) → i < count → get_or (entries_from entry number count) i nobody ≡ entry (number + i)
entries_at entry number zero i h = absurd (omega arith)
entries_at entry number (suc count) zero h = let e : number ≡ number + 0 = omega arith in ap entry e
entries_at entry number (suc count) (suc i) h =
    let e : suc number + i ≡ number + suc i = omega arith in
    entries_at entry (suc number) count i (omega arith) ∙ ap entry e

module _ (listed : List Bool) (areas watch misses : List ℕ) where
  pub length_in : length (members_in listed areas watch misses).entries ≡ 256
  unfolding members_in
  length_in = entries_length (entry_in listed areas watch misses) 0 256

  pub entry_in_lem : (number : ℕ) → number < 256 → entry_of (members_in listed areas watch misses) number ≡ entry_in listed areas watch misses number
  unfolding members_in
  entry_in_lem number h =
      entries_at (entry_in listed areas watch misses) 0 256 number h
      ∙ ap (entry_in listed areas watch misses) (zero-add number)

  pub listed_in : (number : ℕ) → number < 256 → is_listed (members_in listed areas watch misses) number ≡ get_or listed number false
  listed_in number h = ap (λ (entry : Entry). entry.listed) (entry_in_lem number h)

-- a list is its entries
made : List Entry → Members
made entries = record { entries = entries }

-- lists with the same entries are the same
same_entries : (a b : Members) → length a.entries ≡ 256 → length b.entries ≡ 256
    → ((i : ℕ) → i < 256 → entry_of a i ≡ entry_of b i) → a ≡ b
unfolding made
same_entries a b all_a all_b same =
    ap made (ext_get_or nobody a.entries b.entries (all_a ∙ sym all_b) (λ i h. same i (omega arith)))

-- a change of one entry in the arrays is that change in the list
module _ (l₀ : List Bool) (a₀ w₀ m₀ : List ℕ) (l : List Bool) (a w m : List ℕ) (number : ℕ) (entry : Entry) (h : number < 256) where
  pub changed_in : entry_in l a w m number ≡ entry → ((i : ℕ) → i ≢ number → entry_in l a w m i ≡ entry_in l₀ a₀ w₀ m₀ i)
      → members_in l a w m ≡ with_entry (members_in l₀ a₀ w₀ m₀) number entry
  changed_in this others =
      same_entries (members_in l a w m) (with_entry (members_in l₀ a₀ w₀ m₀) number entry)
      (length_in l a w m)
      (length-set old number entry ∙ length_in l₀ a₀ w₀ m₀)
      (λ i below. entry_in_lem l a w m i below ∙ at i below (ℕ_discrete i number))
    where
      old : List Entry
      old = (members_in l₀ a₀ w₀ m₀).entries

      there : get_or (set old number entry) number nobody ≡ entry
      there = get_or-set_same old number entry nobody (omega (arith, length_in l₀ a₀ w₀ m₀))

      at : (i : ℕ) → i < 256 → Dec (i ≡ number) → entry_in l a w m i ≡ get_or (set old number entry) i nobody
      at i below (yes e) = ap (entry_in l a w m) e ∙ this ∙ sym there ∙ ap (λ (place : ℕ). get_or (set old number entry) place nobody) (sym e)
      at i below (no other) = others i other ∙ sym (entry_in_lem l₀ a₀ w₀ m₀ i below) ∙ sym (get_or-set_other old number i entry nobody other)

-- a 0 that is stored is read, as past the end
emptied : (l : List ℕ) (i : ℕ) → get_or (set l i 0) i 0 ≡ 0
emptied [] i = refl
emptied (x ∷ l) zero = refl
emptied (x ∷ l) (suc i) = emptied l i

-- "Every accepted cyclic frame .. clears the source's misses."
pub cleared_in : (listed : List Bool) (areas watch misses : List ℕ) (number : ℕ) → number < 256
    → members_in listed areas watch (set misses number 0) ≡ cleared (members_in listed areas watch misses) number
cleared_in listed areas watch misses number h =
    changed_in listed areas watch misses listed areas watch (set misses number 0) number _ h
    (rw (emptied misses number, entry_in_lem listed areas watch misses number h))
    (λ i other. rw (get_or-set_other misses number i 0 0 other))

-- entries with the same flags have the same listed numbers
same_numbers : (f g : ℕ → Entry) → ((i : ℕ) → (f i).listed ≡ (g i).listed) → (number count : ℕ)
    → numbers_from number (entries_from f number count) ≡ numbers_from number (entries_from g number count)
same_numbers f g same number zero = refl
same_numbers f g same number (suc count) =
    ap₂ (λ (flag : Bool) (numbers : List ℕ). cond flag (number ∷ numbers) numbers) (same number) (same_numbers f g same (suc number) count)

-- who is listed and next are the list's
module _ (listed : List Bool) (areas watch misses : List ℕ) where
  pub numbers_in : numbers_of (flagged listed) ≡ numbers_of (members_in listed areas watch misses)
  unfolding members_in
  numbers_in = same_numbers (entry_in listed [] [] []) (entry_in listed areas watch misses) (λ i. refl) 0 256

  pub next_in_lem : (ours number : ℕ) → next_in ours listed number ≡ next_after ours (members_in listed areas watch misses) number
  next_in_lem ours number = ap (λ (numbers : List ℕ). next (with_ours ours numbers) number) numbers_in

-- what the list is says every number of the arrays
module _ (l : List Bool) (a w m : List ℕ) (l' : List Bool) (a' w' m' : List ℕ) (whole : Whole l a w m) (whole' : Whole l' a' w' m')
    (same : members_in l a w m ≡ members_in l' a' w' m') where
  entry_told : (i : ℕ) → i < 256 → entry_in l a w m i ≡ entry_in l' a' w' m' i
  entry_told i h = sym (entry_in_lem l a w m i h) ∙ ap (λ (members : Members). entry_of members i) same ∙ entry_in_lem l' a' w' m' i h

  areas_told : (i : ℕ) → i < 256 → (k : ℕ) → k < 4 → get_or a (4 * i + k) 0 ≡ get_or a' (4 * i + k) 0
  areas_told i h zero _ =
      let start : 4 * i + 0 ≡ 4 * i = omega arith in
      rw start (ap (λ (entry : Entry). entry.areas.one.address) (entry_told i h))
  areas_told i h (suc zero) _ = ap (λ (entry : Entry). entry.areas.one.size) (entry_told i h)
  areas_told i h (suc (suc zero)) _ = ap (λ (entry : Entry). entry.areas.two.address) (entry_told i h)
  areas_told i h (suc (suc (suc zero))) _ = ap (λ (entry : Entry). entry.areas.two.size) (entry_told i h)
  areas_told i h (suc (suc (suc (suc k)))) few = absurd (omega arith)

  pub list_told : (l ≡ l') × (a ≡ a') × (w ≡ w') × (m ≡ m')
  list_told = (
    ext_get_or false l l' (omega arith) (λ i h. ap (λ (entry : Entry). entry.listed) (entry_told i (omega arith))),
    ext_get_or 0 a a' (omega arith) areas_at,
    ext_get_or 0 w w' (omega arith) (λ i h. ap (λ (entry : Entry). entry.watch.0) (entry_told i (omega arith))),
    ext_get_or 0 m m' (omega arith) (λ i h. ap (λ (entry : Entry). entry.misses) (entry_told i (omega arith))),
  )
    where
      areas_at : (place : ℕ) → place < length a → get_or a place 0 ≡ get_or a' place 0
      areas_at place h =
          let parts : place ≡ 4 * (place / 4) + place % 4 = omega arith in
          rw parts (areas_told (place / 4) (omega arith) (place % 4) (omega arith))
