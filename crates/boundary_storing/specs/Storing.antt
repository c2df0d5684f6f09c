-- An entry stored in the arrays is stored in the list that they hold, and arrays of nothing hold none. Assumes nothing.
use Rattle.laws.specs.Usual.{refl, ap, ap₂, Bool, false, List, ℕ, suc, arith, length, get_or, set, replicate}
use Rattle.std.specs.Prelude.{◌≡◌, ◌∷◌, ◌+◌, ◌*◌, ◌<◌, ◌≤◌, ◌≢◌, zero}
use Rattle.std.proofs.Common.{length-set, get_or-set_same, get_or-set_other}
use Rattle.area.specs.declared.Areas.{Areas}
use Rattle.members.specs.Members.{nobody, no_members, with_entry}
use Rattle.members.specs.declared.Entry.{Entry}
use Rattle.members.specs.declared.Members.{Members}
use Rattle.boundary_lists.specs.Lists.{areas_from, entry_in, entries_from, members_in, Whole}
use Rattle.boundary_lists.specs.Laws.{changed_in}

-- areas stored in four places in a row
abbrev pub areas_put : List ℕ → ℕ → Areas → List ℕ
areas_put areas start values =
    set (set (set (set areas start values.one.address) (start + 1) values.one.size) (start + 2) values.two.address) (start + 3) values.two.size

-- they are read there
put_there : (areas : List ℕ) (start : ℕ) (values : Areas) → start + 3 < length areas → areas_from (areas_put areas start values) start ≡ values
put_there areas start values h =
    let a : start ≢ start + 1 = λ e. omega arith in
    let b : start ≢ start + 2 = λ e. omega arith in
    let c : start ≢ start + 3 = λ e. omega arith in
    let d : start + 1 ≢ start + 2 = λ e. omega arith in
    let e : start + 1 ≢ start + 3 = λ e. omega arith in
    let f : start + 2 ≢ start + 3 = λ e. omega arith in
    let one : List ℕ = set areas start values.one.address in
    let two : List ℕ = set one (start + 1) values.one.size in
    let three : List ℕ = set two (start + 2) values.two.address in
    let at_0 : start < length areas = omega arith in
    let at_1 : start + 1 < length one = simp length-set (omega arith) in
    let at_2 : start + 2 < length two = simp length-set (omega arith) in
    let at_3 : start + 3 < length three = simp length-set (omega arith) in
    simp (get_or-set_other, get_or-set_same)

-- another number's areas are as they were
module _ (areas : List ℕ) (number : ℕ) (values : Areas) (i : ℕ) (other : i ≢ number) where
  place_other : (place : ℕ) → 4 * i ≤ place → place ≤ 4 * i + 3 → get_or (areas_put areas (4 * number) values) place 0 ≡ get_or areas place 0
  place_other place low high =
      let a : place ≢ 4 * number = λ e. other (omega arith) in
      let b : place ≢ 4 * number + 1 = λ e. other (omega arith) in
      let c : place ≢ 4 * number + 2 = λ e. other (omega arith) in
      let d : place ≢ 4 * number + 3 = λ e. other (omega arith) in
      simp get_or-set_other

  put_elsewhere : areas_from (areas_put areas (4 * number) values) (4 * i) ≡ areas_from areas (4 * i)
  put_elsewhere =
      rw (
        place_other (4 * i) (omega arith) (omega arith),
        place_other (4 * i + 1) (omega arith) (omega arith),
        place_other (4 * i + 2) (omega arith) (omega arith),
        place_other (4 * i + 3) (omega arith) (omega arith),
      )

-- an entry stored in the arrays is stored in the list
pub put_in : (listed : List Bool) (areas watch misses : List ℕ) (number : ℕ) (entry : Entry) → number < 256 → Whole listed areas watch misses
    → members_in (set listed number entry.listed) (areas_put areas (4 * number) entry.areas) (set watch number entry.watch.0) (set misses number entry.misses)
    ≡ with_entry (members_in listed areas watch misses) number entry
put_in listed areas watch misses number entry h whole =
    changed_in listed areas watch misses _ _ _ _ number entry h
    (rw (
      get_or-set_same listed number entry.listed false (omega arith),
      put_there areas (4 * number) entry.areas (omega arith),
      get_or-set_same watch number entry.watch.0 0 (omega arith),
      get_or-set_same misses number entry.misses 0 (omega arith),
    ))
    (λ i other.
    rw (
      get_or-set_other listed number i entry.listed false other,
      put_elsewhere areas number entry.areas i other,
      get_or-set_other watch number i entry.watch.0 0 other,
      get_or-set_other misses number i entry.misses 0 other,
    ))

-- arrays of nothing hold an empty list
nothing_at : {A : Type 0} (count place : ℕ) (a : A) → get_or (replicate count a) place a ≡ a
nothing_at zero place a = refl
nothing_at (suc count) zero a = refl
nothing_at (suc count) (suc place) a = nothing_at count place a

module _ (l a w m : ℕ) where
  entry_none : (i : ℕ) → entry_in (replicate l false) (replicate a 0) (replicate w 0) (replicate m 0) i ≡ nobody
  entry_none i =
      rw (
        nothing_at l i false,
        nothing_at {A = ℕ} a (4 * i) 0,
        nothing_at {A = ℕ} a (4 * i + 1) 0,
        nothing_at {A = ℕ} a (4 * i + 2) 0,
        nothing_at {A = ℕ} a (4 * i + 3) 0,
        nothing_at {A = ℕ} w i 0,
        nothing_at {A = ℕ} m i 0,
      )

  entries_none : (number count : ℕ)
      → entries_from (entry_in (replicate l false) (replicate a 0) (replicate w 0) (replicate m 0)) number count ≡ replicate count nobody
  entries_none number zero = refl
  entries_none number (suc count) = ap₂ ◌∷◌ (entry_none number) (entries_none (suc number) count)

pub none_in : members_in (replicate 256 false) (replicate 1024 0) (replicate 256 0) (replicate 256 0) ≡ no_members
unfolding members_in
none_in = ap (λ (entries : List Entry). record { entries = entries }) (entries_none 256 1024 256 256 0 256)
