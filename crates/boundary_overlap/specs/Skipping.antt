-- Numbers that are not listed are passed over when an overlap is looked for. Assumes nothing.
use Rattle.std.specs.Prelude.{◌≡◌, ◌+◌, ◌-◌, ◌<◌, ◌≤◌}
use Rattle.laws.specs.Usual.{refl, sym, ap, ◌∙◌, Bool, true, false, List, ℕ, suc, min, arith, length, get_or, drop}
use Prim.Native.Nat.{zero}
use Rattle.area.specs.declared.Areas.{Areas}
use Rattle.boundary_flags.specs.Search.{first_skip, first_here, first_past}
use Rattle.boundary_lists.specs.Laws.{length_in, listed_in}
use Rattle.boundary_lists.specs.Lists.{members_in, flagged}
use Rattle.members.specs.Listing.{overlap_from}
use Rattle.members.specs.Loops.{overlap_more}
use Rattle.members.specs.declared.Entry.{Entry}
use Rattle.members_searching.specs.Search.{first_from, number_or}

-- the first listed number from a number on, or 256
abbrev pub first_listed : List Bool → ℕ → ℕ
first_listed listed from = min 256 (number_or 256 (first_from from (flagged listed)))

module _ (listed : List Bool) (areas watch misses : List ℕ) (but : ℕ) (parts : Areas) where
  abbrev entries : List Entry
  entries = (members_in listed areas watch misses).entries

  -- an overlap from a number on
  abbrev pub overlap_at : ℕ → Bool
  overlap_at from = overlap_from from but parts (drop from (members_in listed areas watch misses).entries)

  unlisted : (from : ℕ) → from < 256 → get_or listed from false ≡ false → overlap_at from ≡ overlap_at (from + 1)
  unlisted from h e =
      let all : length entries ≡ 256 = length_in listed areas watch misses in
      overlap_more entries from but parts (omega arith) ∙ rw (listed_in listed areas watch misses from h ∙ e)

  Passed : ℕ → Type 0
  Passed from = (overlap_at from ≡ overlap_at (first_listed listed from)) × (from ≤ first_listed listed from)

  here : (from : ℕ) → from ≡ first_listed listed from → Passed from
  unfolding Passed
  here from same = (ap overlap_at same, omega (arith, same))

  go : (count from : ℕ) → from + count ≡ 256 → Passed from
  unfolding Passed
  go zero from e =
      let past = first_past 256 from (flagged listed) (omega arith) in
      here from (omega (arith, past))
  go (suc count) from e = by (get_or listed from false) refl (go count (from + 1) (omega arith))
    where
      h : from < 256
      h = omega arith

      by : (flag : Bool) → get_or listed from false ≡ flag → Passed (from + 1) → Passed from
      by true l rest =
          let first = first_here listed from h 256 l in
          here from (omega (arith, first, h))
      by false l rest =
          let same = ap (λ first. min 256 (number_or 256 first)) (first_skip listed from h l) in
          (unlisted from h l ∙ rest.0 ∙ ap overlap_at (sym same), omega (arith, rest.1, same))

  -- the same overlap is found from the first listed number on, which is not below
  pub passed_over : (from : ℕ) → from ≤ 256 → (overlap_at from ≡ overlap_at (first_listed listed from)) × (from ≤ first_listed listed from)
  unfolding Passed
  passed_over from h = go (256 - from) from (omega arith)
