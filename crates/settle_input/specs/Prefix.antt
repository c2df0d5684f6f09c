-- The answer for an input of any size is the answer for its first 2,040 octets, or more of them. Assumes nothing.
use Rattle.laws.specs.Usual.{refl, sym, ap, ◌∙◌, List, [], ℕ, suc, arith, length, take, drop, set, replicate}
use Rattle.std.specs.Prelude.{Option, None, Some, Result, Ok, Err, ◌≡◌, ◌∷◌, ◌+◌, ◌-◌, ◌*◌, ◌<◌, ◌≤◌, zero}
use Rattle.std.proofs.Common.{zero-add, suc-add, lt-ltb, le-ltb, ne_eqb, take_all, take-take}
use Rattle.std.proofs.Math.Decide.{dec_le, dec_lt}
use Rattle.std.proofs.Math.ListN.{length-take, length-drop}
use Rattle.std.proofs.Math.Seq.{take-nil}
use Rattle.std.proofs.lemmas.Option.{same_Some}
use Rattle.text.specs.Lines.{line_feed}
use Rattle.text_reading.proofs.MarkLaws.{before_front, before_whole}
use Rattle.text_reading.specs.Marks.{before}
use Rattle.settle_views.specs.declared.Ring.{Ring}
use Rattle.settle_input.specs.declared.BadLine.{BadLine}
use Rattle.settle_input.specs.Input.{lines_of, station_in, view_in, forms_from, forms_of, unlisted_of, listed_in, read_of, first_line}
use Rattle.settle_input.specs.Form.{empty_list, line_with_end}
use Rattle.settle_input.specs.Lines.{lines_first}
use Rattle.settle_input.specs.Short.{short_line, station_most}

-- what is left of the front of a list
drop_front : (k j : ℕ) (l : List ℕ) → drop k (take (k + j) l) ≡ take j (drop k l)
drop_front zero j l = ap (λ (n : ℕ). take n l) (zero-add j)
drop_front (suc k) j [] = ap (drop (suc k)) (take-nil (suc k + j)) ∙ sym (take-nil j)
drop_front (suc k) j (x ∷ l) = rw (suc-add k j) (drop_front k j l)

-- the station of the first line
station_of : List ℕ → ℕ
station_of octets = station_in (first_line octets)

-- the views so far with the view of the first line
abbrev views_with : List ℕ → List ℕ → List ℕ
views_with views octets = set views (station_in (first_line octets)) (view_in (first_line octets))

station_top : (octets : List ℕ) → station_of octets ≤ 254
unfolding station_of
station_top octets = station_most (first_line octets)

-- what stands behind the first line
rest_of : List ℕ → List ℕ
rest_of octets = drop (length (first_line octets)) octets

-- a line that ends in the front of octets is the same in the front
same_line : (m : ℕ) (octets : List ℕ) → before line_feed octets < m → first_line (take m octets) ≡ first_line octets
same_line m octets h =
    ap (λ (k : ℕ). take (suc k) (take m octets)) (before_front line_feed m octets h)
    ∙ take-take (suc (before line_feed octets)) m octets (omega arith)

-- so a first line with an entry, in a front of 8 octets or in all, is the same in both
entry_same : (m : ℕ) (octets : List ℕ) → 8 ≤ m → ¬ (station_of octets ≡ 0) → first_line (take m octets) ≡ first_line octets
unfolding station_of
entry_same m octets h n = same_line m octets (omega (arith, short_line octets n))

front_same : (m : ℕ) (octets : List ℕ) → ¬ (station_of (take m octets) ≡ 0) → first_line (take m octets) ≡ first_line octets
unfolding station_of
front_same m octets n =
    let (inside, near) = short_line (take m octets) n in
    same_line m octets (omega (arith, before_whole line_feed m octets inside, length-take m octets))

-- the line of bad form, where there is one
abbrev bad_in : Result Ring BadLine → Option BadLine
bad_in (Ok ring) = None
bad_in (Err number) = Some number

-- the bad line that is found, where some lines are left
module _ (number below : ℕ) (views octets : List ℕ) (some : 0 < length octets) where
  bad_here : station_of octets ≤ below → bad_in (forms_from number below views (lines_of octets)) ≡ Some (record { 0 = number })
  unfolding forms_from station_of
  bad_here low = ap (λ (l : List (List ℕ)). bad_in (forms_from number below views l)) (lines_first octets some) ∙ rw (le-ltb _ _ low)

  bad_later : below < station_of octets
      → bad_in (forms_from number below views (lines_of octets))
      ≡ bad_in (forms_from (suc number) (station_of octets) (views_with views octets) (lines_of (rest_of octets)))
  unfolding forms_from station_of rest_of
  bad_later high = ap (λ (l : List (List ℕ)). bad_in (forms_from number below views l)) (lines_first octets some) ∙ rw (lt-ltb _ _ high)

  -- a line with an entry, and what is left
  line_length : below < station_of octets → (length octets ≤ 8 + length (rest_of octets)) × (length (rest_of octets) < length octets)
  unfolding station_of rest_of
  line_length high =
      let (inside, near) = short_line octets (λ z. omega arith) in
      let long = line_with_end octets inside in
      (omega (arith, length-drop (length (first_line octets)) octets), omega (arith, length-drop (length (first_line octets)) octets))

-- what is left behind the same first line of a front is a front of what is left of all
rest_front : (m : ℕ) (octets : List ℕ) → 8 ≤ m → ¬ (station_of octets ≡ 0)
    → (j : ℕ) × (m ≤ j + 8) × (rest_of (take m octets) ≡ take j (rest_of octets))
unfolding rest_of station_of
rest_front m octets h n =
    let (inside, near) = short_line octets n in
    let size : length (first_line octets) ≤ 8 = omega (arith, line_with_end octets inside) in
    let split : m ≡ length (first_line octets) + (m - length (first_line octets)) = omega arith in (
      m - length (first_line octets),
      omega arith,
      ap (λ (l : List ℕ). drop (length l) (take m octets)) (same_line m octets (omega arith))
          ∙ ap (λ (k : ℕ). drop (length (first_line octets)) (take k octets)) split
          ∙ drop_front (length (first_line octets)) (m - length (first_line octets)) octets,
    )

-- One line, and what the claims below say of what is left behind it.
module _ (number below : ℕ) (views octets : List ℕ) (some : 0 < length octets) where
  no_bad_step : (length (rest_of octets) < length octets
      → bad_in (forms_from (suc (suc number)) (station_of octets) (views_with views octets) (lines_of (rest_of octets))) ≡ None
      → length (rest_of octets) ≤ 8 * (254 - station_of octets))
      → bad_in (forms_from (suc number) below views (lines_of octets)) ≡ None → length octets ≤ 8 * (254 - below)
  no_bad_step rest e = go (dec_lt below (station_of octets))
    where
      go : Dec (below < station_of octets) → length octets ≤ 8 * (254 - below)
      go (yes high) =
          let (long, less) = line_length (suc number) below views octets some high in
          let left = rest less (sym (bad_later (suc number) below views octets some high) ∙ e) in
          omega (arith, station_top octets)
      go (no low) = let here = bad_here (suc number) below views octets some (omega arith) in absurd (cc)

  bad_front_step : (m : ℕ) → 8 * (254 - below) + 8 ≤ m
      → ((j : ℕ) → length (rest_of octets) < length octets → 8 * (254 - station_of octets) + 8 ≤ j
      → bad_in (forms_from (suc number) (station_of octets) (views_with views octets) (lines_of (take j (rest_of octets))))
      ≡ bad_in (forms_from (suc number) (station_of octets) (views_with views octets) (lines_of (rest_of octets))))
      → bad_in (forms_from number below views (lines_of (take m octets))) ≡ bad_in (forms_from number below views (lines_of octets))
  unfolding station_of
  bad_front_step m room rest = go (dec_lt below (station_of octets))
    where
      some_front : 0 < length (take m octets)
      some_front = omega (arith, length-take m octets)

      both : first_line (take m octets) ≡ first_line octets → station_of (take m octets) ≡ station_of octets
      both e = ap (λ (l : List ℕ). station_in l) e

      go : Dec (below < station_of octets) → bad_in (forms_from number below views (lines_of (take m octets))) ≡ bad_in (forms_from number below views (lines_of octets))
      go (yes high) =
          let n : ¬ (station_of octets ≡ 0) = λ z. omega arith in
          let line = entry_same m octets (omega arith) n in
          let (j, near, left) = rest_front m octets (omega arith) n in
          let (long, less) = line_length number below views octets some high in
          bad_later number below views (take m octets) some_front (omega (arith, both line))
          ∙ ap (λ (l : List ℕ). bad_in (forms_from (suc number) (station_in l) (set views (station_in l) (view_in l)) (lines_of (rest_of (take m octets))))) line
          ∙ ap (λ (l : List ℕ). bad_in (forms_from (suc number) (station_of octets) (views_with views octets) (lines_of l))) left
          ∙ rest j less (omega (arith, station_top octets))
          ∙ sym (bad_later number below views octets some high)
      go (no low) =
          bad_here number below views (take m octets) some_front (front (dec_lt below (station_of (take m octets))))
          ∙ sym (bad_here number below views octets some (omega arith))
        where
          front : Dec (below < station_of (take m octets)) → station_of (take m octets) ≤ below
          front (yes h) = absurd (low (omega (arith, both (front_same m octets (λ z. omega arith)))))
          front (no h) = omega arith

-- An input with no line of bad form has at most 8 octets for each number that a station can still have.
no_bad : (fuel number below : ℕ) (views octets : List ℕ) → length octets < fuel
    → bad_in (forms_from (suc number) below views (lines_of octets)) ≡ None → length octets ≤ 8 * (254 - below)
no_bad zero number below views octets h e = absurd (omega arith)
no_bad (suc fuel) number below views octets h e = go (dec_lt 0 (length octets))
    (λ less. no_bad fuel (suc number) (station_of octets) (views_with views octets) (rest_of octets) (omega arith))
  where
    go : Dec (0 < length octets)
        → (length (rest_of octets) < length octets
        → bad_in (forms_from (suc (suc number)) (station_of octets) (views_with views octets) (lines_of (rest_of octets))) ≡ None
        → length (rest_of octets) ≤ 8 * (254 - station_of octets))
        → length octets ≤ 8 * (254 - below)
    go (yes some) rest = no_bad_step number below views octets some rest e
    go (no none) rest = omega arith

-- The first line of bad form is the same in a front that has 8 octets for each number that a station can still have, and 8 more.
bad_front : (fuel number below m : ℕ) (views octets : List ℕ) → length octets < fuel → 8 * (254 - below) + 8 ≤ m
    → bad_in (forms_from number below views (lines_of (take m octets))) ≡ bad_in (forms_from number below views (lines_of octets))
bad_front zero number below m views octets h room = absurd (omega arith)
bad_front (suc fuel) number below m views octets h room = go (dec_lt 0 (length octets))
    (λ j less. bad_front fuel (suc number) (station_of octets) j (views_with views octets) (rest_of octets) (omega arith))
  where
    go : Dec (0 < length octets)
        → ((j : ℕ) → length (rest_of octets) < length octets → 8 * (254 - station_of octets) + 8 ≤ j
        → bad_in (forms_from (suc number) (station_of octets) (views_with views octets) (lines_of (take j (rest_of octets))))
        ≡ bad_in (forms_from (suc number) (station_of octets) (views_with views octets) (lines_of (rest_of octets))))
        → bad_in (forms_from number below views (lines_of (take m octets))) ≡ bad_in (forms_from number below views (lines_of octets))
    go (yes some) rest = bad_front_step number below views octets some m room rest
    go (no none) rest =
        let nothing = empty_list octets (omega arith) in
        ap (λ (l : List ℕ). bad_in (forms_from number below views (lines_of l)))
        (ap (take m) nothing ∙ take-nil m ∙ sym nothing)

-- an answer that names a line of bad form
names : (octets : List ℕ) → 0 < length octets → (number : BadLine) → bad_in (forms_of octets) ≡ Some number → read_of octets ≡ Err number
names octets some number e = rw (ne_eqb (length octets) 0 (λ z. omega arith)) (go (forms_of octets) e)
  where
    go : (forms : Result Ring BadLine) → bad_in forms ≡ Some number → listed_in (unlisted_of octets) forms ≡ Err number
    go (Ok ring) e = absurd (cc)
    go (Err other) e = ap Err (same_Some other number e)

pub read_prefix : (m : ℕ) (octets : List ℕ) → 2040 ≤ m → read_of (take m octets) ≡ read_of octets
read_prefix m octets room = go (dec_le (length octets) m)
  where
    go : Dec (length octets ≤ m) → read_of (take m octets) ≡ read_of octets
    go (yes h) = ap read_of (take_all m octets h)
    go (no h) = by (bad_in (forms_of octets)) refl
      where
        same : bad_in (forms_of (take m octets)) ≡ bad_in (forms_of octets)
        same = bad_front (suc (length octets)) 1 0 m (replicate 256 0) octets (omega arith) (omega arith)

        by : (found : Option BadLine) → bad_in (forms_of octets) ≡ found → read_of (take m octets) ≡ read_of octets
        by None e = absurd (omega (arith, no_bad (suc (length octets)) 0 0 (replicate 256 0) octets (omega arith) e))
        by (Some number) e = names (take m octets) (omega (arith, length-take m octets)) number (same ∙ e) ∙ sym (names octets (omega arith) number e)
