-- How far the loops over numbers are. Assumes nothing.
use Rattle.std.specs.Prelude.{◌≡◌, ◌∷◌, ◌++◌, ◌+◌, ◌<◌, ◌≤◌}
use Rattle.laws.specs.Usual.{[], refl, sym, ap, ◌∙◌, Bool, true, false, cond, not, List, map, ℕ, suc, min, arith, length, get_or, take, drop, set, replicate, eqb}
use Rattle.std.proofs.Math.Numerals.{add-one}
use Rattle.std.proofs.Math.Decide.{ℕ_discrete}
use Rattle.std.proofs.Common.{drop-cons, append-nil, zero-add, eq-eqb, ne_eqb, drop_of_length-le, take_all}
use Rattle.std.proofs.Math.ListN.{length-set}
use Rattle.std.proofs.lemmas.List.{get_or-replicate}
use Rattle.std.proofs.Math.Seq.{take-suc, length-take-le, get_or-set_same, get_or-set_other}
use Rattle.std.specs.List.{filter}
use Rattle.settle_views.specs.Views.{stations_from}
use Rattle.settle_views.proofs.Searches.{listed_views}
use Rattle.settle_moves.specs.Moves.{each}
use Rattle.settle_moves.specs.Each.{is_each}
use Rattle.settle_counts.specs.Counts.{count_in, above_zero, sum_of, most, carried_numbers}
use Rattle.settle_counts.proofs.Sums.{sum_more}
use Rattle.settle_counts.specs.Passing.{is_moved, without_moved}
use Rattle.settle_counts.specs.Loops.{Counting, Taking, Carrying}

-- the numbers above 0 from a place on
module _ (numbers : List ℕ) (i : ℕ) where
  pub above_end : length numbers ≤ i → above_zero (drop i numbers) ≡ 0
  above_end h = ap above_zero (drop_of_length-le numbers h)

  pub above_none : i < length numbers → get_or numbers i 0 ≡ 0 → above_zero (drop i numbers) ≡ above_zero (drop (i + 1) numbers)
  above_none h e = rw (add-one, drop-cons numbers i 0, eq-eqb _ _ e)

  pub above_some : i < length numbers → ¬ (get_or numbers i 0 ≡ 0) → above_zero (drop i numbers) ≡ suc (above_zero (drop (i + 1) numbers))
  above_some h n = rw (add-one, drop-cons numbers i 0, ne_eqb _ _ n)

-- one view more at the end
count_push : (view : ℕ) (l : List ℕ) (x : ℕ) → count_in view (l ++ (x ∷ [])) ≡ count_in view l + cond (eqb x view) 1 0
count_push view [] x = by (eqb x view)
  where
    by : (t : Bool) → cond t 1 0 ≡ 0 + cond t 1 0
    by true = refl
    by false = refl
count_push view (y ∷ l) x = by (eqb y view) (count_push view l x)
  where
    by : (t : Bool) → count_in view (l ++ (x ∷ [])) ≡ count_in view l + cond (eqb x view) 1 0
        → cond t (suc (count_in view (l ++ (x ∷ [])))) (count_in view (l ++ (x ∷ []))) ≡ cond t (suc (count_in view l)) (count_in view l) + cond (eqb x view) 1 0
    by true e = omega (arith, e)
    by false e = e

abbrev listed : List ℕ → List ℕ
listed views = filter (λ v. not (eqb v 0)) views

listed_push : (views : List ℕ) (x : ℕ) → listed (views ++ (x ∷ [])) ≡ listed views ++ cond (eqb x 0) [] (x ∷ [])
listed_push [] x = by (eqb x 0)
  where
    by : (t : Bool) → cond (not t) (x ∷ []) [] ≡ cond t [] (x ∷ [])
    by true = refl
    by false = refl
listed_push (y ∷ views) x = by (eqb y 0) (listed_push views x)
  where
    by : (t : Bool) → listed (views ++ (x ∷ [])) ≡ listed views ++ cond (eqb x 0) [] (x ∷ [])
        → cond (not t) (y ∷ listed (views ++ (x ∷ []))) (listed (views ++ (x ∷ []))) ≡ cond (not t) (y ∷ listed views) (listed views) ++ cond (eqb x 0) [] (x ∷ [])
    by true e = e
    by false e = ap (λ (l : List ℕ). y ∷ l) e

pub counting_none : (views : List ℕ) → Counting views (replicate 256 0) 0
counting_none views = record {
  long = refl;
  counts = λ view low. get_or-replicate 256 view 0 0 low;
  few = λ view low. omega (arith, get_or-replicate {A = ℕ} 256 view 0 0 low);
}

module _ {views numbers : List ℕ} {station : ℕ} (inside : station < length views) (c : Counting views numbers station) where
  own : ℕ
  own = get_or views station 0

  front : listed (take (station + 1) views) ≡ listed (take station views) ++ cond (eqb own 0) [] (own ∷ [])
  unfolding own
  front = ap (λ (k : ℕ). listed (take k views)) (add-one station) ∙ ap listed (take-suc views station 0 inside) ∙ listed_push (take station views) (get_or views station 0)

  pub counting_skip : get_or views station 0 ≡ 0 → Counting views numbers (station + 1)
  unfolding own
  counting_skip z = record {
    long = c.long;
    counts = λ view low. c.counts view low ∙ ap (count_in view) (sym (front ∙ ap (λ (l : List ℕ). listed (take station views) ++ l) (rw (eq-eqb own 0 z) refl) ∙ append-nil (listed (take station views))));
    few = λ view low. omega (arith, c.few view low);
  }

  module _ (n : ¬ (get_or views station 0 ≡ 0)) (octet : get_or views station 0 < 256) where
    with_own : List ℕ
    with_own = set numbers own (get_or numbers own 0 + 1)

    counted : (view : ℕ) → count_in view (listed (take (station + 1) views)) ≡ count_in view (listed (take station views)) + cond (eqb own view) 1 0
    unfolding own
    counted view =
        ap (count_in view) (front ∙ ap (λ (l : List ℕ). listed (take station views) ++ l) (rw (ne_eqb own 0 n) refl))
        ∙ count_push view (listed (take station views)) own

    at_own : get_or with_own own 0 ≡ get_or numbers own 0 + 1
    unfolding with_own own
    at_own = get_or-set_same numbers own (get_or numbers own 0 + 1) 0 (omega (arith, c.long))

    at_other : (view : ℕ) → ¬ (view ≡ own) → get_or with_own view 0 ≡ get_or numbers view 0
    unfolding with_own
    at_other view o = get_or-set_other numbers own view (get_or numbers own 0 + 1) 0 o

    pub counting_more : Counting views (set numbers (get_or views station 0) (get_or numbers (get_or views station 0) 0 + 1)) (station + 1)
    unfolding with_own own
    counting_more = record {
      long = length-set numbers own (get_or numbers own 0 + 1) ∙ c.long;
      counts = λ view low. by view low (ℕ_discrete view own) ∙ sym (counted view);
      few = λ view low. less view low (ℕ_discrete view own);
    }
      where
        by : (view : ℕ) → view < 256 → Dec (view ≡ own) → get_or with_own view 0 ≡ count_in view (listed (take station views)) + cond (eqb own view) 1 0
        by view low (yes e) =
            let one : ◌≡◌ {A = ℕ} (cond (eqb own view) 1 0) 1 = rw (eq-eqb own view (sym e)) refl in
            omega (arith, ap (λ (k : ℕ). get_or with_own k 0) e, at_own, ap (λ (k : ℕ). get_or numbers k 0) e, c.counts view low, one)
        by view low (no o) =
            let none : ◌≡◌ {A = ℕ} (cond (eqb own view) 1 0) 0 = rw (ne_eqb own view (λ e. o (sym e))) refl in
            omega (arith, at_other view o, c.counts view low, none)

        less : (view : ℕ) → view < 256 → Dec (view ≡ own) → get_or with_own view 0 ≤ station + 1
        less view low (yes e) = omega (arith, ap (λ (k : ℕ). get_or with_own k 0) e, at_own, c.few own octet)
        less view low (no o) = omega (arith, at_other view o, c.few view low)

pub counting_all : {views numbers : List ℕ} {station : ℕ} → length views ≤ station → Counting views numbers station
    → numbers ≡ each (λ view. count_in view (map (λ x. get_or views x 0) (stations_from 0 views))) 0 256
counting_all {views} {numbers} {station} all c =
    is_each (λ view. count_in view (map (λ x. get_or views x 0) (stations_from 0 views))) 256 numbers c.long
    (λ view low. c.counts view low ∙ ap (λ (l : List ℕ). count_in view (filter (λ v. not (eqb v 0)) l)) (take_all station views all) ∙ ap (count_in view) (sym (listed_views (λ x. get_or views x 0) 0 views (λ j. ap (λ (x : ℕ). get_or views x 0) (zero-add j)))))

pub taking_none : (from to : ℕ) (old : List ℕ) → length old ≡ 256 → Taking from to old old 0 1
taking_none from to old all = record {
  long = all;
  sum = omega (arith, by old (omega arith));
  before = λ i low. first i (omega arith);
  after = λ i high. refl;
  few = omega arith;
}
  where
    by : (l : List ℕ) → 0 < length l → sum_of (is_moved from to) 0 l ≡ sum_of (is_moved from to) 1 (drop 1 l)
    by [] h = absurd (omega arith)
    by (x ∷ l) h = refl

    first : (i : ℕ) → i ≡ 0 → get_or old i 0 ≡ cond (is_moved from to i) 0 (get_or old i 0)
    first i z = rw (eq-eqb i 0 z)

pub taking_all : {from to : ℕ} {old new : List ℕ} {moved view : ℕ} → length old ≡ 256 → view ≡ 256 → Taking from to old new moved view
    → (moved ≡ sum_of (is_moved from to) 0 old) × (new ≡ without_moved from to old)
taking_all {from} {to} {old} {new} {moved} {view} all e t = (
  omega (arith, t.sum, ap (sum_of (is_moved from to) view) (drop_of_length-le old {i = view} (omega arith))),
  is_each (λ view. cond (is_moved from to view) 0 (get_or old view 0)) 256 new t.long (λ i low. t.before i (omega arith)),
)

pub carrying_none : (moves old : List ℕ) → Carrying moves old (replicate 256 0) 0
carrying_none moves old = record { long = refl; sums = λ to low. get_or-replicate 256 to 0 0 low }

module _ {moves old new : List ℕ} {view : ℕ} (low : view < length old) (octet : get_or moves view 0 < 256) (c : Carrying moves old new view) where
  place : ℕ
  place = get_or moves view 0

  more : (to : ℕ) → sum_of (λ v. eqb (get_or moves v 0) to) 0 (take (view + 1) old)
      ≡ sum_of (λ v. eqb (get_or moves v 0) to) 0 (take view old) + cond (eqb place to) (get_or old view 0) 0
  unfolding place
  more to =
      let count : 0 + length (take view old) ≡ view = omega (arith, length-take-le view old (omega arith)) in
      ap (sum_of (λ v. eqb (get_or moves v 0) to) 0) (ap (λ (k : ℕ). take k old) (add-one view) ∙ take-suc old view 0 low)
      ∙ sum_more (λ v. eqb (get_or moves v 0) to) 0 (take view old) (get_or old view 0)
      ∙ ap (λ (v : ℕ). sum_of (λ v. eqb (get_or moves v 0) to) 0 (take view old) + cond (eqb (get_or moves v 0) to) (get_or old view 0) 0) count

  pub carrying_more : (number : ℕ) → number ≡ min most (get_or new (get_or moves view 0) 0 + get_or old view 0)
      → Carrying moves old (set new (get_or moves view 0) number) (view + 1)
  unfolding place
  carrying_more number e = record {
    long = length-set new place number ∙ c.long;
    sums = λ to low. by to low (ℕ_discrete to place);
  }
    where
      by : (to : ℕ) → to < 256 → Dec (to ≡ place) → get_or (set new place number) to 0 ≡ min most (sum_of (λ v. eqb (get_or moves v 0) to) 0 (take (view + 1) old))
      by to low (yes s) =
          let here : get_or (set new place number) to 0 ≡ number =
          ap (λ (k : ℕ). get_or (set new place number) k 0) s ∙ get_or-set_same new place number 0 (omega (arith, c.long)) in
          let itself : cond (eqb place to) (get_or old view 0) 0 ≡ get_or old view 0 = rw (eq-eqb place to (sym s)) in
          omega (arith, here, e, ap (λ (k : ℕ). get_or new k 0) s, c.sums to low, more to, itself)
      by to low (no o) =
          let none : cond (eqb place to) (get_or old view 0) 0 ≡ 0 = rw (ne_eqb place to (λ s. o (sym s))) in
          omega (arith, get_or-set_other new place to number 0 o, c.sums to low, more to, none)

pub carrying_all : {moves old new : List ℕ} {view : ℕ} → length old ≤ view → Carrying moves old new view
    → new ≡ carried_numbers (λ v. get_or moves v 0) old
carrying_all {moves} {old} {new} {view} full c =
    is_each (λ to. min most (sum_of (λ v. eqb (get_or moves v 0) to) 0 old)) 256 new c.long
    (λ to low. c.sums to low ∙ ap (λ (l : List ℕ). min most (sum_of (λ v. eqb (get_or moves v 0) to) 0 l)) (take_all view old full))
