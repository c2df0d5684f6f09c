-- What is proved of the definitions in specs/Passing.antt.
use Rattle.std.specs.Prelude.{◌≡◌, ◌||◌, ◌+◌, ◌<◌, ◌≤◌}
use Rattle.laws.specs.Usual.{refl, sym, ap, ◌∙◌, Bool, true, false, cond, false≢true, List, ℕ, min, arith, length, get_or, set, eqb}
use Rattle.std.proofs.Math.Bool.{or-false}
use Rattle.std.proofs.Math.Decide.{ℕ_discrete, dec_lt}
use Rattle.std.proofs.Common.{eq-eqb, ne_eqb, lt-ltb, le-ltb, length-set, get_or-set_same, get_or-set_other}
use Rattle.settle_moves.specs.Moves.{passed_view}
use Rattle.settle_moves.specs.Each.{length_each, at_each, is_each}
use Rattle.settle_counts.specs.Counts.{sum_of, most, carried_numbers}
use Rattle.settle_counts.proofs.Sums.{sum_same, sum_none, sum_one, sum_either}
use Rattle.settle_counts.specs.Passing.{is_moved, without_moved, Passed, moves, stays}

passed : (from to view : ℕ) → Passed from to view
passed from to view = by (ℕ_discrete view 0) (ℕ_discrete view from) (dec_lt to view)
  where
    by : Dec (view ≡ 0) → Dec (view ≡ from) → Dec (to < view) → Passed from to view
    by (yes z) d l = stays (rw (eq-eqb view 0 z)) (rw (eq-eqb view 0 z) (sym z))
    by (no n) (yes s) l = moves (rw (ne_eqb view 0 n, eq-eqb view from s)) (rw (ne_eqb view 0 n, eq-eqb view from s))
    by (no n) (no o) (yes h) = moves (rw (ne_eqb view 0 n, ne_eqb view from o, lt-ltb to view h)) (rw (ne_eqb view 0 n, ne_eqb view from o) (omega arith))
    by (no n) (no o) (no h) = stays (rw (ne_eqb view 0 n, ne_eqb view from o, le-ltb to view (omega arith))) (rw (ne_eqb view 0 n, ne_eqb view from o) (omega arith))

module _ (from to : ℕ) where
  goes : ℕ → ℕ → Bool
  goes place view = eqb (passed_view view from to) place

  -- nothing goes to another place than the destination whose own view is moved
  none_goes : (place : ℕ) → ¬ (place ≡ to) → is_moved from to place ≡ true → (view : ℕ) → goes place view ≡ false
  unfolding goes
  none_goes place other off view = by (passed from to view)
    where
      by : Passed from to view → eqb (passed_view view from to) place ≡ false
      by (moves t e) = rw e (ne_eqb to place (λ s. other (sym s)))
      by (stays t e) = rw e (ne_eqb view place (λ s. false≢true (sym t ∙ ap (is_moved from to) s ∙ off)))

  -- to one that stays only itself
  own_goes : (place : ℕ) → ¬ (place ≡ to) → is_moved from to place ≡ false → (view : ℕ) → goes place view ≡ eqb view place
  unfolding goes
  own_goes place other on view = by (passed from to view)
    where
      by : Passed from to view → eqb (passed_view view from to) place ≡ eqb view place
      by (moves t e) = rw e (ne_eqb to place (λ s. other (sym s)) ∙ sym (ne_eqb view place (λ s. false≢true (sym on ∙ sym (ap (is_moved from to) s) ∙ t))))
      by (stays t e) = rw e

  -- to the destination all that are moved, and itself
  all_go : (view : ℕ) → goes to view ≡ (is_moved from to view || eqb view to)
  unfolding goes
  all_go view = by (passed from to view)
    where
      by : Passed from to view → eqb (passed_view view from to) to ≡ (is_moved from to view || eqb view to)
      by (moves t e) = rw (e, t) (eq-eqb to to refl)
      by (stays t e) = rw (e, t)

  module _ (numbers : List ℕ) (all : length numbers ≡ 256) (small : (i : ℕ) → get_or numbers i 0 ≤ most) (inside : to < 256) where
    rest : List ℕ
    rest = without_moved from to numbers

    long_rest : length rest ≡ 256
    unfolding rest
    long_rest = length_each (λ view. cond (is_moved from to view) 0 (get_or numbers view 0)) 0 256

    at_rest : (i : ℕ) → i < 256 → get_or rest i 0 ≡ cond (is_moved from to i) 0 (get_or numbers i 0)
    unfolding rest
    at_rest i low = at_each (λ view. cond (is_moved from to view) 0 (get_or numbers view 0)) 256 i low

    -- what goes to the destination: the moved numbers, and its own where it is not one of them
    at_destination : get_or rest to 0 + sum_of (is_moved from to) 0 numbers ≡ sum_of (goes to) 0 numbers
    at_destination = by (is_moved from to to) refl
      where
        by : (t : Bool) → is_moved from to to ≡ t → get_or rest to 0 + sum_of (is_moved from to) 0 numbers ≡ sum_of (goes to) 0 numbers
        by true off =
            let itself : (view : ℕ) → is_moved from to view ≡ goes to view = λ view. sym (all_go view ∙ with_itself view (ℕ_discrete view to)) in
            let none : get_or rest to 0 ≡ 0 = at_rest to inside ∙ ap (λ (t : Bool). cond t 0 (get_or numbers to 0)) off in
            omega (arith, none, sum_same (is_moved from to) (goes to) 0 numbers (λ v low. itself v))
          where
            with_itself : (view : ℕ) → Dec (view ≡ to) → (is_moved from to view || eqb view to) ≡ is_moved from to view
            with_itself view (yes e) = rw (ap (is_moved from to) e, off)
            with_itself view (no n) = rw (ne_eqb view to n, or-false (is_moved from to view))
        by false on =
            let apart : (view : ℕ) → is_moved from to view ≡ true → eqb view to ≡ false = λ view t. ne_eqb view to (λ e. false≢true (sym on ∙ sym (ap (is_moved from to) e) ∙ t)) in
            let own : get_or rest to 0 ≡ get_or numbers to 0 = at_rest to inside ∙ ap (λ (t : Bool). cond t 0 (get_or numbers to 0)) on in
            omega (
              arith,
              own,
              sum_one to numbers,
              sum_either (is_moved from to) (λ view. eqb view to) 0 numbers apart,
              sum_same (goes to) (λ view. is_moved from to view || eqb view to) 0 numbers (λ v low. all_go v),
            )

    -- so the numbers after a pass
    pub pass_numbers : set (without_moved from to numbers) to (min most (get_or (without_moved from to numbers) to 0 + sum_of (is_moved from to) 0 numbers))
        ≡ carried_numbers (λ view. passed_view view from to) numbers
    unfolding rest goes
    pass_numbers =
        is_each (λ place. min most (sum_of (λ view. eqb (passed_view view from to) place) 0 numbers)) 256 (set rest to sum)
        (length-set rest to sum ∙ long_rest) (λ i low. by i low (ℕ_discrete i to))
      where
        sum : ℕ
        sum = min most (get_or rest to 0 + sum_of (is_moved from to) 0 numbers)

        stayed : (i : ℕ) → ¬ (i ≡ to) → (t : Bool) → is_moved from to i ≡ t → cond t 0 (get_or numbers i 0) ≡ min most (sum_of (goes i) 0 numbers)
        stayed i n true off = omega (arith, sum_none (goes i) 0 numbers (λ v low. none_goes i n off v))
        stayed i n false on = omega (arith, small i, sum_one i numbers, sum_same (goes i) (λ view. eqb view i) 0 numbers (λ v low. own_goes i n on v))

        by : (i : ℕ) → i < 256 → Dec (i ≡ to) → get_or (set rest to sum) i 0 ≡ min most (sum_of (goes i) 0 numbers)
        by i low (yes e) =
            ap (λ (k : ℕ). get_or (set rest to sum) k 0) e
            ∙ get_or-set_same rest to sum 0 (omega (arith, long_rest))
            ∙ ap (min most) at_destination
            ∙ ap (λ (k : ℕ). min most (sum_of (goes k) 0 numbers)) (sym e)
        by i low (no n) = get_or-set_other rest to i sum 0 n ∙ at_rest i low ∙ stayed i n (is_moved from to i) refl
