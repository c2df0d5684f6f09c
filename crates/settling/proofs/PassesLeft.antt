-- A count of what a ring has left to do before its views agree, and how large it can be. Each pass that does not make the views
-- agree lowers the count, and no silence raises it (`Passes`).
use Rattle.std.specs.Prelude.{◌≡◌, ◌∷◌, ◌+◌, ◌*◌, ◌<◌, ◌≤◌}
use Rattle.laws.specs.Usual.{[], refl, ap, List, ℕ, suc, arith, length}
use Rattle.std.proofs.Math.Logic.Dec as decide
use Rattle.std.proofs.Common.{le_refl, mul-suc, suc-mul}
use Rattle.std.proofs.Math.Decide.{dec_lt, ℕ_discrete}
use Rattle.settling.specs.Ring.{◌∈◌, Ascending, next, Views}
use Rattle.settling.specs.Next.{NextLaws}
use Rattle.settling.proofs.Count.{only_yes, only_no, only_most, tally_yes, tally_no, tally_most, tally_le, sum_le, sum_lt, sum_eq, sum_add, sum_const, sum_at, same, same_yes, once}
use Rattle.settling.specs.Count.{only, tally, sum}
use Rattle.settling.specs.PassesLeft.{waits?, leads?, apart?, apart, station_left, inner?, left}

-- how many numbers of a list are smaller than u
pub below : List ℕ → ℕ → ℕ
below ns u = sum (λ k. tally (dec_lt k u)) ns

-- over a whole ascending list the counts of smaller numbers sum up to n(n - 1)/2
pub pairs : (ns : List ℕ) → Ascending ns → 2 * sum (below ns) ns + length ns ≤ length ns * length ns
unfolding below sum
pairs [] a = le_refl 0
pairs (x ∷ ns) a =
    let none : below ns x ≡ sum (λ k. 0) ns = sum_eq _ _ ns (λ k m. tally_no (dec_lt k x) (λ l. omega (arith, a.0 k m))) in
    let others : sum (below (x ∷ ns)) ns ≤ sum (λ i. 1 + below ns i) ns =
    sum_le (below (x ∷ ns)) (λ i. 1 + below ns i) ns (λ i m. omega (arith, tally_most (dec_lt x i))) in
    omega (
      arith,
      sum_const 0 ns,
      tally_no (dec_lt x x) (λ l. omega arith),
      sum_add (λ i. 1) (below ns) ns,
      sum_const 1 ns,
      pairs ns a.1,
      suc-mul (length ns) (suc (length ns)),
      mul-suc (length ns) (length ns),
    )

module _ {ns : List ℕ} {smallest largest : ℕ} (laws : NextLaws ns (next ns) smallest largest) where
  -- what a station other than the smallest has left is at most one more than the numbers below it
  station_most : (views : Views) (i : ℕ) → smallest < i → station_left ns smallest views i ≤ below ns i + 1
  unfolding station_left apart below
  station_most views i l =
      let fewer : apart ns smallest views i < below ns i =
      sum_lt _ _ ns (λ k m. tally_le (apart? smallest views i k) (dec_lt k i) (λ p. p.1.0)) smallest laws.smallest_in
      (omega (arith, tally_no (apart? smallest views i smallest) (λ p. omega (arith, p.0)), tally_yes (dec_lt smallest i) l)) in
      omega (arith, tally_most (waits? smallest views i), tally_most (leads? smallest views i))

  -- all numbers but the largest are below it
  all_below : Ascending ns → length ns ≤ below ns largest + 1
  unfolding below
  all_below a =
      let cover : sum (λ k. 1) ns ≤ sum (λ k. tally (dec_lt k largest) + same largest k) ns = sum_le _ _ ns (λ k m. at k m (dec_lt k largest)) in
      omega (arith, sum_const 1 ns, sum_add (λ k. tally (dec_lt k largest)) (same largest) ns, once ns a largest laws.largest_in)
    where
      at : (k : ℕ) → k ∈ ns → Dec (k < largest) → 1 ≤ tally (dec_lt k largest) + same largest k
      at k m (yes l) = omega (arith, tally_yes (dec_lt k largest) l)
      at k m (no l) = omega (arith, same_yes largest k (omega (arith, laws.most k m)))

  -- So with two stations or more the count is below the sum of the places: the largest and the smallest have nothing left to do, and
  -- the place of the largest is n - 1.
  pub left_most : Ascending ns → smallest < largest → (views : Views) → left ns smallest largest views < sum (below ns) ns
  unfolding left
  left_most a two views =
      omega (
        arith,
        total,
        sum_add left_at (λ i. at_top i + at_bottom i) ns,
        sum_add at_top at_bottom ns,
        sum_add (below ns) (λ i. 1) ns,
        sum_const 1 ns,
        sum_at at_top ns largest laws.largest_in,
        only_yes (ℕ_discrete largest largest) (length ns) refl,
        sum_at at_bottom ns smallest laws.smallest_in,
        tally_yes (ℕ_discrete smallest smallest) refl,
      )
    where
      left_at : ℕ → ℕ
      left_at i = only (inner? smallest largest i) (station_left ns smallest views i)

      at_top : ℕ → ℕ
      at_top i = only (ℕ_discrete i largest) (length ns)

      at_bottom : ℕ → ℕ
      at_bottom i = tally (ℕ_discrete i smallest)

      at : (i : ℕ) → i ∈ ns → Dec (i ≡ largest) → Dec (i ≡ smallest) → left_at i + (at_top i + at_bottom i) ≤ below ns i + 1
      at i m (yes e) (yes b) = absurd (omega arith)
      at i m (yes e) (no b) =
          omega (
            arith,
            only_no (inner? smallest largest i) (station_left ns smallest views i) (λ p. omega (arith, p.1)),
            only_most (ℕ_discrete i largest) (length ns),
            tally_no (ℕ_discrete i smallest) b,
            all_below a,
            ap (below ns) e,
          )
      at i m (no e) (yes b) =
          omega (
            arith,
            only_no (inner? smallest largest i) (station_left ns smallest views i) (λ p. omega (arith, p.0)),
            only_no (ℕ_discrete i largest) (length ns) e,
            tally_most (ℕ_discrete i smallest),
          )
      at i m (no e) (no b) =
          omega (
            arith,
            only_most (inner? smallest largest i) (station_left ns smallest views i),
            station_most views i (omega (arith, laws.least i m)),
            only_no (ℕ_discrete i largest) (length ns) e,
            tally_no (ℕ_discrete i smallest) b,
          )

      total : sum (λ i. left_at i + (at_top i + at_bottom i)) ns ≤ sum (λ i. below ns i + 1) ns
      total = sum_le _ _ ns (λ i m. at i m (ℕ_discrete i largest) (ℕ_discrete i smallest))
