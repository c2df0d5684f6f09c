-- The stations of a list of views: a number is one of them where its view is not 0, and they ascend. Assumes nothing.
use Rattle.laws.specs.Usual.{refl, ap, subst, ◌∙◌, Bool, true, false, cond, List, [], map, ℕ, suc, arith, length, get_or, eqb}
use mathlib.Core.List.Memᴰ
use Rattle.std.specs.Prelude.{◌≡◌, ◌∷◌, ◌+◌, ◌≤◌, zero}
use Rattle.std.proofs.Common.{add-zero, eqb-true, eq-eqb, ne_eqb}
use Rattle.std.proofs.lemmas.Bool.{eqb-false}
use Rattle.settling.specs.Ring.{◌∈◌, Ascending}
use Rattle.settle_views.specs.Views.{stations_from}

-- a choice by the test x = 0
by_zero : {A : Type 0} (P : A → Type 0) (x : ℕ) {a b : A} → (x ≡ 0 → P a) → (¬ (x ≡ 0) → P b) → P (cond (eqb x 0) a b)
by_zero P x {a} {b} f g = go (eqb x 0) refl
  where
    go : (t : Bool) → eqb x 0 ≡ t → P (cond t a b)
    go true e = f (eqb-true x 0 e)
    go false e = g (eqb-false x 0 e)

-- a station stands at some place j of the views, and its view there is not 0
pub station_listed : (k : ℕ) (views : List ℕ) (x : ℕ) → x ∈ stations_from k views → (j : ℕ) × (x ≡ k + j) × (get_or views j 0 ≡ 0 → ⊥)
station_listed k [] x = λ m. elim m [ ]
station_listed k (view ∷ views) x =
    by_zero (λ ns. x ∈ ns → (j : ℕ) × (x ≡ k + j) × (get_or (view ∷ views) j 0 ≡ 0 → ⊥)) view
    (λ e m. later (station_listed (suc k) views x m))
    (λ n m. at n (station_listed (suc k) views x) m)
  where
    later : (j : ℕ) × (x ≡ suc k + j) × (get_or views j 0 ≡ 0 → ⊥) → (j : ℕ) × (x ≡ k + j) × (get_or (view ∷ views) j 0 ≡ 0 → ⊥)
    later (j, e, n) = (suc j, omega arith, n)

    at : ¬ (view ≡ 0) → (x ∈ stations_from (suc k) views → (j : ℕ) × (x ≡ suc k + j) × (get_or views j 0 ≡ 0 → ⊥))
        → x ∈ (k ∷ stations_from (suc k) views) → (j : ℕ) × (x ≡ k + j) × (get_or (view ∷ views) j 0 ≡ 0 → ⊥)
    at n rest (Memᴰ.head e) = (0, omega arith, n)
    at n rest (Memᴰ.tail m) = later (rest m)

pub listed_station : (k : ℕ) (views : List ℕ) (j : ℕ) → ¬ (get_or views j 0 ≡ 0) → (k + j) ∈ stations_from k views
listed_station k [] j n = absurd (n refl)
listed_station k (view ∷ views) zero n =
    rw (add-zero k) (by_zero (λ ns. k ∈ ns) view (λ e. absurd (n e)) (λ _. Memᴰ.head refl))
listed_station k (view ∷ views) (suc j) n =
    let rest : (k + suc j) ∈ stations_from (suc k) views =
    subst (λ (x : ℕ). x ∈ stations_from (suc k) views) (omega arith) (listed_station (suc k) views j n) in
    by_zero (λ ns. (k + suc j) ∈ ns) view (λ e. rest) (λ _. Memᴰ.tail rest)

-- the stations from k on ascend, and none is below k
stations_ascend : (k : ℕ) (views : List ℕ) → Ascending (stations_from k views) × ((x : ℕ) → x ∈ stations_from k views → k ≤ x)
stations_ascend k [] = (tt, λ x m. elim m [ ])
stations_ascend k (view ∷ views) = go (stations_ascend (suc k) views)
  where
    go : Ascending (stations_from (suc k) views) × ((x : ℕ) → x ∈ stations_from (suc k) views → suc k ≤ x)
        → Ascending (stations_from k (view ∷ views)) × ((x : ℕ) → x ∈ stations_from k (view ∷ views) → k ≤ x)
    go (up, low) =
        by_zero (λ ns. Ascending ns × ((x : ℕ) → x ∈ ns → k ≤ x)) view
        (λ e. (up, λ x m. omega (arith, low x m)))
        (λ n. ((λ y m. low y m, up), λ x m. at x m))
      where
        at : (x : ℕ) → x ∈ (k ∷ stations_from (suc k) views) → k ≤ x
        at x (Memᴰ.head e) = omega arith
        at x (Memᴰ.tail m) = omega (arith, low x m)

pub ascending : (views : List ℕ) → Ascending (stations_from 0 views)
ascending views = (stations_ascend 0 views).0

-- there are no more stations than views
pub few_stations : (k : ℕ) (views : List ℕ) → length (stations_from k views) ≤ length views
few_stations k [] = omega arith
few_stations k (view ∷ views) =
    let rest : length (stations_from (suc k) views) ≤ length views = few_stations (suc k) views in
    by_zero (λ ns. length ns ≤ suc (length views)) view (λ e. omega arith) (λ n. omega arith)

-- a change of views that keeps 0 and makes no other view 0 keeps the stations
pub stations_kept : (g : ℕ → ℕ) → g 0 ≡ 0 → (k : ℕ) (views : List ℕ)
    → ((j : ℕ) → ¬ (get_or views j 0 ≡ 0) → ¬ (g (get_or views j 0) ≡ 0)) → stations_from k (map g views) ≡ stations_from k views
stations_kept g zero_kept k [] other_kept = refl
stations_kept g zero_kept k (view ∷ views) other_kept =
    let rest = stations_kept g zero_kept (suc k) views (λ j n. other_kept (suc j) n) in
    by_zero (λ ns. stations_from k (map g (view ∷ views)) ≡ ns) view
    (λ e. rw (eq-eqb (g view) 0 (ap g e ∙ zero_kept)) rest)
    (λ n. rw (ne_eqb (g view) 0 (other_kept 0 n)) (ap (λ (ns : List ℕ). k ∷ ns) rest))
