-- What is looked up in a ring, by what the library's searches find in its views. Assumes nothing.
use Rattle.std.specs.Prelude.{◌≡◌, ◌∷◌, ◌+◌, ◌<◌, Option, Some}
use Rattle.laws.specs.Usual.{refl, sym, ap, ap₂, ◌∙◌, Bool, true, false, cond, not, List, [], map, ℕ, suc, arith, length, get_or, drop, eqb}
use Rattle.std.proofs.Common.{add-one, zero-add, eq-eqb, ne_eqb}
use Rattle.std.specs.List.{filter, find, enumerate_from, position_from}
use Rattle.std.specs.Option.{option_map}
use Rattle.std.proofs.lemmas.List.{length-map}
use Rattle.std.proofs.Math.Decide.{ℕ_discrete}
use Rattle.settling.specs.Ring.{Views}
use Rattle.settle_views.specs.Views.{stations_from, smallest_holder, first_unlisted, unlisted_in, ring_with}

-- the views that a list of views has from the number k on
abbrev pub Has : Views → ℕ → List ℕ → Type 0
Has f k views = (j : ℕ) → f (k + j) ≡ get_or views j 0

module _ (f : Views) (k view : ℕ) (views : List ℕ) (has : Has f k (view ∷ views)) where
  here : f k ≡ view
  here = let e : k + 0 ≡ k = omega arith in ap f (sym e) ∙ has 0

  later : Has f (suc k) views
  later j = let e : suc k + j ≡ k + suc j = omega arith in ap f e ∙ has (suc j)

-- the views of the stations are the views that are not 0
pub listed_views : (f : Views) (k : ℕ) (views : List ℕ) → Has f k views
    → map f (stations_from k views) ≡ filter (λ view. not (eqb view 0)) views
listed_views f k [] has = refl
listed_views f k (view ∷ views) has = by (eqb view 0) (listed_views f (suc k) views (later f k view views has))
  where
    by : (t : Bool) → map f (stations_from (suc k) views) ≡ filter (λ view. not (eqb view 0)) views
        → map f (cond t (stations_from (suc k) views) (k ∷ stations_from (suc k) views))
        ≡ cond (not t) (view ∷ filter (λ view. not (eqb view 0)) views) (filter (λ view. not (eqb view 0)) views)
    by true e = e
    by false e = ap₂ ◌∷◌ (here f k view views has) e

pub stations_counted : (views : List ℕ) → length (filter (λ view. not (eqb view 0)) views) ≡ length (stations_from 0 views)
stations_counted views =
    let f : Views = λ x. get_or views x 0 in
    ap length (sym (listed_views f 0 views (λ j. ap f (zero-add j)))) ∙ length-map (stations_from 0 views) f

-- the first place that has its own number is the smallest holder
holder_found : (f : Views) (k : ℕ) (views : List ℕ) → 0 < k → Has f k views
    → option_map (λ p. p.1) (find (λ p. eqb p.1 p.0) (enumerate_from k views)) ≡ smallest_holder (stations_from k views) f
holder_found f k [] some has = refl
holder_found f k (view ∷ views) some has = by (ℕ_discrete view k) (ℕ_discrete view 0) (holder_found f (suc k) views (omega arith) (later f k view views has))
  where
    rest : Option ℕ
    rest = smallest_holder (stations_from (suc k) views) f

    by : Dec (view ≡ k) → Dec (view ≡ 0) → option_map (λ p. p.1) (find (λ p. eqb p.1 p.0) (enumerate_from (suc k) views)) ≡ rest
        → option_map (λ p. p.1) (cond (eqb view k) (Some (k, view)) (find (λ p. eqb p.1 p.0) (enumerate_from (k + 1) views)))
        ≡ smallest_holder (cond (eqb view 0) (stations_from (suc k) views) (k ∷ stations_from (suc k) views)) f
    by (yes own) zero e = rw (ne_eqb view 0 (λ z. omega arith), eq-eqb view k own, here f k view views has, eq-eqb view k own) (ap Some own)
    by (no other) (yes none) e = rw (ne_eqb view k other, eq-eqb view 0 none, add-one k) e
    by (no other) (no some) e = rw (ne_eqb view 0 some, here f k view views has, ne_eqb view k other, add-one k) e

-- number 0 is no holder
pub holder_behind_zero : (views : List ℕ)
    → option_map (λ p. p.1) (find (λ p. eqb p.1 p.0) (drop 1 (enumerate_from 0 views))) ≡ smallest_holder (stations_from 0 views) (λ x. get_or views x 0)
holder_behind_zero [] = refl
holder_behind_zero (view ∷ views) = holder_found f 1 views (omega arith) later_views ∙ by (ℕ_discrete view 0)
  where
    f : Views
    f x = get_or (view ∷ views) x 0

    later_views : Has f 1 views
    later_views j = let e : 1 + j ≡ suc j = omega arith in ap f e

    by : Dec (view ≡ 0) → smallest_holder (stations_from 1 views) f ≡ smallest_holder (cond (eqb view 0) (stations_from 1 views) (0 ∷ stations_from 1 views)) f
    by (yes none) = rw (eq-eqb view 0 none) refl
    by (no some) = rw (ne_eqb view 0 some, ne_eqb view 0 some) refl

-- the first view that is not listed, by its place among the views of the stations
unlisted_found : (f : Views) (line : ℕ) (ns : List ℕ)
    → option_map (λ place. place + 1) (position_from (λ view. eqb (f view) 0) line (map f ns)) ≡ first_unlisted f (line + 1) ns
unlisted_found f line [] = refl
unlisted_found f line (station ∷ ns) = by (eqb (f (f station)) 0) (unlisted_found f (line + 1) ns)
  where
    by : (t : Bool) → option_map (λ place. place + 1) (position_from (λ view. eqb (f view) 0) (line + 1) (map f ns)) ≡ first_unlisted f (line + 1 + 1) ns
        → option_map (λ place. place + 1) (cond t (Some line) (position_from (λ view. eqb (f view) 0) (line + 1) (map f ns)))
        ≡ cond (not t) (first_unlisted f (suc (line + 1)) ns) (Some (line + 1))
    by true e = refl
    by false e = e ∙ ap (λ (n : ℕ). first_unlisted f n ns) (add-one (line + 1))

-- the same in the views of a ring, whose lines are counted from 1
pub line_found : (views : List ℕ)
    → option_map (λ place. place + 1) (position_from (λ view. eqb (get_or views view 0) 0) 0 (filter (λ view. not (eqb view 0)) views)) ≡ unlisted_in (ring_with views)
line_found views =
    ap (λ (l : List ℕ). option_map (λ place. place + 1) (position_from (λ view. eqb (get_or views view 0) 0) 0 l)) (sym (listed_views (λ x. get_or views x 0) 0 views (λ j. ap (λ (x : ℕ). get_or views x 0) (zero-add j))))
    ∙ unlisted_found (λ x. get_or views x 0) 0 (stations_from 0 views)
