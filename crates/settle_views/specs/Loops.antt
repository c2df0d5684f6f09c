-- Laws for loops that go over a ring by the numbers of its stations. Assumes nothing.
use Rattle.std.specs.Prelude.{Some, ◌≡◌, ◌∷◌, ◌+◌, ◌<◌, ◌≤◌}
use Rattle.laws.specs.Usual.{refl, sym, ap, ◌∙◌, List, [], map, ℕ, arith, length, get_or, drop}
use Rattle.std.proofs.Common.{add-one, eq-eqb, ne_eqb, drop_of_length-le, drop-cons}
use Rattle.std.proofs.Math.Decide.{ℕ_discrete}
use Rattle.settling.specs.Ring.{Views}
use Rattle.settle_views.specs.Views.{stations_from, smallest_holder}

module _ (views : List ℕ) (i : ℕ) where
  -- at the end no station is left
  pub stations_end : length views ≤ i → stations_from i (drop i views) ≡ []
  stations_end h = ap (stations_from i) (drop_of_length-le views h)

  -- a number that is not listed is passed over
  pub stations_skip : i < length views → get_or views i 0 ≡ 0 → stations_from i (drop i views) ≡ stations_from (i + 1) (drop (i + 1) views)
  stations_skip h e = rw (add-one, drop-cons views i 0, eq-eqb _ _ e)

  -- a number that is listed is the first station there
  pub stations_first : i < length views → ¬ (get_or views i 0 ≡ 0)
      → stations_from i (drop i views) ≡ i ∷ stations_from (i + 1) (drop (i + 1) views)
  stations_first h n = rw (add-one, drop-cons views i 0, ne_eqb _ _ n)

-- the views of the stations from i on
abbrev pub views_from : List ℕ → ℕ → List ℕ
views_from views i = map (λ x. get_or views x 0) (stations_from i (drop i views))

module _ (views : List ℕ) (i : ℕ) where
  pub views_end : length views ≤ i → views_from views i ≡ []
  views_end h = ap (map (λ x. get_or views x 0)) (stations_end views i h)

  pub views_skip : i < length views → get_or views i 0 ≡ 0 → views_from views i ≡ views_from views (i + 1)
  views_skip h e = ap (map (λ x. get_or views x 0)) (stations_skip views i h e)

  pub views_first : i < length views → ¬ (get_or views i 0 ≡ 0) → views_from views i ≡ get_or views i 0 ∷ views_from views (i + 1)
  views_first h n = ap (map (λ x. get_or views x 0)) (stations_first views i h n)

-- the laws above, of what is looked up in the views themselves
module _ (views : List ℕ) (i : ℕ) (h : i < length views) where
  -- a number that is not its own view, or is 0, is no holder
  pub holder_skip : (get_or views i 0 ≡ i → i ≡ 0)
      → smallest_holder (stations_from i (drop i views)) (λ x. get_or views x 0)
      ≡ smallest_holder (stations_from (i + 1) (drop (i + 1) views)) (λ x. get_or views x 0)
  holder_skip only = go (ℕ_discrete (get_or views i 0) 0)
    where
      f : Views
      f x = get_or views x 0

      go : Dec (get_or views i 0 ≡ 0) → smallest_holder (stations_from i (drop i views)) f ≡ smallest_holder (stations_from (i + 1) (drop (i + 1) views)) f
      go (yes e) = ap (λ (ns : List ℕ). smallest_holder ns f) (stations_skip views i h e)
      go (no n) =
          ap (λ (ns : List ℕ). smallest_holder ns f) (stations_first views i h n)
          ∙ rw (ne_eqb (get_or views i 0) i (λ e. n (e ∙ only e)))

  pub holder_first : ¬ (i ≡ 0) → get_or views i 0 ≡ i → smallest_holder (stations_from i (drop i views)) (λ x. get_or views x 0) ≡ Some i
  holder_first n e =
      ap (λ (ns : List ℕ). smallest_holder ns (λ x. get_or views x 0)) (stations_first views i h (λ z. n (sym e ∙ z)))
      ∙ rw (eq-eqb (get_or views i 0) i e)

-- number 0 is no holder
pub holder_from_one : (views : List ℕ)
    → smallest_holder (stations_from 1 (drop 1 views)) (λ x. get_or views x 0) ≡ smallest_holder (stations_from 0 views) (λ x. get_or views x 0)
holder_from_one [] = refl
holder_from_one (view ∷ views) = sym (holder_skip (view ∷ views) 0 (omega arith) (λ e. refl))
