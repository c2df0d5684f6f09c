-- A ring whose every view is one of its stations. Assumes nothing.
use Rattle.std.specs.Prelude.{◌≡◌, ◌∷◌, None, Some}
use Rattle.laws.specs.Usual.{refl, sym, ap, subst, ◌∙◌, Bool, true, false, false≢true, List, [], ℕ, suc, arith}
use mathlib.Core.List.Memᴰ
use Rattle.std.proofs.Common.{zero-add, eq-eqb, ne_eqb}
use Rattle.std.proofs.Math.Decide.{ℕ_discrete}
use Rattle.std.proofs.lemmas.Bool.{not-true, eqb-false}
use Rattle.settling.specs.Ring.{◌∈◌, Views, Within}
use Rattle.settle_views.specs.Views.{stations_of, views_of, listed, member, first_unlisted, unlisted_in}
use Rattle.settle_views.specs.Agreement.{member_in, in_member}
use Rattle.settle_views.specs.Listed.{station_listed, listed_station}
use Rattle.settle_views.specs.declared.Ring.{Ring}

-- A ring that `settle` can be given: "every view a listed station", and no station 0.
pub record Proper (ring : Ring) : Type 0 where
  pub within : Within (stations_of ring) (views_of ring)
  pub nobody : views_of ring 0 ≡ 0

-- a station's own view is not 0
pub station_view : (ring : Ring) (x : ℕ) → x ∈ stations_of ring → ¬ (views_of ring x ≡ 0)
station_view ring x m =
    let (j, e, n) = station_listed 0 ring.views x m in
    λ z. n (ap (views_of ring) (omega arith) ∙ z)

pub view_station : (ring : Ring) (x : ℕ) → ¬ (views_of ring x ≡ 0) → x ∈ stations_of ring
view_station ring x n = subst (λ (y : ℕ). y ∈ stations_of ring) (zero-add x) (listed_station 0 ring.views x n)

pub not_zero : {ring : Ring} → Proper ring → (x : ℕ) → x ∈ stations_of ring → ¬ (x ≡ 0)
not_zero {ring} p x m e = station_view ring x m (ap (views_of ring) e ∙ p.nobody)

-- a number is listed where it is one of the stations
pub listed_member : (ring : Ring) (x : ℕ) → listed (views_of ring) x ≡ member x (stations_of ring)
listed_member ring x = go (member x (stations_of ring)) refl
  where
    go : (t : Bool) → member x (stations_of ring) ≡ t → listed (views_of ring) x ≡ t
    go true e = rw (ne_eqb (views_of ring x) 0 (station_view ring x (member_in x (stations_of ring) e)))
    go false e = other (ℕ_discrete (views_of ring x) 0)
      where
        other : Dec (views_of ring x ≡ 0) → listed (views_of ring) x ≡ false
        other (yes z) = rw (eq-eqb (views_of ring x) 0 z)
        other (no n) = absurd (false≢true (sym e ∙ in_member x (stations_of ring) (view_station ring x n)))

-- where no line is named, every view is listed
all_listed : (views : Views) (line : ℕ) (ns : List ℕ) → first_unlisted views (suc line) ns ≡ None → (x : ℕ) → x ∈ ns → ¬ (views (views x) ≡ 0)
all_listed views line [] e x m = elim m [ ]
all_listed views line (y ∷ ns) e x m = go (listed views (views y)) refl (all_listed views (suc line) ns) m
  where
    go : (t : Bool) → listed views (views y) ≡ t → (first_unlisted views (suc (suc line)) ns ≡ None → (x : ℕ) → x ∈ ns → ¬ (views (views x) ≡ 0))
        → x ∈ (y ∷ ns) → ¬ (views (views x) ≡ 0)
    go true t rest (Memᴰ.head p) = λ z. eqb-false _ _ (not-true _ t) (ap (λ (w : ℕ). views (views w)) (sym p) ∙ z)
    go true t rest (Memᴰ.tail k) = rest (rw t at e) x k
    go false t rest k = absurd (let z : Some (suc line) ≡ None = rw t at e in cc)

pub proper : (ring : Ring) → unlisted_in ring ≡ None → views_of ring 0 ≡ 0 → Proper ring
proper ring e z = record {
  within = λ x m. view_station ring (views_of ring x) (all_listed (views_of ring) 0 (stations_of ring) e x m);
  nobody = z;
}
