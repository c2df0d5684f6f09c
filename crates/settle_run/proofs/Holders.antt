-- What the smallest holder is: it holds, or nobody does. Assumes nothing.
use Rattle.std.specs.Prelude.{Option, Some, None, ◌≡◌, ◌∷◌, ◌≤◌}
use Rattle.laws.specs.Usual.{[], refl, sym, ap, ◌∙◌, Bool, true, false, cond, List, ℕ, arith, eqb}
use mathlib.Core.List.Memᴰ
use Rattle.std.proofs.Common.{eqb-true}
use Rattle.std.proofs.lemmas.Bool.{eqb-false}
use Rattle.settling.specs.Ring.{◌∈◌, Ascending, Views, Holds, Legal}
use Rattle.settle_views.specs.Views.{smallest_holder}
use Rattle.settle_run.specs.Run.{pass_by}

module _ (views : Views) where
  -- a number that is found is a station that holds
  found_holds : (ns : List ℕ) (x : ℕ) → smallest_holder ns views ≡ Some x → (x ∈ ns) × Holds views x
  found_holds [] x e = absurd (cc)
  found_holds (y ∷ ns) x e = go (eqb (views y) y) refl (found_holds ns x) e
    where
      go : (t : Bool) → eqb (views y) y ≡ t → (smallest_holder ns views ≡ Some x → (x ∈ ns) × Holds views x)
          → cond t (Some y) (smallest_holder ns views) ≡ Some x → (x ∈ (y ∷ ns)) × Holds views x
      go true own rest found = let same : x ≡ y = cc in (Memᴰ.head same, ap views same ∙ eqb-true (views y) y own ∙ sym same)
      go false own rest found = let (m, h) = rest found in (Memᴰ.tail m, h)

  -- where none is found, no station holds
  none_holds : (ns : List ℕ) → smallest_holder ns views ≡ None → (x : ℕ) → x ∈ ns → ¬ Holds views x
  none_holds [] z x m = elim m [ ]
  none_holds (y ∷ ns) z x m = go (eqb (views y) y) refl (none_holds ns) z m
    where
      go : (t : Bool) → eqb (views y) y ≡ t → (smallest_holder ns views ≡ None → (x : ℕ) → x ∈ ns → ¬ Holds views x)
          → cond t (Some y) (smallest_holder ns views) ≡ None → x ∈ (y ∷ ns) → ¬ Holds views x
      go true e rest z k = absurd (cc)
      go false e rest z (Memᴰ.head p) = λ h. eqb-false (views y) y e (ap views (sym p) ∙ h ∙ p)
      go false e rest z (Memᴰ.tail k) = rest z x k

  -- in an ascending list the first holder is the smallest
  pub holder_smallest : (ns : List ℕ) → Ascending ns → (x : ℕ) → x ∈ ns → Holds views x → (y : ℕ) × (smallest_holder ns views ≡ Some y) × (y ≤ x)
  holder_smallest (y ∷ ns) a x m h = go (eqb (views y) y) refl (holder_smallest ns a.1 x) m
    where
      go : (t : Bool) → eqb (views y) y ≡ t → (x ∈ ns → Holds views x → (z : ℕ) × (smallest_holder ns views ≡ Some z) × (z ≤ x)) → x ∈ (y ∷ ns)
          → (z : ℕ) × (cond t (Some y) (smallest_holder ns views) ≡ Some z) × (z ≤ x)
      go true e rest (Memᴰ.head p) = (y, refl, omega arith)
      go true e rest (Memᴰ.tail k) = (y, refl, omega (arith, a.0 x k))
      go false e rest (Memᴰ.head p) = absurd (eqb-false (views y) y e (ap views (sym p) ∙ h ∙ p))
      go false e rest (Memᴰ.tail k) = rest k h
  holder_smallest [] a x m h = elim m [ ]

  -- so the step that is made can come
  pub step_legal : (ns : List ℕ) → Legal ns views (pass_by (smallest_holder ns views))
  step_legal ns = go (smallest_holder ns views) refl
    where
      go : (holder : Option ℕ) → smallest_holder ns views ≡ holder → Legal ns views (pass_by holder)
      go None e = none_holds ns e
      go (Some x) e = found_holds ns x e
