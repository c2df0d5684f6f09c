-- The first agreement in a list of inputs, as a split of the list; that there is one such split of every list, and only one.
-- For any kind of state and input: the ring of views has it with views and events (`Ring`).
use Rattle.laws.specs.Usual.{[], refl, sym, ap, ap₂, subst, ◌∙◌, List, ℕ}
use Rattle.std.specs.Prelude.{◌≡◌, ◌∷◌, ◌++◌, ◌⊎◌}
use Rattle.std.proofs.Common.{inl, inr}
use mathlib.Core.List.Memᴰ
use mathlib.Core.List.{nil≢cons, head-eq_of_cons-eq, tail-eq_of_cons-eq}
use Rattle.std.proofs.Math.Decide.{ℕ_discrete}
use Rattle.settling.specs.Steps.{after_all, EachFinds}
use Rattle.settling.specs.Ring.{◌∈◌, Views, Agreed}
use Rattle.settling.specs.First.{FirstAgreement}

module _ {S I : Type 0} (after : S → I → S) (AllName : S → Type 0) where
  -- every list has a first agreement, where it can be decided whether all name one holder
  pub first_exists : ((s : S) → Dec (AllName s)) → (s : S) (inputs : List I)
      → (before : List I) × (later : List I) × FirstAgreement after AllName s inputs before later
  first_exists decide s [] = ([], [], record { split = refl; differing = tt; reached = inl refl })
  first_exists decide s (input ∷ inputs) = go (decide s) (first_exists decide (after s input) inputs)
    where
      go : Dec (AllName s)
          → ((before : List I) × (later : List I) × FirstAgreement after AllName (after s input) inputs before later)
          → (before : List I) × (later : List I) × FirstAgreement after AllName s (input ∷ inputs) before later
      go (yes agreed) rest = ([], input ∷ inputs, record { split = refl; differing = tt; reached = inr agreed })
      go (no differ) rest = (
        input ∷ rest.0,
        rest.1,
        record { split = ap (λ l. input ∷ l) rest.2.split; differing = (differ, rest.2.differing); reached = rest.2.reached },
      )

  -- where the views differ and the list is not at its end, the first agreement is not yet reached
  not_yet : (s : S) (input : I) (inputs later : List I) → later ≡ input ∷ inputs → (later ≡ []) ⊎ AllName s → ¬ AllName s → ⊥
  not_yet s input inputs later e (inl n) differ = nil≢cons (sym n ∙ e)
  not_yet s input inputs later e (inr agreed) differ = differ agreed

  one_split : (s : S) (b₁ l₁ b₂ l₂ : List I) → b₁ ++ l₁ ≡ b₂ ++ l₂
      → EachFinds after (λ state input. ¬ AllName state) s b₁ → (l₁ ≡ []) ⊎ AllName (after_all after s b₁)
      → EachFinds after (λ state input. ¬ AllName state) s b₂ → (l₂ ≡ []) ⊎ AllName (after_all after s b₂) → (b₁ ≡ b₂) × (l₁ ≡ l₂)
  one_split s [] l₁ [] l₂ e d₁ r₁ d₂ r₂ = (refl, e)
  one_split s [] l₁ (y ∷ b₂) l₂ e d₁ r₁ d₂ r₂ = absurd (not_yet s y (b₂ ++ l₂) l₁ e r₁ d₂.0)
  one_split s (x ∷ b₁) l₁ [] l₂ e d₁ r₁ d₂ r₂ = absurd (not_yet s x (b₁ ++ l₁) l₂ (sym e) r₂ d₁.0)
  one_split s (x ∷ b₁) l₁ (y ∷ b₂) l₂ e d₁ r₁ d₂ r₂ =
      let same : y ≡ x = sym (head-eq_of_cons-eq e) in
      let rest = one_split (after s x) b₁ l₁ b₂ l₂ (tail-eq_of_cons-eq e) d₁.1 r₁
      (subst (λ z. EachFinds after (λ state input. ¬ AllName state) (after s z) b₂) same d₂.1)
      (subst (λ z. (l₂ ≡ []) ⊎ AllName (after_all after (after s z) b₂)) same r₂) in
      (ap₂ ◌∷◌ (sym same) rest.0, rest.1)

  -- a list has only one first agreement
  pub first_unique : {s : S} {inputs b₁ l₁ b₂ l₂ : List I} → FirstAgreement after AllName s inputs b₁ l₁
      → FirstAgreement after AllName s inputs b₂ l₂ → (b₁ ≡ b₂) × (l₁ ≡ l₂)
  first_unique {s} {inputs} {b₁} {l₁} {b₂} {l₂} f g =
      one_split s b₁ l₁ b₂ l₂ (sym f.split ∙ g.split) f.differing f.reached g.differing g.reached

-- whether the views of all stations of a list are v can be decided
all_are : (ns : List ℕ) (views : Views) (v : ℕ) → Dec ((x : ℕ) → x ∈ ns → views x ≡ v)
all_are [] views v = yes (λ x m. elim m [ ])
all_are (y ∷ ns) views v = go (ℕ_discrete (views y) v) (all_are ns views v)
  where
    at : views y ≡ v → ((x : ℕ) → x ∈ ns → views x ≡ v) → (x : ℕ) → x ∈ (y ∷ ns) → views x ≡ v
    at e f x (Memᴰ.head p) = ap views p ∙ e
    at e f x (Memᴰ.tail m) = f x m

    go : Dec (views y ≡ v) → Dec ((x : ℕ) → x ∈ ns → views x ≡ v) → Dec ((x : ℕ) → x ∈ (y ∷ ns) → views x ≡ v)
    go (yes e) (yes f) = yes (at e f)
    go (yes e) (no h) = no (λ g. h (λ x m. g x (Memᴰ.tail m)))
    go (no h) d = no (λ g. h (g y (Memᴰ.head refl)))

-- whether all views are equal can be decided
pub agreed? : (ns : List ℕ) (views : Views) → Dec (Agreed ns views)
agreed? [] views = yes (λ x y m. elim m [ ])
agreed? (a ∷ ns) views = go (all_are (a ∷ ns) views (views a))
  where
    go : Dec ((x : ℕ) → x ∈ (a ∷ ns) → views x ≡ views a) → Dec (Agreed (a ∷ ns) views)
    go (yes f) = yes (λ x y m k. f x m ∙ sym (f y k))
    go (no h) = no (λ g. h (λ x m. g x a m (Memᴰ.head refl)))
