-- Laws of lists of inputs, and of counts of events, that are put together from two parts.
use Rattle.std.specs.Prelude.{◌≡◌, ◌∷◌, ◌++◌, ◌+◌}
use Rattle.laws.specs.Usual.{[], refl, sym, List, arith}
use Rattle.std.proofs.Common.{zero-add}
use Rattle.settling.specs.Steps.{after_all, EachFinds}
use Rattle.settling.specs.Ring.{Event, pass, silence, passes}

module _ {S I : Type 0} (after : S → I → S) where
  -- the state after two lists is the state after the second, from the state after the first
  pub after_append : (s : S) (a b : List I) → after_all after s (a ++ b) ≡ after_all after (after_all after s a) b
  after_append s [] b = refl
  after_append s (i ∷ a) b = after_append (after s i) a b

  pub finds_front : (P : S → I → Type 0) (s : S) (a b : List I) → EachFinds after P s (a ++ b) → EachFinds after P s a
  finds_front P s [] b r = tt
  finds_front P s (i ∷ a) b r = (r.0, finds_front P (after s i) a b r.1)

  pub finds_back : (P : S → I → Type 0) (s : S) (a b : List I) → EachFinds after P s (a ++ b) → EachFinds after P (after_all after s a) b
  finds_back P s [] b r = r
  finds_back P s (i ∷ a) b r = finds_back P (after s i) a b r.1

pub passes_append : (a b : List Event) → passes (a ++ b) ≡ passes a + passes b
passes_append [] b = sym (zero-add (passes b))
passes_append (pass x ∷ a) b = omega (arith, passes_append a b)
passes_append (silence ∷ a) b = passes_append a b
