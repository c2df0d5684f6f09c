-- Every text has a first line feed, or none. Assumes nothing.
use Rattle.std.specs.Prelude.{◌≡◌, ◌∷◌}
use Rattle.laws.specs.Usual.{[], refl, ap, Bool, true, false, List, ℕ, eqb}
use Rattle.std.proofs.Common.{eqb-true}
use Rattle.text.specs.Lines.{line_feed}
use Rattle.text_feeding.specs.Cut.{Cut, feed, clean}

pub cut : (text : List ℕ) → Cut text
cut [] = clean tt
cut (octet ∷ text) = by (eqb octet line_feed) refl (cut text)
  where
    by : (t : Bool) → eqb octet line_feed ≡ t → Cut text → Cut (octet ∷ text)
    by true e rest = feed [] text tt (ap (λ (n : ℕ). n ∷ text) (eqb-true octet line_feed e))
    by false e (feed line rest none same) = feed (octet ∷ line) rest (e, none) (ap (λ (l : List ℕ). octet ∷ l) same)
    by false e (clean none) = clean (e, none)
