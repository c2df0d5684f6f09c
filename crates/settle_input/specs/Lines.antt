-- The lines of the input, one after the other. Assumes nothing.
use Rattle.std.specs.Prelude.{◌≡◌, ◌∷◌, ◌<◌, ◌≤◌}
use Rattle.laws.specs.Usual.{refl, ap, ◌∙◌, Bool, true, false, cond, List, [], ℕ, suc, arith, length, take, drop, set, eqb}
use Rattle.std.proofs.Common.{lt-ltb, le-ltb}
use Rattle.text.specs.Lines.{line_feed}
use Rattle.text_reading.specs.Marks.{before}
use Rattle.text_reading.specs.Parts.{in_front}
use Rattle.settle_input.specs.Input.{lines_of, station_in, view_in, first_line, forms_from, bad}

-- some octets are their first line, and the lines of what stands behind it
pub lines_first : (octets : List ℕ) → 0 < length octets
    → lines_of octets ≡ first_line octets ∷ lines_of (drop (length (first_line octets)) octets)
unfolding lines_of
lines_first [] h = absurd (omega arith)
lines_first (octet ∷ []) h = by (eqb octet line_feed)
  where
    by : (t : Bool) → cond t ((octet ∷ []) ∷ []) ((octet ∷ []) ∷ [])
        ≡ take (suc (cond t 0 1)) (octet ∷ []) ∷ lines_of (drop (length (take (suc (cond t 0 1)) (octet ∷ []))) (octet ∷ []))
    by true = refl
    by false = refl
lines_first (octet ∷ next ∷ octets) h = by (eqb octet line_feed) (lines_first (next ∷ octets) (omega arith))
  where
    rest : List ℕ
    rest = next ∷ octets

    by : (t : Bool) → lines_of rest ≡ first_line rest ∷ lines_of (drop (length (first_line rest)) rest)
        → cond t ((octet ∷ []) ∷ lines_of rest) (in_front octet (lines_of rest))
        ≡ take (suc (cond t 0 (suc (before line_feed rest)))) (octet ∷ rest)
        ∷ lines_of (drop (length (take (suc (cond t 0 (suc (before line_feed rest)))) (octet ∷ rest))) (octet ∷ rest))
    by true e = refl
    by false e = ap (in_front octet) e

-- the first line has an octet
pub line_some : (octets : List ℕ) → 0 < length octets → 0 < length (first_line octets)
line_some [] h = absurd (omega arith)
line_some (octet ∷ octets) h = omega arith

-- reading the forms of some lines
module _ (number below : ℕ) (views octets : List ℕ) (some : 0 < length octets) where
  -- a line whose station is not above those before it is bad
  pub forms_bad : station_in (first_line octets) ≤ below → forms_from number below views (lines_of octets) ≡ bad number
  unfolding forms_from
  forms_bad low = ap (forms_from number below views) (lines_first octets some) ∙ rw (le-ltb _ _ low)

  pub forms_more : below < station_in (first_line octets)
      → forms_from number below views (lines_of octets)
      ≡ forms_from (suc number) (station_in (first_line octets)) (set views (station_in (first_line octets)) (view_in (first_line octets)))
      (lines_of (drop (length (first_line octets)) octets))
  unfolding forms_from
  forms_more high = ap (forms_from number below views) (lines_first octets some) ∙ rw (lt-ltb _ _ high)
