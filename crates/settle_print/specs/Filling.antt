-- How a buffer fills, line by line: what was put into it and what is still to be printed are together what was to be printed. Assumes
-- nothing.
use Rattle.std.specs.Prelude.{◌≡◌, ◌++◌, ◌+◌, ◌-◌, ◌<◌, ◌≤◌}
use Rattle.laws.specs.Usual.{refl, sym, ap, subst, ◌∙◌, Bool, true, false, cond, not, List, ℕ, suc, arith, length, take, leb}
use mathlib.Core.List.{append_assoc}
use Prim.Native.Nat.{zero}
use Rattle.std.proofs.Common.{le_refl, le-leb, leb-true, take_at}
use Rattle.std.proofs.lemmas.Bool.{not-true}
use Rattle.std.proofs.Math.ListN.{length-append}
use Rattle.laws.specs.Tests.{first, second}
use Rattle.settle_output.specs.Output.{room}
use Rattle.settle_rest.specs.Rest.{rest_of, is_over}
use Rattle.settle_rest.specs.declared.Printing.{Printing}
use Rattle.settle_print.specs.Parts.{next_line, next_of, lines_left, goes_on, fill_from, filled_of}
use Rattle.settle_print.specs.Lines.{line_next, lines_next, line_fits}
use Rattle.settle_print.specs.declared.Filled.{Filled}

-- where the filling of a buffer of so many octets stands, with the first `at` octets put
pub record Filling (size : ℕ) (begun now : Printing) (at : ℕ) : Type 0 where
  -- with the lines that are still counted it ends as the whole does
  pub lines : ℕ
  pub enough : lines_left now ≤ lines
  pub whole : fill_from lines size now at ≡ filled_of size begun
  pub joined : take at (rest_of begun) ++ rest_of now ≡ rest_of begun
  pub count : length (take at (rest_of begun)) ≡ at
  pub inside : at ≤ size

module _ {size : ℕ} {begun : Printing} where
  pub filling_start : Filling size begun begun 0
  filling_start = record { lines = lines_left begun; enough = omega arith; whole = refl; joined = refl; count = refl; inside = omega arith }

  module _ {now : Printing} {at : ℕ} (f : Filling size begun now at) where
    pub not_over : goes_on size now at ≡ true → is_over now ≡ false
    not_over on = not-true (is_over now) (first (not (is_over now)) (leb room (size - at)) on)

    pub has_room : goes_on size now at ≡ true → at + room ≤ size
    has_room on = omega (arith, leb-true room (size - at) (second (not (is_over now)) (leb room (size - at)) on))

    -- one line more
    pub written : take (at + length (next_line now)) (rest_of begun) ≡ take at (rest_of begun) ++ next_line now
    written =
        let front = take at (rest_of begun) in
        let whole : rest_of begun ≡ (front ++ next_line now) ++ rest_of (next_of now) =
        sym (append_assoc front (next_line now) (rest_of (next_of now)) ∙ ap (λ (l : List ℕ). front ++ l) (line_next now) ∙ f.joined) in
        ap (take (at + length (next_line now))) whole
        ∙ take_at (front ++ next_line now) (rest_of (next_of now)) (at + length (next_line now)) (length-append front (next_line now) ∙ ap (λ (k : ℕ). k + length (next_line now)) f.count)

    pub filling_next : goes_on size now at ≡ true → Filling size begun (next_of now) (at + length (next_line now))
    unfolding fill_from
    filling_next on = record {
      lines = f.lines - 1;
      enough = omega (arith, lines_next now (not_over on), f.enough);
      whole = sym (ap (λ (lines : ℕ). fill_from lines size now at) one_less ∙ ap (λ (t : Bool). cond t (fill_from (f.lines - 1) size (next_of now) (at + length (next_line now))) (record { printing = now; length = at })) on) ∙ f.whole;
      joined =
          ap (λ (l : List ℕ). l ++ rest_of (next_of now)) written
          ∙ append_assoc (take at (rest_of begun)) (next_line now) (rest_of (next_of now))
          ∙ ap (λ (l : List ℕ). take at (rest_of begun) ++ l) (line_next now)
          ∙ f.joined;
      count = ap length written ∙ length-append (take at (rest_of begun)) (next_line now) ∙ ap (λ (k : ℕ). k + length (next_line now)) f.count;
      inside = omega (arith, has_room on, line_fits now (not_over on));
    }
      where
        one_less : f.lines ≡ suc (f.lines - 1)
        one_less = omega (arith, lines_next now (not_over on), f.enough)

    -- no line more
    pub filling_over : goes_on size now at ≡ false → record { printing = now; length = at } ≡ filled_of size begun
    unfolding fill_from
    filling_over off = sym (stop f.lines) ∙ f.whole
      where
        stop : (lines : ℕ) → fill_from lines size now at ≡ record { printing = now; length = at }
        stop zero = refl
        stop (suc lines) = rw off

-- where it ends
stopped : {size : ℕ} {begun now : Printing} {at : ℕ} → Filling size begun now at
    → (goes_on size now at ≡ true → Filling size begun (filled_of size begun).printing (filled_of size begun).length)
    → Filling size begun (filled_of size begun).printing (filled_of size begun).length
stopped {size} {begun} {now} {at} f more = by (goes_on size now at) refl
  where
    by : (t : Bool) → goes_on size now at ≡ t → Filling size begun (filled_of size begun).printing (filled_of size begun).length
    by true on = more on
    by false off = subst (λ (r : Filled). Filling size begun r.printing r.length) (filling_over f off) f

filling_end : (lines : ℕ) {size : ℕ} {begun now : Printing} {at : ℕ} → lines_left now ≤ lines → Filling size begun now at
    → Filling size begun (filled_of size begun).printing (filled_of size begun).length
filling_end zero {now = now} e f = stopped f (λ on. absurd (omega (arith, lines_next now (not_over f on), e)))
filling_end (suc lines) {now = now} e f = stopped f (λ on. filling_end lines (omega (arith, lines_next now (not_over f on), e)) (filling_next f on))

pub filled : (size : ℕ) (p : Printing) → Filling size p (filled_of size p).printing (filled_of size p).length
filled size p = filling_end (lines_left p) (le_refl (lines_left p)) filling_start

-- no line comes back, and no octet
no_more : (lines size : ℕ) (p : Printing) (at : ℕ) → lines_left (fill_from lines size p at).printing ≤ lines_left p × (at ≤ (fill_from lines size p at).length)
unfolding fill_from
no_more zero size p at = (omega arith, omega arith)
no_more (suc lines) size p at = by (goes_on size p at) refl (no_more lines size (next_of p) (at + length (next_line p)))
  where
    more : Filled
    more = fill_from lines size (next_of p) (at + length (next_line p))

    by : (t : Bool) → goes_on size p at ≡ t → lines_left more.printing ≤ lines_left (next_of p) × (at + length (next_line p) ≤ more.length)
        → lines_left (cond t more (record { printing = p; length = at })).printing ≤ lines_left p
        × (at ≤ (cond t more (record { printing = p; length = at })).length)
    by true on (few, put) = (omega (arith, lines_next p (not-true (is_over p) (first (not (is_over p)) (leb room (size - at)) on)), few), omega arith)
    by false on (few, put) = (omega arith, omega arith)

pub fill_no_more : (size : ℕ) (p : Printing) → lines_left (filled_of size p).printing ≤ lines_left p
fill_no_more size p = (no_more (lines_left p) size p 0).0

-- With room for a line, and one left, a fill puts an octet, and leaves fewer lines.
pub fill_less : (size : ℕ) (p : Printing) → room ≤ size → is_over p ≡ false
    → (lines_left (filled_of size p).printing < lines_left p) × (1 ≤ (filled_of size p).length)
unfolding fill_from
fill_less size p enough e =
    let lines = lines_left p - 1 in
    let some : lines_left p ≡ suc lines = omega (arith, lines_next p e) in
    let first : filled_of size p ≡ fill_from lines size (next_of p) (0 + length (next_line p)) =
    ap (λ (k : ℕ). fill_from k size p 0) some ∙ rw (e, le-leb room (size - 0) (omega arith)) in
    let rest = no_more lines size (next_of p) (0 + length (next_line p)) in
    rw first (omega (arith, rest, lines_next p e), omega (arith, rest, line_fits p e))
