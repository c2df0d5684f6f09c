-- `settle_input::read_forms` meets its contract.
use Rattle.std.specs.Prelude.{Option, Some, ◌≡◌, ◌+◌, ◌<◌, ◌≤◌}
use Rattle.laws.specs.Usual.{sym, ap, ◌∙◌, List, ℕ, arith, length, take, drop, set}
use native.Mathlib.Numerals.{add-one}
use Rattle.std.proofs.Common.{eqb-true}
use Rattle.std.proofs.lemmas.Bool.{eqb-false}
use Rattle.settle_input.specs.declared.Entry.{Entry}
use Rattle.settle_input.specs.Input.{lines_of, entry_of, station_at, view_at, station_in, view_in, first_line, forms_from, bad}
use Rattle.settle_input.specs.Form.{empty_list, first_line_taken}
use Rattle.settle_input.specs.Lines.{forms_bad, forms_more}
use Rattle.settle_input.proofs.read_forms.Goals as goal

-- the first of some lines, and what it says
module _ (number below : ℕ) (views octets first : List ℕ) (size : ℕ) (some : 0 < length octets) (size_is : size ≡ length (first_line octets))
    (front : first ≡ take size octets) (said : Option Entry) (says : said ≡ entry_of first) where
  station_is : station_in (first_line octets) ≡ station_at said
  station_is = let line = front ∙ ap (λ (k : ℕ). take k octets) size_is ∙ first_line_taken octets in ap station_at (ap entry_of (sym line) ∙ sym says)

  view_is : view_in (first_line octets) ≡ view_at said
  view_is = let line = front ∙ ap (λ (k : ℕ). take k octets) size_is ∙ first_line_taken octets in ap view_at (ap entry_of (sym line) ∙ sym says)

  bad_first : station_at said ≤ below → bad number ≡ forms_from number below views (lines_of octets)
  bad_first low = sym (forms_bad number below views octets some (omega (arith, station_is)))

  more : (entry : Entry) (behind : List ℕ) → said ≡ Some entry → below < entry.station → behind ≡ drop size octets
      → forms_from (number + 1) entry.station (set views entry.station entry.view) (lines_of behind) ≡ forms_from number below views (lines_of octets)
  more entry behind e high rest =
      let s = station_is ∙ ap station_at e in
      let v = view_is ∙ ap view_at e in
      let left = rest ∙ ap (λ (k : ℕ). drop k octets) size_is in
      let from = forms_more number below views octets some (omega (arith, s)) in
      rw (add-one number, left) (sym (rw (s, v) at from))

pub returns-in_default : goal.returns-in_default
returns-in_default c =
    let l = c.loop-rest in
    let octets = l.rest.now in
    let n = eqb-false (length octets) 0 (sym c.is_empty.ensures ∙ c.loop-rest-test.true) in
    let low : station_at c.entry_of.result ≤ l.below = omega (arith, ap station_at c.in-Some.is, c.if-below-entry.false) in
    bad_first l.line l.below l.views octets c.split_at.result.0.now c.line_length.result (omega arith) c.line_length.ensures c.split_at.ensures.front c.entry_of.result c.entry_of.ensures low
    ∙ l.invariant.0

pub returns-in_default-2 : goal.returns-in_default-2
returns-in_default-2 c =
    let l = c.loop-rest in
    let octets = l.rest.now in
    let n = eqb-false (length octets) 0 (sym c.is_empty.ensures ∙ c.loop-rest-test.true) in
    let low : station_at c.entry_of.result ≤ l.below = omega (arith, ap station_at c.in_default.is) in
    bad_first l.line l.below l.views octets c.split_at.result.0.now c.line_length.result (omega arith) c.line_length.ensures c.split_at.ensures.front c.entry_of.result c.entry_of.ensures low
    ∙ l.invariant.0

pub loop-rest-preserved : goal.loop-rest-preserved
loop-rest-preserved c =
    let l = c.loop-rest in
    let octets = l.rest.now in
    let n = eqb-false (length octets) 0 (sym c.is_empty.ensures ∙ c.loop-rest-test.true) in (
      more l.line l.below l.views octets c.split_at.result.0.now c.line_length.result (omega arith) c.line_length.ensures c.split_at.ensures.front c.entry_of.result c.entry_of.ensures
          c.in-Some.entry c.split_at.result.1.now c.in-Some.is c.if-below-entry.true c.split_at.ensures.back
          ∙ l.invariant.0,
      omega arith,
    )

pub returns : goal.returns
unfolding forms_from lines_of
returns c =
    let l = c.loop-rest in
    let none = empty_list l.rest.now (omega (arith, eqb-true (length l.rest.now) 0 (sym c.is_empty.ensures ∙ c.loop-rest-test.false))) in
    sym (ap (λ (octets : List ℕ). forms_from l.line l.below l.views (lines_of octets)) none) ∙ l.invariant.0
