-- `settle_input::entry_of` meets its contract.
use Rattle.std.specs.Prelude.{Some, None, ◌≡◌, ◌+◌, ◌-◌}
use Rattle.laws.specs.Lists.{to_end}
use Rattle.laws.specs.Usual.{refl, sym, ap, ap₂, ◌∙◌, List, ℕ, length, take, drop}
use Rattle.text.specs.Lines.{comma, line_feed}
use Rattle.text_reading.specs.Marks.{behind}
use Rattle.settle_input.specs.Input.{number_in, place_in, entry_with, entry_of}
use Rattle.settle_input.specs.Form.{no_comma, no_end, entry_made, place_some, place_none}
use Rattle.settle_input.proofs.entry_of.Goals as goal

-- what is said behind the comma
module _ (line rest : List ℕ) (place : ℕ) (found : place_in comma line ≡ Some place) (end : rest ≡ take (length line - (place + 1)) (drop (place + 1) line)) where
  rest_is : rest ≡ behind comma line
  rest_is = end ∙ to_end line _ ∙ ap (λ (k : ℕ). drop (k + 1) line) (sym (place_some comma line place found).0)

  ends_not : place_in line_feed rest ≡ None → None ≡ entry_of line
  ends_not e = no_end line (place_some comma line place found).1 (place_none line_feed (behind comma line) (ap (place_in line_feed) (sym rest_is) ∙ e))

  -- both numbers, or not
  told : (end : ℕ) → place_in line_feed rest ≡ Some end
      → entry_with (number_in (take place line)) (number_in (take end rest)) ≡ entry_of line
  told end e =
      let (end_is, inside) = place_some line_feed (behind comma line) end (ap (place_in line_feed) (sym rest_is) ∙ e) in
      ap₂ entry_with (ap (λ (k : ℕ). number_in (take k line)) (sym (place_some comma line place found).0))
      (ap₂ (λ (k : ℕ) (l : List ℕ). number_in (take k l)) (sym end_is) rest_is)
      ∙ entry_made line (place_some comma line place found).1 inside

pub returns-in_err-comma : goal.returns-in_err-comma
returns-in_err-comma c = c.from_residual.ensures ∙ no_comma c.args.line.now (place_none comma c.args.line.now (sym c.place_in.ensures ∙ c.in_err-comma.was))

pub returns-in_err-end : goal.returns-in_err-end
returns-in_err-end c =
    c.from_residual-in_err-end.ensures
    ∙ ends_not c.args.line.now _ c.in_ok-comma.comma (sym c.place_in.ensures ∙ c.in_ok-comma.was) refl (sym c.place_in-2.ensures ∙ c.in_err-end.was)

pub returns-in_err-station : goal.returns-in_err-station
returns-in_err-station c =
    c.from_residual-in_err-station.ensures
    ∙ rw (sym c.number_in.ensures ∙ c.in_err-station.was) at
    (told c.args.line.now _ c.in_ok-comma.comma (sym c.place_in.ensures ∙ c.in_ok-comma.was) refl c.in_ok-end.end (sym c.place_in-2.ensures ∙ c.in_ok-end.was))

pub returns-in_err-view : goal.returns-in_err-view
returns-in_err-view c =
    c.from_residual-in_err-view.ensures
    ∙ rw (sym c.number_in.ensures ∙ c.in_ok-station.was, sym c.number_in-2.ensures ∙ c.in_err-view.was) at
    (told c.args.line.now _ c.in_ok-comma.comma (sym c.place_in.ensures ∙ c.in_ok-comma.was) refl c.in_ok-end.end (sym c.place_in-2.ensures ∙ c.in_ok-end.was))

pub returns : goal.returns
returns c =
    rw (sym c.number_in.ensures ∙ c.in_ok-station.was, sym c.number_in-2.ensures ∙ c.in_ok-view.was) at
    (told c.args.line.now _ c.in_ok-comma.comma (sym c.place_in.ensures ∙ c.in_ok-comma.was) refl c.in_ok-end.end (sym c.place_in-2.ensures ∙ c.in_ok-end.was))
