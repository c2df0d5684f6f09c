-- `settle_steps::step_in` meets its contract.
use Rattle.std.specs.Prelude.{◌≡◌}
use Rattle.laws.specs.Usual.{sym, ap, ◌∙◌, List, ℕ, arith, get_or, map}
use Rattle.settling.specs.Ring.{Event, pass, silence}
use Rattle.settle_views.specs.Views.{ring_with, stations_of}
use Rattle.settle_views.specs.declared.Ring.{Ring}
use Rattle.settle_moves.specs.Moves.{passed_view, view_after, moved}
use Rattle.settle_moves.specs.Each.{at_each}
use Rattle.settle_counts.specs.Counts.{above_zero, carried_numbers}
use Rattle.settle_counts.proofs.Sums.{carried_same}
use Rattle.settle_run.specs.Run.{pass_by, event_in, stepped_by}
use Rattle.settle_run.specs.Running.{numbers_after, stepped_with}
use Rattle.settle_run.specs.declared.Kind.TheVariants.{Pass}
use Rattle.settle_steps.proofs.step_in.Goals as goal

-- what holds after the event that comes
module _ (ring : Ring) (numbers : List ℕ) (event : Event) (comes : event_in ring ≡ event) where
  told : {total : ℕ} {after : Ring} {left : List ℕ} → total ≡ above_zero (carried_numbers (view_after (stations_of ring) event) numbers) → after ≡ moved ring event
      → left ≡ carried_numbers (view_after (stations_of ring) event) numbers
      → (stepped_by ring total event ≡ stepped_with ring numbers) × ((after ≡ moved ring (event_in ring)) × (left ≡ numbers_after ring numbers))
  told t a l = (
    ap (λ (n : ℕ). stepped_by ring n event) t ∙ ap (λ (e : Event). stepped_by ring (above_zero (carried_numbers (view_after (stations_of ring) e) numbers)) e) (sym comes),
    (a ∙ ap (moved ring) (sym comes), l ∙ ap (λ (e : Event). carried_numbers (view_after (stations_of ring) e) numbers) (sym comes)),
  )

pub returns-in_default : goal.returns-in_default
returns-in_default c =
    let a = c.args in
    let ring = ring_with a.views.now in
    let numbers = a.numbers.now in
    let silent = c.silence_views-moves in
    let counts = c.silence_counts in
    let f = view_after (stations_of ring) silence in
    let none : event_in ring ≡ silence = ap pass_by (sym c.smallest_holder.ensures ∙ c.in_default.is) in
    let goes : carried_numbers (λ view. get_or silent.result view 0) numbers ≡ carried_numbers f numbers = carried_same _ _ numbers (λ view low. ap (λ (l : List ℕ). get_or l view 0) silent.ensures.value ∙ at_each f 256 view (omega (arith, low, counts.ensures.numbers_len))) in
    let t = told ring numbers silence none (counts.ensures.value ∙ ap above_zero goes) silent.ensures.views_after (counts.ensures.numbers_after ∙ goes) in
    record { value = t.0; views_after = t.1.0; numbers_after = t.1.1 }

pub returns : goal.returns
returns c =
    let a = c.args in
    let ring = ring_with a.views.now in
    let numbers = a.numbers.now in
    let holder = c.in-Some.holder in
    let after = c.next_after-to.ensures in
    let counts = c.pass_counts.ensures in
    let some : event_in ring ≡ pass holder = ap pass_by (sym c.smallest_holder.ensures ∙ c.in-Some.is) in
    let goes = ap (λ (to : ℕ). carried_numbers (λ view. passed_view view holder to) numbers) after in
    let views = ap ring_with (c.pass_views.ensures ∙ ap (λ (to : ℕ). map (λ (view : ℕ). passed_view view holder to) a.views.now) after) in
    let t = told ring numbers (pass holder) some (counts.value ∙ ap above_zero goes) views (counts.numbers_after ∙ goes) in
    record {
      value = ap (λ (to : ℕ). record { kind = Pass holder to; views = c.pass_counts.result }) after ∙ t.0;
      views_after = t.1.0;
      numbers_after = t.1.1;
    }
