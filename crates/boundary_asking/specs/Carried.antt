-- What an asking leaves, of a core that was read out of the numbers, is what it leaves of the core that they hold. Assumes nothing.
use Rattle.std.specs.Prelude.{◌≡◌}
use Rattle.laws.specs.Usual.{sym, ap, subst, ◌∙◌, List, ℕ}
use Rattle.boundary_answers.specs.declared.Answer.{Answer}
use Rattle.boundary_core.specs.Crossing.{core_of}
use Rattle.boundary_core.specs.declared.Core.{Core}
use Rattle.boundary_places.specs.Places.{core_in, kept}
use Rattle.boundary_told.specs.Told.{asked_told}
use Rattle.station.specs.Rules.Asking.{Asking}
use Rattle.station.specs.Types.{Members}

-- the numbers, the answer, both buffers and the list after an asking
abbrev pub Leaves : List ℕ → List ℕ → Answer → List ℕ → List ℕ → Members → Asking → Type 0
Leaves before after answer turn output members asking =
    (core_in after ≡ core_of asking.station)
    × ((after ≡ kept before (core_of asking.station))
    × ((answer ≡ asked_told asking.output asking.answer)
    × ((turn ≡ asking.turn) × ((output ≡ asking.output) × (members ≡ asking.station.members)))))

pub carried : (call : Core → Asking) (before : List ℕ) {read held : Core} {after turn output : List ℕ} {answer : Answer} {members : Members}
    → read ≡ held → Leaves before after answer turn output members (call read) → Leaves before after answer turn output members (call held)
carried call before e left = (
  left.0 ∙ ap (λ (k : Core). core_of (call k).station) e,
  (
    left.1.0 ∙ ap (λ (k : Core). kept before (core_of (call k).station)) e,
    (
      left.1.1.0 ∙ ap (λ (k : Core). asked_told (call k).output (call k).answer) e,
      (
        left.1.1.1.0 ∙ ap (λ (k : Core). (call k).turn) e,
        (left.1.1.1.1.0 ∙ ap (λ (k : Core). (call k).output) e, left.1.1.1.1.1 ∙ ap (λ (k : Core). (call k).station.members) e),
      ),
    ),
  ),
)

-- likewise where it is known what the asking is
pub carried_known : (call : Core → Asking) (before : List ℕ) {read held : Core} {after turn output : List ℕ} {answer : Answer} {members : Members} {asking : Asking}
    → read ≡ held → call read ≡ asking → Leaves before after answer turn output members asking → Leaves before after answer turn output members (call held)
carried_known call before {after = after} {turn} {output} {answer} {members} e law left =
    carried call before e (subst (λ (t : Asking). Leaves before after answer turn output members t) (sym law) left)
