-- What a hearing leaves, of a core that was read out of the numbers, is what it leaves of the core that they hold. Assumes nothing.
use Rattle.std.specs.Prelude.{Ok, ◌≡◌}
use Rattle.laws.specs.Usual.{sym, ap, ◌∙◌, true, false, List, ℕ}
use Rattle.boundary_answers.specs.Numbers.{heard_answer}
use Rattle.boundary_answers.specs.declared.Answer.{Answer}
use Rattle.boundary_core.specs.Crossing.{core_of, station_of}
use Rattle.boundary_core.specs.declared.Core.{Core}
use Rattle.boundary_entering.specs.Entering.{for_participant, heard_entered}
use Rattle.boundary_places.specs.Places.{core_in, kept}
use Rattle.boundary_refused.specs.Taken.{is_taken_by}
use Rattle.boundary_told.specs.Routes.{told_read}
use Rattle.boundary_told.specs.Told.{route_of, with_frame, heard_told}
use Rattle.frame_reading.specs.Reading.{read_of}
use Rattle.station.specs.Rules.Hearing.{Hearing, lent_right, enters, enters_answer, hear_of}
use Rattle.station.specs.Types.{Members, Fields}
use Rattle.station.specs.declared.Station.{Station}

-- the numbers, the answer, both buffers and the list after a hearing
abbrev pub Leaves : List ℕ → List ℕ → List ℕ → Answer → List ℕ → List ℕ → Members → Hearing → Type 0
Leaves octets before after answer memory assembly members heard =
    (core_in after ≡ core_of heard.station)
    × ((after ≡ kept before (core_of heard.station))
    × ((answer ≡ heard_told octets heard.answer)
    × ((memory ≡ heard.memory) × ((assembly ≡ heard.assembly) × (members ≡ heard.station.members)))))

pub carried : (call : Core → Hearing) (octets before : List ℕ) {read held : Core} {after memory assembly : List ℕ} {answer : Answer} {members : Members}
    → read ≡ held → Leaves octets before after answer memory assembly members (call read)
    → Leaves octets before after answer memory assembly members (call held)
carried call octets before e left = (
  left.0 ∙ ap (λ (k : Core). core_of (call k).station) e,
  (
    left.1.0 ∙ ap (λ (k : Core). kept before (core_of (call k).station)) e,
    (
      left.1.1.0 ∙ ap (λ (k : Core). heard_told octets (call k).answer) e,
      (
        left.1.1.1.0 ∙ ap (λ (k : Core). (call k).memory) e,
        (left.1.1.1.1.0 ∙ ap (λ (k : Core). (call k).assembly) e, left.1.1.1.1.1 ∙ ap (λ (k : Core). (call k).station.members) e),
      ),
    ),
  ),
)

-- What a frame leaves that no participant takes as a cyclic one.
module _ (core : Core) (members : Members) (octets memory assembly before : List ℕ) (frame : Fields) where
  abbrev begun : Station
  begun = enters core.phase frame.code (station_of core members) frame

  pub entered_leaves : {after : List ℕ} {answer : Answer} {left : Members} → is_taken_by core frame ≡ false → for_participant core frame ≡ false
      → lent_right memory assembly ≡ true → read_of octets ≡ Ok frame
      → (core_in after ≡ core_of begun)
      × ((after ≡ kept before (core_of begun))
      × ((answer ≡ with_frame (heard_answer (enters_answer core.phase frame.code)) (route_of frame)) × (left ≡ begun.members)))
      → Leaves octets before after answer memory assembly left (hear_of (station_of core members) octets memory assembly)
  entered_leaves free other lent read done =
      let law = heard_entered core members octets memory assembly frame free other lent read in (
        done.0 ∙ sym (ap (λ (h : Hearing). core_of h.station) law),
        (
          done.1.0 ∙ sym (ap (λ (h : Hearing). kept before (core_of h.station)) law),
          (
            done.1.1.0
                ∙ sym (ap (λ (h : Hearing). with_frame (heard_answer h.answer) (route_of frame)) law)
                ∙ told_read octets frame (hear_of (station_of core members) octets memory assembly).answer read,
            (
              sym (ap (λ (h : Hearing). h.memory) law),
              (sym (ap (λ (h : Hearing). h.assembly) law), done.1.1.1 ∙ sym (ap (λ (h : Hearing). h.station.members) law)),
            ),
          ),
        ),
      )
