-- What the answers of the exported calls tell of a frame is that of the frame. Assumes nothing.
use Rattle.std.specs.Prelude.{Ok, Err, ◌≡◌}
use Rattle.laws.specs.Usual.{refl, ap, ◌∙◌, List, ℕ, arith, take}
use Rattle.boundary_answers.specs.Numbers.{no_frame}
use Rattle.boundary_answers.specs.declared.Answer.{Answer}
use Rattle.boundary_told.specs.Routes.{written_told_lem}
use Rattle.boundary_told.specs.Told.{route_of, route_read, asked_told}
use Rattle.frame_reading.specs.Reading.{read_of}
use Rattle.station.proofs.Frames.FrameAccepted.{frame_asked}
use Rattle.station.specs.Rules.Asking.{ask_of, due_fields}
use Rattle.station.specs.Rules.Calls.{hear, ask}
use Rattle.station.specs.States.Reachable.{Reachable}
use Rattle.station.specs.Types.{Fields, Refusal}
use Rattle.station.specs.Types.{Asked}
use Rattle.station.specs.declared.Station.{Station}
use Rattle.delivered.specs.Boxes.{Box, station_at, Done}

-- An answer to a frame that was handed over has the code, the source and the destination of the frame that was read, or zeros where none was.
pub heard_frame : {before left : Box} {octets memory assembly : List ℕ} {answer : Answer} {buffers : List (List ℕ)}
    → Done before (hear octets memory assembly) left answer buffers
    → ((frame : Fields) → read_of octets ≡ Ok frame → answer.frame ≡ route_of frame)
    × ((refusal : Refusal) → read_of octets ≡ Err refusal → answer.frame ≡ no_frame)
heard_frame done = (
  λ frame read. ap (λ (a : Answer). a.frame) done.answered ∙ ap route_read read,
  λ refusal read. ap (λ (a : Answer). a.frame) done.answered ∙ ap route_read read,
)

-- An answer to an asking that wrote a frame has those of the frame that was due, and that is what the octets written read as, in every state
-- that calls can leave. (3 is the word of such an answer.)
pub written_frame : {before left : Box} {memory turn output : List ℕ} {answer : Answer} {buffers : List (List ℕ)} → Reachable (station_at before)
    → Done before (ask memory turn output) left answer buffers → answer.word ≡ 3
    → (answer.frame ≡ route_of (due_fields (station_at before).phase (station_at before)))
    × (read_of (take answer.octets (ask_of (station_at before) memory turn output).output) ≡ Ok (due_fields (station_at before).phase (station_at before)))
written_frame {before} {left} {memory} {turn} {output} {answer} reached done word =
    by (ask_of station memory turn output).answer refl
  where
    station : Station
    station = station_at before

    by : (answers : Asked) → (ask_of station memory turn output).answer ≡ answers
        → (answer.frame ≡ route_of (due_fields station.phase station))
        × (read_of (take answer.octets (ask_of station memory turn output).output) ≡ Ok (due_fields station.phase station))
    by (Ok count) e = (
      ap (λ (a : Answer). a.frame) told ∙ written_told_lem count (ask_of station memory turn output).output (due_fields station.phase station) read,
      ap (λ (n : ℕ). read_of (take n (ask_of station memory turn output).output)) (ap (λ (a : Answer). a.octets) told) ∙ read,
    )
      where
        told : answer ≡ asked_told (ask_of station memory turn output).output (Ok count)
        told = done.answered ∙ ap (asked_told (ask_of station memory turn output).output) e

        read : read_of (take count (ask_of station memory turn output).output) ≡ Ok (due_fields station.phase station)
        read = frame_asked station reached memory turn output count e
    by (Err refusal) e =
        let other : answer.word ≡ 4 = ap (λ (a : Answer). a.word) (done.answered ∙ ap (asked_told (ask_of station memory turn output).output) e) in
        absurd (omega (arith, other, word))
