-- What is told is that of the frame. Assumes nothing.
use Rattle.std.specs.Prelude.{Ok, Err, ◌≡◌, ◌<◌, ◌≤◌}
use Rattle.laws.specs.Usual.{refl, sym, ap, ap₂, ◌∙◌, List, ℕ, arith, length, take, get_or, leb}
use Rattle.std.proofs.Common.{leb-true, length-take, get_or-take}
use Rattle.laws.specs.Tests.{first}
use Rattle.frame.specs.Octets.{octet_at, word_at}
use Rattle.frame.specs.Positions.{SNA, DNA, TCD}
use Rattle.frame.specs.declared.Fields.{Fields}
use Rattle.frame_reading.specs.Reading.{and_then, read_header_of, read_body_of, read_of, fields_of}
use Rattle.frame.specs.declared.Refusal.{Refusal}
use Rattle.frame_reading.specs.Reading.{Read}
use Rattle.frame_round_trip.proofs.Accepted.{accepted as passed}
use Rattle.frame_round_trip.proofs.WriteBack.{code_number_lem}
use Rattle.station.specs.Rules.Asking.{Asking}
use Rattle.station.specs.declared.Heard.{Heard}
use Rattle.station.specs.Types.{Asked}
use Rattle.boundary_answers.specs.Numbers.{no_frame, heard_answer, asked_answer}
use Rattle.boundary_answers.specs.declared.Answer.{Answer}
use Rattle.boundary_told.specs.Told.{route_of, route_read, route_in, asked_told, written_told, with_frame, heard_told}
use Rattle.station.specs.declared.Heard.TheVariants as answers

-- an asking's answer, by its numbers
told_by : (output : List ℕ) (answer : Asked) → written_told output (asked_answer answer) ≡ asked_told output answer
told_by output (Ok count) = refl
told_by output (Err refusal) = refl

pub told_asked : (asking : Asking) {output : List ℕ} {answer : Answer} → output ≡ asking.output → answer ≡ asked_answer asking.answer
    → written_told output answer ≡ asked_told asking.output asking.answer
told_asked asking written e = ap₂ written_told written e ∙ told_by asking.output asking.answer

-- an answer with the route of what was read: of a frame that was read,
pub told_read : (octets : List ℕ) (frame : Fields) (answer : Heard) → read_of octets ≡ Ok frame
    → with_frame (heard_answer answer) (route_of frame) ≡ heard_told octets answer
told_read octets frame answer read = ap (λ (r : Read). with_frame (heard_answer answer) (route_read r)) (sym read)

-- and where none was read, of no frame
pub told_unread : (octets : List ℕ) (refusal : Refusal) (answer : Heard) {told : Answer} → read_of octets ≡ Err refusal
    → told ≡ heard_answer answer → told ≡ heard_told octets answer
told_unread octets refusal answer unread e = e ∙ bare answer ∙ ap (λ (r : Read). with_frame (heard_answer answer) (route_read r)) (sym unread)
  where
    bare : (a : Heard) → heard_answer a ≡ with_frame (heard_answer a) no_frame
    bare answers.Off = refl
    bare answers.Done = refl
    bare (answers.Cyclic token) = refl
    bare (answers.Refused r) = refl

-- octets that read as a frame hold its route
pub read_told : (octets : List ℕ) (frame : Fields) → read_of octets ≡ Ok frame → route_in octets ≡ route_of frame
unfolding fields_of
read_told octets frame e =
    let a = passed octets frame e in
    let source : octet_at octets SNA ≡ frame.source = ap (λ (f : Fields). f.source) a.holds in
    let destination : octet_at octets DNA ≡ frame.destination = ap (λ (f : Fields). f.destination) a.holds in
    rw (source, destination, ← code_number_lem (word_at octets TCD) frame.code a.is_coded)

-- and so does an output with such octets at its front
pub written_told_lem : (count : ℕ) (output : List ℕ) (frame : Fields) → read_of (take count output) ≡ Ok frame → route_in output ≡ route_of frame
written_told_lem count output frame e =
    let front = take count output in
    let a = passed front frame e in
    let long : 64 ≤ length front = leb-true 64 (length front) (first (leb 64 (length front)) (leb (length front) 1120) a.is_whole) in
    let enough : 64 ≤ count = omega (arith, long, length-take count output) in
    let same : (at : ℕ) → at < 64 → get_or front at 0 ≡ get_or output at 0 = λ at h. get_or-take count output at 0 (omega (arith, h, enough)) in
    rw (← same 40 (omega arith), ← same 41 (omega arith), ← same 11 (omega arith), ← same 15 (omega arith)) (read_told front frame e)

-- a frame is read in two parts
in_parts : (octets : List ℕ) → read_of octets ≡ and_then (read_header_of octets) (read_body_of (length octets))
unfolding read_of
in_parts octets = refl

pub header_unread : (octets : List ℕ) (refusal : Refusal) → read_header_of octets ≡ Err refusal → read_of octets ≡ Err refusal
header_unread octets refusal h = in_parts octets ∙ rw h

pub body_unread : (octets : List ℕ) (header : Fields) (refusal : Refusal) → read_header_of octets ≡ Ok header
    → read_body_of (length octets) header ≡ Err refusal → read_of octets ≡ Err refusal
body_unread octets header refusal h b = in_parts octets ∙ rw h b

-- Of octets whose header was read.
pub told_header : (octets : List ℕ) (header : Fields) (answer : Heard) {told : Answer} → read_header_of octets ≡ Ok header → told ≡ heard_answer answer
    → with_frame told (route_read (read_body_of (length octets) header)) ≡ heard_told octets answer
told_header octets header answer h e =
    ap₂ (λ (t : Answer) (r : Read). with_frame t (route_read r)) e (sym (in_parts octets ∙ ap (λ (r : Read). and_then r (read_body_of (length octets))) h))
