-- Every frame that is asked for reads back to the fields that are meant. Assumes nothing.
use Rattle.std.specs.Prelude.{Ok, ◌≡◌, ◌&&◌, ◌*◌, ◌≤◌}
use Rattle.laws.specs.Usual.{sym, ap, ◌∙◌, Bool, true, false, cond, List, ℕ, arith, length, take, drop, eqb, leb}
use Rattle.std.proofs.Common.{length-append, length-take, length-drop, take_at, le-leb, eqb-true, leb-true}
use Rattle.area.specs.Areas.{memory_octets, span_of}
use Rattle.area.specs.declared.Area.TheVariants.{One, Two}
use Rattle.block.specs.Blocks.{length_of, start_of, octets_of}
use Rattle.block.specs.Cut.{at_most, within, fits}
use Rattle.copying.specs.Laws.{length_pasted}
use Rattle.copying.specs.Pasted.{pasted}
use Rattle.laws.specs.Tests.{first, second}
use Rattle.frame_reading.specs.Reading.{read_of, data_size}
use Rattle.frame_round_trip.proofs.SentBack.{trigger_back, request_back, block_back, block_size}
use Rattle.frame_writing.specs.Lengths.{length_frame}
use Rattle.frame_writing.specs.Writing.{frame_of, output_of, whole_length}
use Rattle.station.proofs.Outcomes.AskCases.{ask_cases}
use Rattle.station.specs.Outcomes.AskCases.{SendCases, triggers, requests, begins, passes, AskCases, refuses, sends}
use Rattle.station.specs.Rules.Asking.{Asking, due_fields, next_block, next_station, ask_of}
use Rattle.station.specs.Rules.Data.{turn_of}
use Rattle.station.specs.Types.{Areas, Fields, Station}
use Rattle.station.specs.Frames.Asked.{CanSend}

-- the copy of a turn is no longer than the turn
turn_short : (areas : Areas) (memory : List ℕ) → length (turn_of areas memory) ≤ octets_of areas
turn_short areas memory =
    rw (length-append (take (2 * areas.one.size) (drop (span_of One areas.one).start memory)) (take (2 * areas.two.size) (drop (span_of Two areas.two).start memory)))
    (omega (arith, length-take (2 * areas.one.size) (drop (span_of One areas.one).start memory), length-take (2 * areas.two.size) (drop (span_of Two areas.two).start memory)))

-- the frame stands in front of the output
front_written : (fields : Fields) (block output : List ℕ) → data_size fields ≤ length block → whole_length fields ≤ length output →
    take (whole_length fields) (output_of fields block output) ≡ frame_of fields block
front_written fields block output enough room =
    simp (le-leb _ _ enough, le-leb _ _ room)
    (take_at (frame_of fields block) (drop (whole_length fields) output) (whole_length fields) (length_frame fields block enough))

module _ (station : Station) (can : CanSend station) (memory turn : List ℕ) (whole : length turn ≡ memory_octets) where
  -- the turn buffer keeps its length
  turn_kept : {left : Station} {fields : Fields} {copy : List ℕ} → SendCases station memory turn left fields copy → length copy ≡ memory_octets
  turn_kept (triggers e due) = whole
  turn_kept (requests e fallen) = whole
  turn_kept (begins e fallen) = whole
  turn_kept (passes e held placed) = by (eqb station.block 0)
    where
      by : (test : Bool) → length (cond test (pasted turn 0 (turn_of station.own.areas memory)) turn) ≡ memory_octets
      by true =
          length_pasted turn (turn_of station.own.areas memory) 0
          (omega (arith, turn_short station.own.areas memory, fits station.own.areas can.areas)) ∙ whole
      by false = whole

  -- it has the block that is sent next
  block_there : (copy : List ℕ) → length copy ≡ memory_octets
      → length_of station.own.areas (next_block station) ≤ length (drop (start_of (next_block station)) copy)
  block_there copy long =
      rw (length-drop (start_of (next_block station)) copy)
      (omega (arith, can.place, within station.own.areas (next_block station) (omega (arith, can.place)), fits station.own.areas can.areas))

  -- the frame that is due: its data are there, and few enough, and it reads back
  due_back : {left : Station} {fields : Fields} {copy : List ℕ} → SendCases station memory turn left fields copy → length copy ≡ memory_octets
      → (data_size fields ≤ length (drop (start_of (next_block station)) copy)) × (data_size fields ≤ 1024)
      × (read_of (frame_of fields (drop (start_of (next_block station)) copy)) ≡ Ok fields)
  due_back (triggers e due) long = (omega arith, omega arith, trigger_back station.own.number can.number)
  due_back (requests e fallen) long =
      (omega arith, omega arith, request_back station.own.number can.number station.own.areas can.areas station.own.watch)
  due_back (begins e fallen) long =
      (omega arith, omega arith, request_back station.own.number can.number station.own.areas can.areas station.own.watch)
  due_back {copy = copy} (passes e held placed) long =
      let size = block_size station.own.number (next_station station) station.own.areas station.own.watch (next_block station) in
      let there = block_there copy long in
      let few = at_most station.own.areas (next_block station) in (
        omega arith,
        omega arith,
        block_back station.own.number can.number station.own.areas can.areas station.own.watch (next_station station) can.next
            (next_block station) (omega arith) (omega (arith, can.place)) (drop (start_of (next_block station)) copy) there,
      )

-- What an asking writes reads back to the fields of the frame that is due.
pub asked_back : (station : Station) (memory turn output : List ℕ) (count : ℕ) → CanSend station →
    (ask_of station memory turn output).answer ≡ Ok count →
    read_of (take count (ask_of station memory turn output).output) ≡ Ok (due_fields station.phase station)
asked_back station memory turn output count can = by (ask_cases station memory turn output)
  where
    by : {result : Asking} → AskCases station memory turn output result → result.answer ≡ Ok count →
        read_of (take count result.output) ≡ Ok (due_fields station.phase station)
    by (refuses refusal) e = let z : ◌≡◌ {A = ℕ} 0 1 = cc in absurd (omega arith)
    by (sends {fields = fields} {copy} lent is sent) e =
        let sizes = first (eqb (length memory) memory_octets && eqb (length turn) memory_octets) (leb 1088 (length output)) lent in
        let room = leb-true 1088 (length output) (second (eqb (length memory) memory_octets && eqb (length turn) memory_octets) (leb 1088 (length output)) lent) in
        let whole = eqb-true (length turn) memory_octets (second (eqb (length memory) memory_octets) (eqb (length turn) memory_octets) sizes) in
        let back = due_back station can memory turn whole sent (turn_kept station can memory turn whole sent) in
        let same : whole_length fields ≡ count = cc in
        ap (λ (n : ℕ). read_of (take n (output_of fields (drop (start_of (next_block station)) copy) output))) (sym same)
        ∙ ap read_of (front_written fields (drop (start_of (next_block station)) copy) output back.0 (omega (arith, back.1)))
        ∙ back.2 ∙ ap Ok (sym is)
