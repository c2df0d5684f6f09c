-- Our token frame, by what the base's asking answers and leaves: what is carried in it, what is told of it, and its size. Assumes nothing.
use Rattle.std.specs.Prelude.{Ok, Err, ◌≡◌, ◌&&◌, ◌++◌, ◌≤◌}
use Rattle.laws.specs.Usual.{refl, sym, ap, ap₂, subst, ◌∙◌, Bool, true, false, false≢true, cond, List, ℕ, arith, length, drop, eqb, leb}
use Rattle.std.proofs.Common.{leb-true, length-append, length-drop}
use Rattle.area.specs.Areas.{memory_octets}
use Rattle.block.specs.Blocks.{start_of}
use Rattle.block.specs.Cut.{at_most}
use Rattle.boundary_answers.specs.Numbers.{frame_answer}
use Rattle.boundary_answers.specs.declared.Answer.{Answer}
use Rattle.boundary_core.specs.Crossing.{core_of}
use Rattle.boundary_core.specs.declared.Core.{Core}
use Rattle.boundary_told.specs.Told.{asked_told, written_told}
use Rattle.frame.specs.declared.Fields.{Fields}
use Rattle.frame_reading.specs.Reading.{data_size}
use Rattle.frame_round_trip.proofs.SentBack.{block_size}
use Rattle.frame_writing.specs.Lengths.{length_frame}
use Rattle.frame_writing.specs.Writing.{whole_length, frame_of, fits, output_of}
use Rattle.laws.specs.Tests.{first, second}
use Rattle.message_rules.specs.Rules.Calls.{Both, carried_by, answer_by}
use Rattle.message_rules.specs.Rules.Confirming.{Carried, carried_in}
use Rattle.message_taking.specs.Taking.{is_holder, is_frame, wrote_token}
use Rattle.station.proofs.Outcomes.AskCases.{ask_cases}
use Rattle.station.specs.Outcomes.AskCases.{SendCases, AskCases, refuses, sends, triggers, requests, begins, passes}
use Rattle.station.specs.Rules.Asking.{Asking, ask_of, is_last, next_block, next_station}
use Rattle.station.specs.Rules.State.{is_participating, holds}
use Rattle.station.specs.Types.{Asked}
use Rattle.station.specs.declared.Station.{Station}
use Rattle.message_asking.specs.Asking.{carried_where}

-- an asking wrote a frame after which no block of the turn has been sent
abbrev pub is_ended : Asking → Bool
is_ended after = is_frame after.answer && eqb after.station.block 0

-- by the number of an answer's word
frame_word : (output : List ℕ) (asked : Asked) → eqb (asked_told output asked).word 3 ≡ is_frame asked
frame_word output (Ok count) = refl
frame_word output (Err refusal) = refl

pub ended_told : (after : Asking) {answer : Answer} {core : Core} → answer ≡ asked_told after.output after.answer → core ≡ core_of after.station
    → (eqb answer.word 3 && eqb core.block 0) ≡ is_ended after
ended_told after says is =
    ap₂ (λ (a : Answer) (k : Core). eqb a.word 3 && eqb k.block 0) says is
    ∙ ap (λ (t : Bool). t && eqb after.station.block 0) (frame_word after.output after.answer)

-- the octets that an answer tells of
abbrev octets_told : Asking → ℕ
octets_told after = (asked_told after.output after.answer).octets

-- where an answer is of our token frame, or is not, what is carried by it, and what is told then
module _ (both : Both) (asked : Asked) (output : List ℕ) (token : Bool) where
  abbrev taken : Carried
  taken = carried_where token both.messages.owed (asked_told output asked).octets output

  pub record Tells : Type 0 where
    pub still_owed : taken.owed ≡ (carried_by both asked output).owed
    pub wrote : taken.output ≡ (carried_by both asked output).output
    pub told : cond token (written_told taken.output (frame_answer (carried_in both.messages.owed (asked_told output asked).octets output).count)) (asked_told output asked)
        ≡ asked_told (carried_by both asked output).output (answer_by asked (carried_by both asked output))

module _ (both : Both) (output : List ℕ) where
  tells_frame : (count : ℕ) (token : Bool) → (is_participating both.ring.phase && is_last both.ring) ≡ token → Tells both (Ok count) output token
  tells_frame count token e = by token e
    where
      carried : Bool → Carried
      carried t = carried_where t both.messages.owed count output

      by : (token : Bool) → (is_participating both.ring.phase && is_last both.ring) ≡ token → Tells both (Ok count) output token
      by true e = record {
        still_owed = ap (λ (t : Bool). (carried t).owed) (sym e);
        wrote = ap (λ (t : Bool). (carried t).output) (sym e);
        told = ap (λ (t : Bool). asked_told (carried t).output (Ok (carried t).count)) (sym e);
      }
      by false e = record {
        still_owed = ap (λ (t : Bool). (carried t).owed) (sym e);
        wrote = ap (λ (t : Bool). (carried t).output) (sym e);
        told = ap (λ (t : Bool). asked_told (carried t).output (Ok (carried t).count)) (sym e);
      }

-- one who does not participate does not hold; one who does and writes holds
outside : (inside held last ended : Bool) → inside ≡ false → (inside && last) ≡ ((inside && held) && (true && ended))
outside true held last ended e = absurd (false≢true (sym e))
outside false held last ended e = refl

within : (inside held last ended : Bool) → inside ≡ true → held ≡ true → last ≡ ended → (inside && last) ≡ ((inside && held) && (true && ended))
within false held last ended i h e = absurd (false≢true i)
within true false last ended i h e = absurd (false≢true h)
within true true last ended i h e = e

module _ (both : Both) (memory turn output : List ℕ) where
  tells_by : {after : Asking} → AskCases both.ring memory turn output after
      → (is_participating both.ring.phase ≡ true → is_frame after.answer ≡ true → is_last both.ring ≡ eqb after.station.block 0)
      → Tells both after.answer after.output (is_holder both.ring && is_ended after)
  tells_by (refuses refusal) token = by (is_holder both.ring)
    where
      by : (held : Bool) → Tells both (Err refusal) output (held && false)
      by true = record { still_owed = refl; wrote = refl; told = refl }
      by false = record { still_owed = refl; wrote = refl; told = refl }
  tells_by (sends lent is (triggers e due)) token =
      tells_frame both _ _ _ (outside (is_participating both.ring.phase) (holds both.ring) (is_last both.ring) _ (ap is_participating e))
  tells_by (sends lent is (requests e fallen)) token =
      tells_frame both _ _ _ (outside (is_participating both.ring.phase) (holds both.ring) (is_last both.ring) _ (ap is_participating e))
  tells_by (sends lent is (begins e fallen)) token =
      tells_frame both _ _ _ (outside (is_participating both.ring.phase) (holds both.ring) (is_last both.ring) _ (ap is_participating e))
  tells_by (sends lent is (passes e held placed)) token =
      tells_frame both _ _ _
      (within (is_participating both.ring.phase) (holds both.ring) (is_last both.ring) _ (ap is_participating e) held (token (ap is_participating e) refl))

  pub tells : let after = ask_of both.ring memory turn output in Tells both after.answer after.output (is_holder both.ring && is_ended after)
  tells = tells_by (ask_cases both.ring memory turn output) (wrote_token both.ring memory turn output)

-- a frame that is written has 64 to 1088 octets, all of them in the output
written_length : (fields : Fields) (block output : List ℕ) → whole_length fields ≤ length output → length (output_of fields block output) ≡ length output
written_length fields block output room = by (fits fields block output) refl
  where
    by : (fit : Bool) → fits fields block output ≡ fit → length (cond fit (frame_of fields block ++ drop (whole_length fields) output) output) ≡ length output
    by true e =
        let enough = leb-true (data_size fields) (length block) (first (leb (data_size fields) (length block)) (leb (whole_length fields) (length output)) e) in
        let whole = length_frame fields block enough in
        let rest = length-drop (whole_length fields) output in
        length-append (frame_of fields block) (drop (whole_length fields) output) ∙ omega (arith, whole, rest, room)
    by false e = refl

record Sizes (count given : ℕ) : Type 0 where
  pub header : 64 ≤ count
  pub most : count ≤ 1088
  pub room : count ≤ given

module _ (station : Station) (memory turn output : List ℕ) where
  data_few : {sent : Station} {fields : Fields} {copy : List ℕ} → SendCases station memory turn sent fields copy → data_size fields ≤ 1024
  data_few (triggers e due) = omega arith
  data_few (requests e fallen) = omega arith
  data_few (begins e fallen) = omega arith
  data_few (passes e held placed) =
      let size = block_size station.own.number (next_station station) station.own.areas station.own.watch (next_block station) in
      omega (arith, size, at_most station.own.areas (next_block station))

  sizes_by : {after : Asking} → AskCases station memory turn output after → is_frame after.answer ≡ true → Sizes (octets_told after) (length after.output)
  sizes_by (refuses refusal) wrote = absurd (false≢true wrote)
  sizes_by (sends {fields = fields} {copy} lent is sent) wrote =
      let few = data_few sent in
      let room = leb-true 1088 (length output) (second (eqb (length memory) memory_octets && eqb (length turn) memory_octets) (leb 1088 (length output)) lent) in
      let kept = written_length fields (drop (start_of (next_block station)) copy) output (omega (arith, few, room)) in
      record { header = omega arith; most = omega (arith, few); room = omega (arith, few, room, kept) }

  abbrev left : Asking
  left = ask_of station memory turn output

  sizes : (is_holder station && is_ended left) ≡ true → Sizes (octets_told left) (length left.output)
  sizes token =
      sizes_by (ask_cases station memory turn output)
      (first (is_frame left.answer) (eqb left.station.block 0) (second (is_holder station) (is_ended left) token))

  -- what carrying a confirmation asks for
  pub sized : {answer : Answer} {written : List ℕ} {held ended : Bool}
      → held ≡ is_holder station → ended ≡ is_ended left → answer ≡ asked_told left.output left.answer → written ≡ left.output
      → ((held && ended) ≡ true → 64 ≤ answer.octets) × (((held && ended) ≡ true → answer.octets ≤ 1088) × ((held && ended) ≡ true → answer.octets ≤ length written))
  sized {answer = answer} {written} {held} {ended} h e says wrote = (λ t. (by t).header, (λ t. (by t).most, λ t. (by t).room))
    where
      by : (held && ended) ≡ true → Sizes answer.octets (length written)
      by t =
          subst (λ (a : Answer). Sizes a.octets (length written)) (sym says)
          (subst (λ (l : List ℕ). Sizes (octets_told left) (length l)) (sym wrote) (sizes (ap₂ ◌&&◌ (sym h) (sym e) ∙ t)))
