-- The outcomes of hearing a frame, each with what led there and what is left: whatever is proved of hearing goes by these. Assumes nothing.
use Rattle.std.specs.Prelude.{Ok, Err, ◌≡◌, ◌&&◌, ◌||◌}
use Rattle.laws.specs.Usual.{refl, sym, ap, ◌∙◌, Bool, true, false, cond, not, List, ℕ, length, eqb}
use Rattle.std.proofs.lemmas.Bool.{not-false}
use Rattle.block.specs.Blocks.{start_of}
use Rattle.copying.specs.Pasted.{pasted}
use Rattle.frame.specs.Codes.{is_token, is_cyclic}
use Rattle.frame.specs.declared.Code.TheVariants.{Token, Cyclic, Request, Trigger}
use Rattle.laws.specs.Tests.{first, second, implied}
use Rattle.members.specs.Members.{entry_of}
use Rattle.frame_reading.specs.Reading.{and_then, read_header_of, read_body_of, read_of, data_of}
use Rattle.frame_round_trip.proofs.Accepted.{accepted as passed, bodied}
use Rattle.frame_round_trip.specs.Accepted.{Accepted}
use Rattle.station.specs.Rules.Data.{turn_written, same_areas, is_next, repeated, dropped, gathered}
use Rattle.station.specs.Rules.Hearing.{requested, enters, enters_answer, participant_heard, accepted, is_taken, knows, is_stranger, lent_right, refused, body_heard, header_heard, hear_of}
use Rattle.station.specs.Rules.Starting.{joined_by}
use Rattle.station.specs.Rules.State.{fresh, is_off, is_participating, nothing, stopped}
use Rattle.station.specs.Types.{Heard, Dropped, Areas, Fields, Code, Read, Phase, Off, Listening, Startup, Joining, Participating, Station, Kept, Written}
use Rattle.station.specs.Outcomes.HearCases.{EnterCases, Accepts, FromMember, repeats?, GatherCases, writes, keeps, repeats, drops, Awaits, listening_awaits, startup_awaits, Lists, startup_lists, participant_lists, Unnamed, listening_request, startup_trigger, joining_request, joining_trigger, participating_trigger, off, begins, joins, passes, reads, lists, ignores, HearCases, refuses, turns_off, gathers, heeds}
use Rattle.frame.specs.declared.Refusal.TheVariants as refusals
use Rattle.station.specs.declared.Heard.TheVariants as answers
use Rattle.station.specs.declared.Token.TheVariants as tokens

-- octets that pass both parts of the reading pass every test
pub read_both : (octets : List ℕ) (frame : Fields) → read_header_of octets ≡ Ok frame → read_body_of (length octets) frame ≡ Ok frame → Accepted octets frame
unfolding read_of
read_both octets frame h b = passed octets frame (ap (λ (r : Read). and_then r (read_body_of (length octets))) h ∙ b)

-- a frame that no refusal met did,
pub whole_of : {station : Station} {octets memory assembly : List ℕ} {frame : Fields} → Accepts station octets memory assembly frame → Accepted octets frame
whole_of {octets = octets} {frame = frame} ok = read_both octets frame ok.header ok.body

-- and is of another station, unless we are off
pub other_of : {station : Station} {octets memory assembly : List ℕ} {frame : Fields} → Accepts station octets memory assembly frame
    → is_off station.phase ≡ false → eqb frame.source station.own.number ≡ false
other_of ok on = rw on at ok.untaken

pub awaits_on : {phase : Phase} → Awaits phase → is_off phase ≡ false
awaits_on listening_awaits = refl
awaits_on startup_awaits = refl

pub awaits_outside : {phase : Phase} → Awaits phase → is_participating phase ≡ false
awaits_outside listening_awaits = refl
awaits_outside startup_awaits = refl

pub lists_on : {phase : Phase} → Lists phase → is_off phase ≡ false
lists_on startup_lists = refl
lists_on participant_lists = refl

pub unnamed_plain : {phase : Phase} {code : Code} → Unnamed phase code → is_cyclic code ≡ false
unnamed_plain listening_request = refl
unnamed_plain startup_trigger = refl
unnamed_plain joining_request = refl
unnamed_plain joining_trigger = refl
unnamed_plain participating_trigger = refl

module _ (station : Station) (octets memory assembly : List ℕ) where
  gather_cases : (frame : Fields)
      → GatherCases station frame octets memory assembly (gathered station frame (data_of octets frame) assembly memory)
  gather_cases frame =
      by (same_areas frame.areas listed) refl (repeats? station frame octets assembly) refl (is_next station.gathering frame) refl
      (eqb frame.block frame.blocks) refl
    where
      listed : Areas
      listed = (entry_of station.members frame.source).areas

      stored : List ℕ
      stored = pasted assembly (start_of frame.block) (data_of octets frame)

      by : (areas : Bool) → same_areas frame.areas listed ≡ areas → (again : Bool) → repeats? station frame octets assembly ≡ again
          → (next : Bool) → is_next station.gathering frame ≡ next → (last : Bool) → eqb frame.block frame.blocks ≡ last
          → GatherCases station frame octets memory assembly
          (cond (not areas) (dropped assembly memory)
          (cond again (repeated station.gathering assembly memory)
          (cond next
          (cond last
          (record { gathering = nothing; assembly = stored; memory = turn_written listed stored memory; outcome = Written })
          (record { gathering = record { source = frame.source; blocks = frame.block }; assembly = stored; memory = memory; outcome = Kept }))
          (dropped assembly memory))))
      by true a true r next n last l = repeats a r
      by true a false r true n true l = writes a r n l
      by true a false r true n false l = keeps a r n l
      by true a false r false n last l = drops (rw (a, r))
      by false a again r next n last l = drops (rw a)

  from_member : (frame : Fields) → Accepts station octets memory assembly frame → station.phase ≡ Participating → is_cyclic frame.code ≡ true
      → FromMember station octets memory assembly frame
  from_member frame ok p c =
      let other : eqb frame.source station.own.number ≡ false = rw p at ok.untaken in
      let known : (knows station frame.source && (not (is_token frame.code) || knows station frame.destination)) ≡ true = not-false _ (rw (p, c) at ok.known) in
      record {
        accepts = ok;
        participates = p;
        cyclic = c;
        other = other;
        listed = rw other at (first (knows station frame.source) _ known);
        destination = implied (is_token frame.code) (knows station frame.destination) (second (knows station frame.source) _ known);
      }

  accepted_cases : (frame : Fields) → Accepts station octets memory assembly frame
      → HearCases station octets memory assembly (accepted station frame octets memory assembly)
  accepted_cases frame ok = by station.phase refl frame.code refl
    where
      by : (phase : Phase) → station.phase ≡ phase → (code : Code) → frame.code ≡ code
          → HearCases station octets memory assembly
          (cond (is_participating phase && is_cyclic code)
          (participant_heard station frame (gathered station frame (data_of octets frame) assembly memory))
          (record { station = enters phase code station frame; answer = enters_answer phase code; memory = memory; assembly = assembly }))
      by Off p code c = heeds frame ok (off p)
      by Listening p Token c = heeds frame ok (joins (rw p listening_awaits) c)
      by Listening p Cyclic c = heeds frame ok (passes (rw p listening_awaits) c)
      by Listening p Request c = heeds frame ok (ignores (rw (p, c) listening_request))
      by Listening p Trigger c = heeds frame ok (begins p c)
      by Startup p Token c = heeds frame ok (joins (rw p startup_awaits) c)
      by Startup p Cyclic c = heeds frame ok (passes (rw p startup_awaits) c)
      by Startup p Request c = heeds frame ok (lists (rw p startup_lists) c)
      by Startup p Trigger c = heeds frame ok (ignores (rw (p, c) startup_trigger))
      by Joining p Token c = heeds frame ok (reads p (rw c))
      by Joining p Cyclic c = heeds frame ok (reads p (rw c))
      by Joining p Request c = heeds frame ok (ignores (rw (p, c) joining_request))
      by Joining p Trigger c = heeds frame ok (ignores (rw (p, c) joining_trigger))
      by Participating p Token c = gathers frame (from_member frame ok p (rw c)) (gather_cases frame)
      by Participating p Cyclic c = gathers frame (from_member frame ok p (rw c)) (gather_cases frame)
      by Participating p Request c = heeds frame ok (lists (rw p participant_lists) c)
      by Participating p Trigger c = heeds frame ok (ignores (rw (p, c) participating_trigger))

  body_cases : (header : Fields) → lent_right memory assembly ≡ true → read_header_of octets ≡ Ok header → is_taken station header ≡ false
      → (read : Read) → read_body_of (length octets) header ≡ read → HearCases station octets memory assembly (body_heard station octets memory assembly read)
  body_cases header l h t (Err refusal) b = refuses refusal
  body_cases header l h t (Ok frame) b = by (is_stranger station frame) refl
    where
      same : header ≡ frame
      same = (bodied (length octets) header frame b).is_same

      by : (stranger : Bool) → is_stranger station frame ≡ stranger → HearCases station octets memory assembly
          (cond stranger (refused station memory assembly refusals.Stranger) (accepted station frame octets memory assembly))
      by true s = refuses refusals.Stranger
      by false s = accepted_cases frame (record {
        lent = l;
        header = h ∙ ap Ok same;
        body = ap (read_body_of (length octets)) (sym same) ∙ b;
        untaken = ap (is_taken station) (sym same) ∙ t;
        known = s;
      })

  header_cases : lent_right memory assembly ≡ true → (read : Read) → read_header_of octets ≡ read
      → HearCases station octets memory assembly (header_heard station octets memory assembly read)
  header_cases l (Err refusal) h = refuses refusal
  header_cases l (Ok header) h = by (is_taken station header) refl (is_participating station.phase) refl
    where
      by : (taken : Bool) → is_taken station header ≡ taken → (participating : Bool) → is_participating station.phase ≡ participating
          → HearCases station octets memory assembly
          (cond taken
          (refused (cond participating station (stopped station)) memory assembly refusals.Taken)
          (body_heard station octets memory assembly (read_body_of (length octets) header)))
      by true t true p = refuses refusals.Taken
      by true t false p = turns_off p
      by false t participating p = body_cases header l h t (read_body_of (length octets) header) refl

  pub hear_cases : HearCases station octets memory assembly (hear_of station octets memory assembly)
  hear_cases = by (lent_right memory assembly) refl
    where
      by : (right : Bool) → lent_right memory assembly ≡ right → HearCases station octets memory assembly
          (cond right (header_heard station octets memory assembly (read_header_of octets)) (refused station memory assembly refusals.Buffer))
      by true l = header_cases l (read_header_of octets) refl
      by false l = refuses refusals.Buffer

-- What holds of each of the ways in which a frame enters holds of what was entered. (A proof that goes by these ways cites this: the state that
-- is left is given to it as a variable.)
module _ {station : Station} {frame : Fields} where
  pub entering : (P : Station → Heard → Type 0) → (station.phase ≡ Off → P station answers.Off)
      → (station.phase ≡ Listening → frame.code ≡ Trigger → P (fresh Startup station.own) answers.Done)
      → (Awaits station.phase → frame.code ≡ Token → P (joined_by (fresh Joining station.own) frame) (answers.Cyclic (tokens.None Dropped)))
      → (Awaits station.phase → frame.code ≡ Cyclic → P station (answers.Cyclic (tokens.None Dropped)))
      → (station.phase ≡ Joining → is_cyclic frame.code ≡ true → P (joined_by station frame) (answers.Cyclic (tokens.None Dropped)))
      → (Lists station.phase → frame.code ≡ Request → P (requested station frame) answers.Done)
      → (Unnamed station.phase frame.code → P station answers.Done)
      → {left : Station} {answer : Heard} → EnterCases station frame left answer → P left answer
  entering P o b j p r l i (off e) = o e
  entering P o b j p r l i (begins e c) = b e c
  entering P o b j p r l i (joins e c) = j e c
  entering P o b j p r l i (passes e c) = p e c
  entering P o b j p r l i (reads e c) = r e c
  entering P o b j p r l i (lists e c) = l e c
  entering P o b j p r l i (ignores e) = i e
