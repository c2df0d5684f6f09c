-- What is handed over will be confirmed: a message that is handed over is owed its confirmation from then until a token frame of ours carries it, or
-- the station is turned off. Assumes nothing.
use Rattle.laws.specs.Usual.{[], refl, sym, ap, ◌∙◌, Bool, true, false, cond, not, false≢true, List, ℕ, arith, length, take, eqb, leb}
use Rattle.std.specs.Prelude.{Ok, Err, ◌≡◌, ◌&&◌, ◌∷◌, ◌++◌, ◌+◌, ◌≤◌, ◌⊎◌}
use Rattle.std.proofs.Common.{inl, inr, eq-eqb, eqb-true}
use Rattle.block.specs.Blocks.{blocks_of}
use Rattle.frame.specs.Codes.{is_cyclic}
use Rattle.frame.specs.Octets.{octet_at}
use Rattle.frame.specs.Positions.{SNA}
use Rattle.frame.specs.declared.Code.TheVariants.{Token, Cyclic}
use Rattle.frame.specs.declared.Fields.{Fields}
use Rattle.frame_writing.specs.Writing.{whole_length}
use Rattle.laws.specs.Tests.{both, first, second}
use Rattle.message.specs.Codes.{to_all}
use Rattle.message.specs.declared.Confirmation.{Confirmation}
use Rattle.message.specs.declared.Judged.{Judged}
use Rattle.message.specs.declared.Judged.TheVariants.{New}
use Rattle.message.specs.declared.Letter.{Letter}
use Rattle.message.specs.declared.Message.{Message}
use Rattle.message_rules.proofs.Carried.CarriedRead.{Plain, plain_of, plain_size}
use Rattle.message_rules.specs.Ring.Reached.{Reachable}
use Rattle.message_rules.proofs.Ring.Reached.{ring_reached}
use Rattle.message_rules.proofs.Carried.Wrote.{put_in}
use Rattle.message_frames.proofs.Carrying.{confirmation_read, confirmation_seen}
use Rattle.message_frames.specs.Confirmations.{confirms, confirmation_in}
use Rattle.message_frames.specs.Frames.{letter_in}
use Rattle.message_frames.specs.Places.{confirmation_length}
use Rattle.message_rules.specs.Receiving.Once.{kind_of, HandsOver, hands}
use Rattle.message_rules.proofs.Receiving.Once.{handed_new, judged_left}
use Rattle.message_rules.specs.Outcomes.{LetterCases, HearCases, PostCases, AskCases, refuses, sends, blocks}
use Rattle.message_rules.proofs.Outcomes.{letter_cases, hear_cases, post_cases, ask_cases}
use Rattle.message_rules.specs.Rules.Calls.{Both, Call, start, stop, tick, post, hear, ask, after, is_done, takes, turns_off, Hearing, ask_of, Asking, carried_by, answer_by, block_asked}
use Rattle.message_rules.specs.Rules.Posting.{Posting}
use Rattle.message_rules.specs.Rules.Again.{turned, slot_answered}
use Rattle.message_rules.specs.Rules.State.{Messages, no_messages, begun, with_slot}
use Rattle.message_rules.specs.Rules.Confirming.{Carried, same_confirmation, is_owed, owing, with_confirmation, carried_in, speaks_of, is_cyclic_answer, after_frame}
use Rattle.station.proofs.Frames.FrameAccepted.{frame_asked}
use Rattle.station.specs.Outcomes.SwitchCases.{SwitchCases}
use Rattle.station.specs.Rules.State.{is_off, is_participating}
use Rattle.station.specs.Types.{Asked}
use Rattle.station.specs.declared.Heard.{Heard}
use Rattle.station.specs.declared.Phase.{Phase}
use Rattle.station.specs.declared.Phase.TheVariants.{Off, Listening, Startup, Joining, Participating}
use Rattle.station.specs.declared.Station.{Station}
use Rattle.station.proofs.Outcomes.AskCases as on_asking_told
use Rattle.station.proofs.Outcomes.SwitchCases as on_switching_told
use Rattle.message_rules.specs.Outcomes as outcomes
use Rattle.message_rules.specs.Rules.Hearing as letters
use Rattle.station.specs.Outcomes.AskCases as on_asking
use Rattle.station.specs.Rules.Asking as asking
use Rattle.station.specs.Outcomes.SwitchCases as on_switching
use Rattle.station.specs.Rules.Calls as base
use Rattle.station.specs.Rules.Hearing as hearing
use Rattle.station.specs.Rules.Starting as starting
use Rattle.station.specs.States.Reachable as states

-- an asking writes a frame that carries this confirmation
pub data Carries (both : Both) : Call → Confirmation → Type 0 where
  carries : (memory turn output mail : List ℕ) (count : ℕ) (confirmation : Confirmation) → (ask_of both memory turn output mail).answer ≡ Ok count
      → confirms (take count (ask_of both memory turn output mail).output) ≡ true
      → confirmation_in (take count (ask_of both memory turn output mail).output) ≡ confirmation
      → Carries both (ask memory turn output mail) confirmation

-- what becomes of a confirmation that is owed
pub data StillOwed (both : Both) (call : Call) (confirmation : Confirmation) : Type 0 where
  owed : is_owed confirmation (after both call).messages.owed ≡ true → StillOwed both call confirmation
  carried : Carries both call confirmation → StillOwed both call confirmation
  switched : is_off (after both call).ring.phase ≡ not (is_off both.ring.phase) → StillOwed both call confirmation

-- a confirmation is the same as itself, and as no other
same_self : (c : Confirmation) → same_confirmation c c ≡ true
same_self c = rw (eq-eqb c.status c.status refl, eq-eqb c.source c.source refl, eq-eqb c.code c.code refl, eq-eqb c.version c.version refl, eq-eqb c.number c.number refl)

made : (status source code version number : ℕ) → Confirmation
made status source code version number = record { status = status; source = source; code = code; version = version; number = number }

same_is : (a b : Confirmation) → same_confirmation a b ≡ true → b ≡ a
unfolding made
same_is a b e =
    let one = first (eqb a.status b.status && eqb a.source b.source) _ e in
    let two = second (eqb a.status b.status && eqb a.source b.source) _ e in
    let three = second (eqb a.code b.code) _ two in
    ap (λ (x : ℕ). made x b.source b.code b.version b.number) (sym (eqb-true _ _ (first (eqb a.status b.status) _ one)))
    ∙ ap (λ (x : ℕ). made a.status x b.code b.version b.number) (sym (eqb-true _ _ (second (eqb a.status b.status) _ one)))
    ∙ ap (λ (x : ℕ). made a.status a.source x b.version b.number) (sym (eqb-true _ _ (first (eqb a.code b.code) _ two)))
    ∙ ap (λ (x : ℕ). made a.status a.source a.code x b.number) (sym (eqb-true _ _ (first (eqb a.version b.version) _ three)))
    ∙ ap (λ (x : ℕ). made a.status a.source a.code a.version x) (sym (eqb-true _ _ (second (eqb a.version b.version) _ three)))

-- owed with more behind it
owed_more : (c : Confirmation) (list more : List Confirmation) → is_owed c list ≡ true → is_owed c (list ++ more) ≡ true
owed_more c [] more e = absurd (false≢true e)
owed_more c (other ∷ rest) more e = by (same_confirmation c other) e (owed_more c rest more)
  where
    by : (same : Bool) → cond same true (is_owed c rest) ≡ true → (is_owed c rest ≡ true → is_owed c (rest ++ more) ≡ true)
        → cond same true (is_owed c (rest ++ more)) ≡ true
    by true e more_is = refl
    by false e more_is = more_is e

owed_end : (c : Confirmation) (list : List Confirmation) → is_owed c (list ++ (c ∷ [])) ≡ true
owed_end c [] = ap (λ (t : Bool). cond t true false) (same_self c)
owed_end c (other ∷ rest) = by (same_confirmation c other) (owed_end c rest)
  where
    by : (same : Bool) → is_owed c (rest ++ (c ∷ [])) ≡ true → cond same true (is_owed c (rest ++ (c ∷ []))) ≡ true
    by true e = refl
    by false e = e

pub owing_it : (c : Confirmation) (list : List Confirmation) → is_owed c (owing c list) ≡ true
owing_it c list = by (is_owed c list) refl
  where
    by : (already : Bool) → is_owed c list ≡ already → is_owed c (cond already list (list ++ (c ∷ []))) ≡ true
    by true e = e
    by false e = owed_end c list

pub owing_other : (c other : Confirmation) (list : List Confirmation) → is_owed c list ≡ true → is_owed c (owing other list) ≡ true
owing_other c other list e = by (is_owed other list)
  where
    by : (already : Bool) → is_owed c (cond already list (list ++ (other ∷ []))) ≡ true
    by true = e
    by false = owed_more c list (other ∷ []) e

-- a participant's frame, in a state that calls can leave: a header of 64 octets, its block behind it, and as long as the answer says
module _ (station : Station) (reached : states.Reachable station) (inside : station.phase ≡ Participating) (memory turn output : List ℕ) (count : ℕ)
    (answer : (asking.ask_of station memory turn output).answer ≡ Ok count) where
  abbrev written : List ℕ
  written = take count (asking.ask_of station memory turn output).output

  abbrev fields : Fields
  fields = asking.due_fields station.phase station

  cyclic_is : is_cyclic fields.code ≡ true
  cyclic_is = rw inside (by (eqb (asking.next_block station) (blocks_of station.own.areas)))
    where
      by : (last : Bool) → is_cyclic (cond last Token Cyclic) ≡ true
      by true = refl
      by false = refl

  long_is : fields.length ≡ 64 + fields.size
  long_is = rw inside

  plain_written : Plain written fields
  plain_written = plain_of written fields (frame_asked station reached memory turn output count answer) cyclic_is long_is

  count_is : count ≡ whole_length fields
  count_is = by (on_asking_told.ask_cases station memory turn output) answer
    where
      by : {result : asking.Asking} → on_asking.AskCases station memory turn output result → result.answer ≡ Ok count → count ≡ whole_length fields
      by (on_asking.refuses refusal) e = let z : ◌≡◌ {A = ℕ} 0 1 = cc in absurd (omega arith)
      by (on_asking.sends {fields = found} lent is sent) e = let same : whole_length found ≡ count = cc in sym same ∙ ap whole_length (sym is)

  length_written : length written ≡ count
  length_written =
      sym plain_written.header
      ∙ sym (ap (λ (t : Bool). 64 + cond t fields.size 0) cyclic_is)
      ∙ sym count_is

  -- with a confirmation put in, it is seen and reads back
  carried_back : (confirmation : Confirmation)
      → (confirms (take (count + confirmation_length) (with_confirmation confirmation [] count (asking.ask_of station memory turn output).output).output) ≡ true)
      × (confirmation_in (take (count + confirmation_length) (with_confirmation confirmation [] count (asking.ask_of station memory turn output).output).output)
      ≡ confirmation)
  carried_back confirmation =
      let header = plain_written.header in
      let long = length_written in
      let least : 64 ≤ length written = omega arith in
      let is = put_in count (asking.ask_of station memory turn output).output length_written (omega arith) confirmation in (
        ap confirms is ∙ confirmation_seen confirmation written least (plain_size plain_written),
        ap confirmation_in is ∙ confirmation_read confirmation written least,
      )

-- a phase that is participating
inside_of : (phase : Phase) → is_participating phase ≡ true → phase ≡ Participating
inside_of Off e = absurd (false≢true e)
inside_of Listening e = absurd (false≢true e)
inside_of Startup e = absurd (false≢true e)
inside_of Joining e = absurd (false≢true e)
inside_of Participating e = refl

pub turned_owes : (taking : Bool) (messages : Messages) → (turned taking messages).owed ≡ messages.owed
turned_owes true messages = refl
turned_owes false messages = refl

-- an asking in which no message goes
module _ {sender : Both} (reached : Reachable sender) (memory turn output : List ℕ) (confirmation : Confirmation)
    (is_owed_lem : is_owed confirmation sender.messages.owed ≡ true) where
  abbrev base_asked : asking.Asking
  base_asked = asking.ask_of sender.ring memory turn output

  -- what the asking leaves owed, or what it writes
  abbrev Kept : Asked → Type 0
  Kept answer =
      (is_owed confirmation (carried_by sender answer base_asked.output).owed ≡ true)
      ⊎ ((count : ℕ) × (answer_by answer (carried_by sender answer base_asked.output) ≡ Ok count)
      × (confirms (take count (carried_by sender answer base_asked.output).output) ≡ true)
      × (confirmation_in (take count (carried_by sender answer base_asked.output).output) ≡ confirmation))

  carried_owes : (answer : Asked) → base_asked.answer ≡ answer → Kept answer
  carried_owes (Err refusal) e = inl is_owed_lem
  carried_owes (Ok count) e = by (is_participating sender.ring.phase) refl (asking.is_last sender.ring) sender.messages.owed is_owed_lem
    where
      none : List Confirmation → Carried
      none list = record { owed = list; count = count; output = base_asked.output }

      of : Carried → Type 0
      of result =
          (is_owed confirmation result.owed ≡ true)
          ⊎ ((n : ℕ) × (◌≡◌ {A = Asked} (Ok result.count) (Ok n))
          × (confirms (take n result.output) ≡ true) × (confirmation_in (take n result.output) ≡ confirmation))

      put : is_participating sender.ring.phase ≡ true → (oldest : Confirmation) (rest : List Confirmation) → is_owed confirmation (oldest ∷ rest) ≡ true
          → (same : Bool) → same_confirmation confirmation oldest ≡ same → cond same true (is_owed confirmation rest) ≡ true
          → of (with_confirmation oldest rest count base_asked.output)
      put inside oldest rest o true same s =
          let back = carried_back sender.ring (ring_reached reached) (inside_of sender.ring.phase inside) memory turn output count e oldest in
          inr (count + confirmation_length, refl, back.0, back.1 ∙ same_is confirmation oldest same)
      put inside oldest rest o false same s = inl s

      by : (inside : Bool) → is_participating sender.ring.phase ≡ inside → (last : Bool) (list : List Confirmation) → is_owed confirmation list ≡ true
          → of (cond (inside && last) (carried_in list count base_asked.output) (none list))
      by false i last list o = inl o
      by true i false list o = inl o
      by true i true [] o = inl o
      by true i true (oldest ∷ rest) o = fits (leb (count + confirmation_length) (length base_asked.output))
        where
          fits : (room : Bool) → of (cond room (with_confirmation oldest rest count base_asked.output) (none (oldest ∷ rest)))
          fits true = put i oldest rest o (same_confirmation confirmation oldest) refl o
          fits false = inl o

  -- one that is no refusal of 11: it is still owed, or the frame that is written carries it
  block_owes : {mail : List ℕ} → ask_of sender memory turn output mail ≡ block_asked sender memory turn output
      → after sender (ask memory turn output mail) ≡ (block_asked sender memory turn output).both → StillOwed sender (ask memory turn output mail) confirmation
  block_owes {mail} is left = by (carried_owes base_asked.answer refl)
    where
      by : Kept base_asked.answer → StillOwed sender (ask memory turn output mail) confirmation
      by (inl e) =
          owed (ap (λ (b : Both). is_owed confirmation b.messages.owed) left
          ∙ ap (is_owed confirmation) (turned_owes (takes sender.ring (base.ask memory turn output)) _) ∙ e)
      by (inr (count, answer, seen, back)) =
          carried (carries memory turn output mail count confirmation (ap (λ (a : Asking). a.answer) is ∙ answer)
          (ap (λ (a : Asking). confirms (take count a.output)) is ∙ seen) (ap (λ (a : Asking). confirmation_in (take count a.output)) is ∙ back))

ask_owes : {sender : Both} → Reachable sender → (memory turn output mail : List ℕ) (confirmation : Confirmation) {result : Asking}
    → AskCases sender memory turn output mail result → ask_of sender memory turn output mail ≡ result
    → is_owed confirmation sender.messages.owed ≡ true → StillOwed sender (ask memory turn output mail) confirmation
ask_owes reached memory turn output mail confirmation (refuses wrong) is e = owed (ap (λ (a : Asking). is_owed confirmation a.both.messages.owed) is ∙ e)
ask_owes reached memory turn output mail confirmation (sends right lent now) is e = owed (ap (λ (a : Asking). is_owed confirmation a.both.messages.owed) is ∙ e)
ask_owes reached memory turn output mail confirmation (blocks right other) is e =
    block_owes reached memory turn output confirmation e is (ap (λ (a : Asking). a.both) is)

-- the other calls leave it, or turn the station on or off
switch_owes : (both : Both) (call : Call) (confirmation : Confirmation) {left : Station} {Reason : Type 0} (fresh : Messages) {result : starting.Switching}
    → SwitchCases both.ring left Reason result → (Reason → is_off left.phase ≡ not (is_off both.ring.phase))
    → after both call ≡ record { ring = result.station; messages = cond (is_done result.answer) fresh both.messages }
    → is_owed confirmation both.messages.owed ≡ true → StillOwed both call confirmation
switch_owes both call confirmation fresh (on_switching.refuses refusal) turns is e = owed (ap (λ (b : Both). is_owed confirmation b.messages.owed) is ∙ e)
switch_owes both call confirmation fresh (on_switching.does reason) turns is e = switched (ap (λ (b : Both). is_off b.ring.phase) is ∙ turns reason)

pub post_owes : {station : Station} {messages : Messages} {message : Message} {octets mail : List ℕ} {result : Posting}
    → PostCases station messages message octets mail result → result.messages.owed ≡ messages.owed
post_owes (outcomes.refuses refusal) = refl
post_owes (outcomes.off out) = refl
post_owes (outcomes.waits right sendable free on) = refl

pub frame_owes : (station : Station) (messages : Messages) (octets : List ℕ) (answer : Heard) → (after_frame station messages octets answer).owed ≡ messages.owed
frame_owes station messages octets answer =
    by (is_participating station.phase && (is_cyclic_answer answer && confirms octets))
    (speaks_of station.own.number messages (octet_at octets SNA) (confirmation_in octets))
  where
    by : (read told : Bool) → (cond read (cond told (with_slot messages (slot_answered messages.slot (confirmation_in octets).status)) messages) messages).owed
        ≡ messages.owed
    by true true = refl
    by true false = refl
    by false told = refl

-- a message that is heard
letter_owes : (both : Both) (call : Call) (confirmation : Confirmation) {given : ℕ} {letter : Letter} {result : letters.Hearing}
    → LetterCases both.ring both.messages given letter result → after both call ≡ record { ring = result.station; messages = result.messages }
    → is_owed confirmation both.messages.owed ≡ true → StillOwed both call confirmation
letter_owes both call confirmation {letter = letter} cases is e = by cases is
  where
    left : {result : Both} → after both call ≡ result → is_owed confirmation result.messages.owed ≡ true → StillOwed both call confirmation
    left is o = owed (ap (λ (b : Both). is_owed confirmation b.messages.owed) is ∙ o)

    more : (all : Bool) (other : Confirmation) → is_owed confirmation (cond all both.messages.owed (owing other both.messages.owed)) ≡ true
    more true other = e
    more false other = owing_other confirmation other both.messages.owed e

    by : {given : ℕ} {result : letters.Hearing} → LetterCases both.ring both.messages given letter result
        → after both call ≡ record { ring = result.station; messages = result.messages } → StillOwed both call confirmation
    by (outcomes.refuses refusal) is = left is e
    by (outcomes.turns_off address six out) is =
        switched (ap (λ (b : Both). is_off b.ring.phase) is ∙ sym (first (not (is_off both.ring.phase)) _ six))
    by (outcomes.off out) is = left is e
    by (outcomes.passes accepts others) is = left is e
    by (outcomes.holds accepts ours ninth) is = left is e
    by (outcomes.takes accepts ours room) is =
        left is (more (to_all letter.message.destination) (letters.confirmation_of (letters.judgement_of both.messages letter) letter))

hear_owes : (both : Both) (octets memory assembly : List ℕ) (confirmation : Confirmation) {result : Hearing} → HearCases both octets memory assembly result
    → after both (hear octets memory assembly) ≡ result.both → is_owed confirmation both.messages.owed ≡ true
    → StillOwed both (hear octets memory assembly) confirmation
hear_owes both octets memory assembly confirmation (outcomes.letter letter) is e =
    letter_owes both (hear octets memory assembly) confirmation (letter_cases both.ring both.messages (length octets) (letter_in octets)) is e
hear_owes both octets memory assembly confirmation (outcomes.frame frame) is e = by (turns_off both.ring left.station) refl is
  where
    left : hearing.Hearing
    left = hearing.hear_of both.ring octets memory assembly

    taking : Bool
    taking = takes both.ring (base.hear octets memory assembly)

    by : (off : Bool) → turns_off both.ring left.station ≡ off → after both (hear octets memory assembly) ≡ record {
      ring = left.station;
      messages = cond off no_messages (turned taking (after_frame both.ring both.messages octets left.answer));
    } → StillOwed both (hear octets memory assembly) confirmation
    by true o is =
        switched (ap (λ (b : Both). is_off b.ring.phase) is ∙ second (not (is_off both.ring.phase)) _ o ∙ sym (first (not (is_off both.ring.phase)) _ o))
    by false o is =
        owed (ap (λ (b : Both). is_owed confirmation b.messages.owed) is
        ∙ ap (is_owed confirmation) (turned_owes taking (after_frame both.ring both.messages octets left.answer)
        ∙ frame_owes both.ring both.messages octets left.answer) ∙ e)

-- Every call, in every state that calls can leave: what is owed stays owed, or a frame of ours carries it, or the station is turned off.
pub still_owed : {both : Both} → Reachable both → (call : Call) (confirmation : Confirmation) → is_owed confirmation both.messages.owed ≡ true
    → StillOwed both call confirmation
still_owed {both} reached (start settings allowance) confirmation e =
    switch_owes both (start settings allowance) confirmation (begun allowance) (on_switching_told.start_cases both.ring settings)
    (λ reason. sym (ap (λ p. not (is_off p)) reason.off)) refl e
still_owed {both} reached stop confirmation e =
    switch_owes both stop confirmation no_messages (on_switching_told.stop_cases both.ring) (λ on. sym (ap not on)) refl e
still_owed {both} reached tick confirmation e =
    owed (ap (is_owed confirmation) (turned_owes (takes both.ring base.tick) _) ∙ e)
still_owed {both} reached (post message octets mail) confirmation e =
    owed (ap (is_owed confirmation) (post_owes (post_cases both.ring both.messages message octets mail)) ∙ e)
still_owed {both} reached (hear octets memory assembly) confirmation e =
    hear_owes both octets memory assembly confirmation (hear_cases both octets memory assembly) refl e
still_owed {both} reached (ask memory turn output mail) confirmation e =
    ask_owes reached memory turn output mail confirmation (ask_cases both memory turn output mail) refl e

-- And a message for us alone that is handed over is owed its confirmation, with status 1.
pub handed_owed : {both : Both} {call : Call} {letter : Letter} → HandsOver both call letter → kind_of letter ≡ false
    → is_owed (letters.confirmation_of New letter) (after both call).messages.owed ≡ true
handed_owed {both} (hands octets memory assembly is e) single =
    let found = handed_new both octets memory assembly is e in
    ap (λ (m : Messages). is_owed (letters.confirmation_of New (letter_in octets)) m.owed) (judged_left found.0)
    ∙ ap (λ (all : Bool). is_owed (letters.confirmation_of New (letter_in octets)) (cond all both.messages.owed
    (owing (letters.confirmation_of (letters.judgement_of both.messages (letter_in octets)) (letter_in octets)) both.messages.owed))) single
    ∙ ap (λ (d : Judged). is_owed (letters.confirmation_of New (letter_in octets)) (owing (letters.confirmation_of d (letter_in octets)) both.messages.owed)) found.1
    ∙ owing_it (letters.confirmation_of New (letter_in octets)) both.messages.owed
