-- Demand 1, with messages: "a numbered refusal changes no buffer, and no station state except in the one case that the table names". Assumes nothing.
use Rattle.std.specs.Prelude.{◌≡◌, ◌&&◌, ◌||◌, ◌∷◌}
use Rattle.laws.specs.Usual.{refl, sym, ap, ap₂, ◌∙◌, Bool, true, false, cond, not, List, [], ℕ, arith, length}
use Rattle.std.proofs.Math.Bool.{and-false}
use mathlib.Core.List.{head-eq_of_cons-eq, tail-eq_of_cons-eq}
use Rattle.frame.specs.declared.Refusal.{Refusal}
use Rattle.laws.specs.Tests.{first}
use Rattle.message.specs.declared.Letter.{Letter}
use Rattle.message_refusals.specs.Left.{SparedBoth, same, turned_off, LeftBoth}
use Rattle.message_rules.proofs.Letters.LetterAccepted.{judged_unrefused}
use Rattle.message_frames.specs.Frames.{letter_in}
use Rattle.message_rules.specs.Rules.Again.{turned}
use Rattle.message_rules.specs.Rules.Calls.{Both, Call, start, stop, tick, post, hear, ask, verdict, posted_verdict, received_verdict, is_done, takes, turns_off, Hearing, Asking, frame_heard, carried_by, frame_asked}
use Rattle.message_rules.specs.Rules.Confirming.{is_cyclic_answer, after_frame}
use Rattle.message_rules.specs.Rules.Posting.{Posting}
use Rattle.message_rules.specs.Rules.State.{Messages}
use Rattle.refusals.specs.Applies.{applies}
use Rattle.refusals.proofs.FirstFound.{refused_first}
use Rattle.station.specs.Outcomes.SwitchCases.{SwitchCases, refuses, does}
use Rattle.station.proofs.Outcomes.SwitchCases.{start_cases, stop_cases}
use Rattle.station.specs.Panel.History.{participates, taking_by, passed_by}
use Rattle.station.specs.Rules.State.{is_off, is_participating, holds}
use Rattle.station.specs.declared.Heard.{Heard}
use Rattle.station.specs.declared.Station.{Station}
use Rattle.message_rules.proofs.Outcomes as outcomes_told
use Rattle.station.proofs.Outcomes.AskCases as on_asking_told
use Rattle.station.proofs.RefusedLeft as base_left_told
use Rattle.message_rules.specs.Rules.Hearing as letters
use Rattle.message_rules.specs.Outcomes as outcomes
use Rattle.station.specs.Outcomes.AskCases as on_asking
use Rattle.station.specs.RefusedLeft as base_left
use Rattle.station.specs.Rules.Asking as asking
use Rattle.station.specs.Rules.Calls as base
use Rattle.station.specs.Rules.Hearing as hearing
use Rattle.station.specs.Rules.Starting as starting
use Rattle.station.specs.declared.Heard.TheVariants as heard

one_verdict : {refusal : Refusal} → base.unrefused ≡ base.refused_by refusal → ⊥
one_verdict e = let z : ◌≡◌ {A = ℕ} 0 1 = cc in omega arith

-- a call that leaves the ring part, and is no pass to ourselves, is no taking
untaken : (station : Station) (passed : Bool) → passed ≡ false
    → ((((participates station && participates station) && (holds station && not (holds station))) || passed)
    || ((not (participates station) && participates station) && holds station)) ≡ false
untaken station passed e = by (participates station) (holds station) passed e
  where
    by : (p h passed : Bool) → passed ≡ false → ((((p && p) && (h && not h)) || passed) || ((not p && p) && h)) ≡ false
    by true true passed e = rw e
    by true false passed e = rw e
    by false h passed e = rw e

-- a start or a stop
switch_left : {station left : Station} {Reason : Type 0} {result : starting.Switching} (messages begun : Messages) (refusal : Refusal)
    → SwitchCases station left Reason result → base.switched_verdict result.answer ≡ base.refused_by refusal
    → ◌≡◌ {A = Both} (record { ring = result.station; messages = cond (is_done result.answer) begun messages })
    (record { ring = station; messages = messages })
switch_left messages begun refusal (refuses other) e = refl
switch_left messages begun refusal (does reason) e = absurd (one_verdict e)

-- handing in a message
module _ {station : Station} {messages : Messages} {message : _} {octets mail : List ℕ} where
  post_left : {result : Posting} (refusal : Refusal) → outcomes.PostCases station messages message octets mail result
      → posted_verdict result.answer ≡ base.refused_by refusal → (result.messages ≡ messages) × (result.mail ≡ mail)
  post_left refusal (outcomes.refuses other) e = (refl, refl)
  post_left refusal (outcomes.off out) e = absurd (one_verdict e)
  post_left refusal (outcomes.waits right sendable free on) e = absurd (one_verdict e)

-- hearing a message
letter_left : (both : Both) {given : ℕ} {letter : Letter} {result : letters.Hearing} (refusal : Refusal)
    → outcomes.LetterCases both.ring both.messages given letter result → received_verdict result.answer ≡ base.refused_by refusal
    → SparedBoth both (record { ring = result.station; messages = result.messages }) refusal
letter_left both refusal (outcomes.refuses other) e = same refl
letter_left both refusal (outcomes.turns_off address six out) e = turned_off (cc) out refl
letter_left both refusal (outcomes.off out) e = absurd (one_verdict e)
letter_left both refusal (outcomes.passes accepts others) e = absurd (one_verdict e)
letter_left both refusal (outcomes.holds accepts ours ninth) e = absurd (one_verdict e)
letter_left both {letter = letter} refusal (outcomes.takes accepts ours room) e =
    absurd (one_verdict (sym (judged_unrefused (letters.judgement_of both.messages letter) letter) ∙ e))

-- a frame of the base
no_cyclic : (answer : Heard) (refusal : Refusal) → base.heard_verdict answer ≡ base.refused_by refusal → is_cyclic_answer answer ≡ false
no_cyclic heard.Off refusal e = refl
no_cyclic heard.Done refusal e = refl
no_cyclic (heard.Cyclic token) refusal e = absurd (one_verdict e)
no_cyclic (heard.Refused other) refusal e = refl

never_both : (out : Bool) → (not out && out) ≡ false
never_both true = refl
never_both false = refl

module _ (both : Both) (octets memory assembly : List ℕ) (refusal : Refusal)
    (e : base.verdict both.ring (base.hear octets memory assembly) ≡ base.refused_by refusal) where
  abbrev heard_by : hearing.Hearing
  heard_by = hearing.hear_of both.ring octets memory assembly

  abbrev left_by : Both
  left_by = (frame_heard both octets heard_by (takes both.ring (base.hear octets memory assembly))).both

  -- the confirmation of a refused frame is not read
  unread : after_frame both.ring both.messages octets heard_by.answer ≡ both.messages
  unread =
      let no = no_cyclic heard_by.answer refusal e in
      rw (no, and-false (is_participating both.ring.phase))

  frame_kept : heard_by.station ≡ both.ring → left_by ≡ both
  frame_kept p =
      let stays : turns_off both.ring heard_by.station ≡ false =
      ap (turns_off both.ring) p ∙ never_both (is_off both.ring.phase) in
      let no : takes both.ring (base.hear octets memory assembly) ≡ false =
      ap (λ (left : Station). taking_by both.ring false left) p ∙ untaken both.ring false refl in
      ap₂ (λ (r : Station) (m : Messages). record { ring = r; messages = m }) p
      (rw (stays, no) unread)

  frame_left : base_left.Spared both.ring heard_by.station refusal → SparedBoth both left_by refusal
  frame_left (base_left.same p) = same (frame_kept p)
  frame_left (base_left.turned_off six out p) =
      let on = first (not (is_off both.ring.phase)) _
      (ap (λ (r : Refusal). applies r both.ring (base.hear octets memory assembly)) (sym six)
      ∙ (refused_first both.ring (base.hear octets memory assembly) refusal e).itself) in
      let off : turns_off both.ring heard_by.station ≡ true = ap (turns_off both.ring) p ∙ rw on in
      turned_off six out (ap₂ (λ (r : Station) (m : Messages). record { ring = r; messages = m }) p (rw off))

-- hearing either
hear_left : (both : Both) (octets memory assembly : List ℕ) (refusal : Refusal) {result : Hearing} → outcomes.HearCases both octets memory assembly result
    → received_verdict result.answer ≡ base.refused_by refusal
    → SparedBoth both result.both refusal × (result.memory ≡ memory) × (result.assembly ≡ assembly)
hear_left both octets memory assembly refusal (outcomes.letter is) e =
    (letter_left both refusal (outcomes_told.letter_cases both.ring both.messages (length octets) (letter_in octets)) e, refl, refl)
hear_left both octets memory assembly refusal (outcomes.frame is) e =
    let left = base_left_told.refused_left both.ring (base.hear octets memory assembly) refusal e in (
      frame_left both octets memory assembly refusal e left.state,
      head-eq_of_cons-eq (tail-eq_of_cons-eq left.buffers),
      head-eq_of_cons-eq (tail-eq_of_cons-eq (tail-eq_of_cons-eq left.buffers)),
    )

-- asking for a frame of the base
module _ (both : Both) (memory turn output : List ℕ) where
  abbrev asked_by : asking.Asking → Asking
  asked_by result =
      frame_asked both result (carried_by both result.answer result.output)
      (taking_by both.ring (passed_by both.ring result.answer) result.station)

  block_left : {result : asking.Asking} (refusal : Refusal) → on_asking.AskCases both.ring memory turn output result
      → base.asked_verdict (asked_by result).answer ≡ base.refused_by refusal
      → ((asked_by result).both ≡ both) × ((asked_by result).turn ≡ turn) × ((asked_by result).output ≡ output)
  block_left refusal (on_asking.refuses other) e = (
    ap (λ (taking : Bool). record { ring = both.ring; messages = turned taking both.messages }) (untaken both.ring false refl),
    refl,
    refl,
  )
  block_left refusal (on_asking.sends right is sent) e = absurd (one_verdict e)

  ask_left : {mail : List ℕ} {result : Asking} (refusal : Refusal) → outcomes.AskCases both memory turn output mail result
      → base.asked_verdict result.answer ≡ base.refused_by refusal
      → (result.both ≡ both) × (result.turn ≡ turn) × (result.output ≡ output)
  ask_left refusal (outcomes.refuses wrong) e = (refl, refl, refl)
  ask_left refusal (outcomes.sends right lent_right now) e = absurd (one_verdict e)
  ask_left refusal (outcomes.blocks right other) e = block_left refusal (on_asking_told.ask_cases both.ring memory turn output) e

-- Every call that is refused leaves both parts and every lent buffer as they were, but that number 6 before we participate leaves just what stop leaves,
-- nothing of messages included.
pub refused_left_both : (both : Both) (call : Call) (refusal : Refusal) → verdict both call ≡ base.refused_by refusal → LeftBoth both call refusal
refused_left_both both (start settings allowance) refusal e =
    record { state = same (switch_left both.messages _ refusal (start_cases both.ring settings) e); buffers = refl }
refused_left_both both stop refusal e = record { state = same (switch_left both.messages _ refusal (stop_cases both.ring) e); buffers = refl }
refused_left_both both tick refusal e = absurd (one_verdict e)
refused_left_both both (post message octets mail) refusal e =
    let kept = post_left refusal (outcomes_told.post_cases both.ring both.messages message octets mail) e in
    record {
      state = same (ap (λ (m : Messages). record { ring = both.ring; messages = m }) kept.0);
      buffers = ap (λ (b : List ℕ). octets ∷ b ∷ []) kept.1;
    }
refused_left_both both (hear octets memory assembly) refusal e =
    let kept = hear_left both octets memory assembly refusal (outcomes_told.hear_cases both octets memory assembly) e in
    record { state = kept.0; buffers = ap₂ (λ (m a : List ℕ). octets ∷ m ∷ a ∷ []) kept.1 kept.2 }
refused_left_both both (ask memory turn output mail) refusal e =
    let kept = ask_left both memory turn output refusal (outcomes_told.ask_cases both memory turn output mail) e in
    record { state = same kept.0; buffers = ap₂ (λ (t o : List ℕ). memory ∷ t ∷ o ∷ mail ∷ []) kept.1 kept.2 }
