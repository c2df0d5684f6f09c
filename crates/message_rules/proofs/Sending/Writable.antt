-- What could not be sent is never there to go: in every state that calls can leave, an open message has a message code and at most 1024 octets. Assumes nothing.
use Rattle.std.specs.Prelude.{◌≡◌}
use Rattle.laws.specs.Usual.{refl, sym, ap, ◌∙◌, Bool, true, false, false≢true, List, ℕ, length, leb}
use Rattle.laws.specs.Tests.{both, first, second}
use Rattle.message.specs.Codes.{is_message}
use Rattle.message.specs.declared.Mail.{Mail}
use Rattle.message.specs.declared.Mail.TheVariants.{Nothing, Confirmed, Failed}
use Rattle.message.specs.declared.Message.{Message}
use Rattle.message.specs.declared.Slot.{Slot}
use Rattle.message_rules.proofs.Outcomes as outcomes_told
use Rattle.message_rules.specs.Ring.Reached.{Reachable, unstarted, called}
use Rattle.message_rules.specs.Rules.Again.{is_open, is_to_go, slot_gone}
use Rattle.message_rules.specs.Rules.Calls.{Both, Call, start, stop, tick, post, hear, ask, after}
use Rattle.message_rules.specs.Rules.Cycle.{is_writable, goes}
use Rattle.message_rules.specs.Rules.Posting.{Posting}
use Rattle.message_rules.specs.Rules.State.{Messages}
use Rattle.message_rules.proofs.Sending.Moves.{mail_moves, MailMoves, ends, handed_in, went, forgotten}
use Rattle.station.specs.declared.Station.{Station}
use Rattle.message_rules.proofs.Sending.Slots.{Ends, kept, failed, confirmed, SameMessage}
use Rattle.message_rules.specs.Sending.Writable.{Writable, hands_in}
use Rattle.message_rules.specs.Outcomes as outcomes

-- a message that is done is not open
closed : (slot : Slot) (mail : Mail) → slot.mail ≡ mail → is_open mail ≡ false → Writable slot
closed slot mail e done is_open_lem = absurd (false≢true (sym done ∙ sym (ap is_open e) ∙ is_open_lem))

-- the same message is as writable
same_writable : {before left : Slot} → SameMessage before left → is_writable left ≡ is_writable before
same_writable same = rw (same.octets, same.message)

ends_writable : {confirming : Bool} {before left : Slot} → Ends confirming before left → Writable before → Writable left
ends_writable (kept mail sure same) writable = λ is_open_lem. same_writable same ∙ writable (sym (ap is_open mail) ∙ is_open_lem)
ends_writable {left = left} (failed u m three same) writable = closed left Failed m refl
ends_writable {left = left} (confirmed u m c same) writable = closed left Confirmed m refl

-- what is handed in is what 12 lets through
post_writable : {both_parts : Both} {message : Message} {octets mail : List ℕ} {result : Posting}
    → outcomes.PostCases both_parts.ring both_parts.messages message octets mail result
    → Writable both_parts.messages.slot → Writable result.messages.slot
post_writable (outcomes.refuses refusal) writable = writable
post_writable (outcomes.off out) writable = writable
post_writable {message = message} {octets} (outcomes.waits right sendable free on) writable = λ is_open_lem.
    both (first (leb (length octets) 1024) _ sendable) (first (is_message message.code) _ (second (leb (length octets) 1024) _ sendable))

-- a message that goes is the one that was there to go
gone_writable : (station : Station) (messages : Messages) → goes station messages ≡ true → is_writable (slot_gone messages) ≡ true
gone_writable station messages now = second (is_to_go messages.slot) _ (outcomes_told.goes_ready station messages now)

-- every call but handing in
moved_writable : {before left : Both} {call : Call} → MailMoves before call left → hands_in call ≡ false → Writable before.messages.slot
    → Writable left.messages.slot
moved_writable (ends confirming said e) other writable = ends_writable e writable
moved_writable (handed_in message octets mail free e) other writable = absurd (false≢true (sym other))
moved_writable {before} (went memory turn output mail now e) other writable = λ is_open_lem.
    ap is_writable e ∙ gone_writable before.ring before.messages now
moved_writable {left = left} (forgotten e turns) other writable = closed left.messages.slot Nothing (ap (λ (s : Slot). s.mail) e) refl

writable_after : (before : Both) (call : Call) → Writable before.messages.slot → Writable (after before call).messages.slot
writable_after before (start settings allowance) writable = moved_writable (mail_moves before (start settings allowance)) refl writable
writable_after before stop writable = moved_writable (mail_moves before stop) refl writable
writable_after before tick writable = moved_writable (mail_moves before tick) refl writable
writable_after before (post message octets mail) writable =
    post_writable (outcomes_told.post_cases before.ring before.messages message octets mail) writable
writable_after before (hear octets memory assembly) writable = moved_writable (mail_moves before (hear octets memory assembly)) refl writable
writable_after before (ask memory turn output mail) writable = moved_writable (mail_moves before (ask memory turn output mail)) refl writable

pub always_writable : {now : Both} → Reachable now → is_open now.messages.slot.mail ≡ true → is_writable now.messages.slot ≡ true
always_writable unstarted is_open_lem = absurd (false≢true is_open_lem)
always_writable (called {both = before} call reached typed) is_open_lem = writable_after before call (λ before_open. always_writable reached before_open) is_open_lem
