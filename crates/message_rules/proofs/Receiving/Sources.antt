-- What every call can make of what we know of the sources. Assumes nothing.
use Rattle.std.specs.Prelude.{◌≡◌, ◌&&◌}
use Rattle.laws.specs.Usual.{refl, sym, ap, ◌∙◌, Bool, true, false, cond, not, List, ℕ, length}
use Rattle.laws.specs.Tests.{first, second}
use Rattle.message.specs.declared.Message.{Message}
use Rattle.frame.specs.Octets.{octet_at}
use Rattle.frame.specs.Positions.{SNA}
use Rattle.message_frames.specs.Confirmations.{confirms, confirmation_in}
use Rattle.message_frames.specs.Frames.{letter_in}
use Rattle.message_rules.specs.Rules.Again.{turned, slot_answered}
use Rattle.message_rules.specs.Rules.Calls.{Both, Call, start, stop, tick, post, hear, ask, after, is_done, takes, turns_off, Hearing, Asking, hear_of}
use Rattle.message_rules.specs.Rules.Confirming.{speaks_of, is_cyclic_answer, after_frame}
use Rattle.message_rules.specs.Rules.Hearing.{is_letter}
use Rattle.message_rules.proofs.Outcomes as outcomes_told
use Rattle.message_rules.specs.Rules.Posting.{Posting}
use Rattle.message_rules.specs.Rules.State.{Messages, no_sources, no_messages, begun, with_slot}
use Rattle.station.proofs.Outcomes.SwitchCases.{start_cases, stop_cases}
use Rattle.station.specs.Outcomes.SwitchCases.{SwitchCases, refuses, does}
use Rattle.station.specs.Rules.State.{is_off, is_participating}
use Rattle.station.specs.declared.Heard.{Heard}
use Rattle.station.specs.declared.Station.{Station}
use Rattle.message_rules.specs.Receiving.Sources.{SourcesMove, kept, judges, turns}
use Rattle.message_rules.specs.Rules.Hearing as letters
use Rattle.message_rules.specs.Outcomes as outcomes
use Rattle.station.specs.Rules.Calls as base
use Rattle.station.specs.Rules.Hearing as hearing
use Rattle.station.specs.Rules.Starting as starting

-- a taking leaves them, and so does a confirmation
turned_keeps : (taking : Bool) (messages : Messages) → (turned taking messages).sources ≡ messages.sources
turned_keeps true messages = refl
turned_keeps false messages = refl

frame_keeps : (station : Station) (messages : Messages) (octets : List ℕ) (answer : Heard) → (after_frame station messages octets answer).sources ≡ messages.sources
frame_keeps station messages octets answer =
    by (is_participating station.phase && (is_cyclic_answer answer && confirms octets))
    (speaks_of station.own.number messages (octet_at octets SNA) (confirmation_in octets))
  where
    by : (read told : Bool) → (cond read (cond told (with_slot messages (slot_answered messages.slot (confirmation_in octets).status)) messages) messages).sources
        ≡ messages.sources
    by true true = refl
    by true false = refl
    by false told = refl

switch_moves : (both : Both) (call : Call) (left : Station) {Reason : Type 0} (fresh : Messages) {result : starting.Switching}
    → fresh.sources ≡ no_sources → (Reason → is_off left.phase ≡ not (is_off both.ring.phase))
    → SwitchCases both.ring left Reason result
    → SourcesMove both call (record { ring = result.station; messages = cond (is_done result.answer) fresh both.messages })
switch_moves both call left fresh empty turning (refuses refusal) = kept refl
switch_moves both call left fresh empty turning (does reason) = turns empty (turning reason)

post_moves : (both : Both) (message : Message) (octets mail : List ℕ) {result : Posting}
    → outcomes.PostCases both.ring both.messages message octets mail result
    → SourcesMove both (post message octets mail) (record { ring = both.ring; messages = result.messages })
post_moves both message octets mail (outcomes.refuses refusal) = kept refl
post_moves both message octets mail (outcomes.off out) = kept refl
post_moves both message octets mail (outcomes.waits right sendable free on) = kept refl

letter_moves : (both : Both) (octets memory assembly : List ℕ) (is : is_letter octets memory assembly ≡ true) {result : letters.Hearing}
    → outcomes.LetterCases both.ring both.messages (length octets) (letter_in octets) result
    → (hear_of both octets memory assembly).answer ≡ result.answer
    → SourcesMove both (hear octets memory assembly) (record { ring = result.station; messages = result.messages })
letter_moves both octets memory assembly is (outcomes.refuses refusal) e = kept refl
letter_moves both octets memory assembly is (outcomes.turns_off address six out) e = turns refl (sym (first (not (is_off both.ring.phase)) _ six))
letter_moves both octets memory assembly is (outcomes.off out) e = kept refl
letter_moves both octets memory assembly is (outcomes.passes accepts others) e = kept refl
letter_moves both octets memory assembly is (outcomes.holds accepts ours ninth) e = kept refl
letter_moves both octets memory assembly is (outcomes.takes accepts ours room) e =
    judges octets memory assembly (record { letter = is; accepts = accepts; ours = ours; room = room }) refl e

hear_moves : (both : Both) (octets memory assembly : List ℕ) {result : Hearing} → outcomes.HearCases both octets memory assembly result
    → hear_of both octets memory assembly ≡ result → SourcesMove both (hear octets memory assembly) result.both
hear_moves both octets memory assembly (outcomes.letter is) e =
    letter_moves both octets memory assembly is (outcomes_told.letter_cases both.ring both.messages (length octets) (letter_in octets))
    (ap (λ (h : Hearing). h.answer) e)
hear_moves both octets memory assembly (outcomes.frame is) e = by (turns_off both.ring left.station) refl
  where
    left : hearing.Hearing
    left = hearing.hear_of both.ring octets memory assembly

    taking : Bool
    taking = takes both.ring (base.hear octets memory assembly)

    by : (off : Bool) → turns_off both.ring left.station ≡ off → SourcesMove both (hear octets memory assembly) (record {
      ring = left.station;
      messages = cond off no_messages (turned taking (after_frame both.ring both.messages octets left.answer));
    })
    by true o = turns refl (second (not (is_off both.ring.phase)) _ o ∙ sym (first (not (is_off both.ring.phase)) _ o))
    by false o =
        kept (turned_keeps taking (after_frame both.ring both.messages octets left.answer) ∙ frame_keeps both.ring both.messages octets left.answer)

ask_moves : (both : Both) (memory turn output mail : List ℕ) {result : Asking} → outcomes.AskCases both memory turn output mail result
    → SourcesMove both (ask memory turn output mail) result.both
ask_moves both memory turn output mail (outcomes.refuses wrong) = kept refl
ask_moves both memory turn output mail (outcomes.sends right lent now) = kept refl
ask_moves both memory turn output mail (outcomes.blocks right other) = kept (turned_keeps (takes both.ring (base.ask memory turn output)) _)

-- Every call, in any state.
pub sources_move : (both : Both) (call : Call) → SourcesMove both call (after both call)
sources_move both (start settings allowance) =
    switch_moves both (start settings allowance) _ (begun allowance) refl (λ reason. sym (ap (λ p. not (is_off p)) reason.off)) (start_cases both.ring settings)
sources_move both stop = switch_moves both stop _ no_messages refl (λ on. sym (ap not on)) (stop_cases both.ring)
sources_move both tick = kept (turned_keeps (takes both.ring base.tick) _)
sources_move both (post message octets mail) =
    post_moves both message octets mail (outcomes_told.post_cases both.ring both.messages message octets mail)
sources_move both (hear octets memory assembly) = hear_moves both octets memory assembly (outcomes_told.hear_cases both octets memory assembly) refl
sources_move both (ask memory turn output mail) = ask_moves both memory turn output mail (outcomes_told.ask_cases both memory turn output mail)
