-- What every call can make of what we know of the sources. Assumes nothing.
use Rattle.std.specs.Prelude.{◌≡◌}
use Rattle.laws.specs.Usual.{true, false, not, List, ℕ, length}
use Rattle.message_frames.specs.Frames.{letter_in}
use Rattle.message_rules.specs.Rules.Calls.{Both, Call, hear, hear_of}
use Rattle.message_rules.specs.Rules.Hearing.{is_letter, is_for_us, is_held, judgement_of, known_after, answer_to}
use Rattle.message_rules.specs.Outcomes.{Accepts}
use Rattle.message_rules.specs.Rules.State.{no_sources, known_of, with_known}
use Rattle.station.specs.Rules.State.{is_off}

-- a message for us was judged: it is one that no refusal met, for us, and there is room for its confirmation
pub record Judging (both : Both) (octets memory assembly : List ℕ) : Type 0 where
  pub letter : is_letter octets memory assembly ≡ true
  pub accepts : Accepts both.ring (length octets) (letter_in octets)
  pub ours : is_for_us both.ring (letter_in octets) ≡ true
  pub room : is_held both.messages (letter_in octets) ≡ false

pub data SourcesMove (both : Both) : Call → Both → Type 0 where
  kept : {call : Call} {left : Both} → left.messages.sources ≡ both.messages.sources → SourcesMove both call left
  judges : (octets memory assembly : List ℕ) {left : Both} → Judging both octets memory assembly
      → left.messages.sources ≡ with_known both.messages.sources (letter_in octets).source
      (known_after (judgement_of both.messages (letter_in octets)) (known_of both.messages.sources (letter_in octets).source) (letter_in octets))
      → (hear_of both octets memory assembly).answer ≡ answer_to (judgement_of both.messages (letter_in octets)) (letter_in octets)
      → SourcesMove both (hear octets memory assembly) left
  turns : {call : Call} {left : Both} → left.messages.sources ≡ no_sources → is_off left.ring.phase ≡ not (is_off both.ring.phase)
      → SourcesMove both call left
