-- A block heard twice (paper 02, E4): a cyclic frame's data outcome is "repeat" exactly where the rule says so. Assumes nothing.
use Rattle.std.specs.Prelude.{Ok, ◌≡◌, ◌&&◌, ◌<◌, ◌≤◌}
use Rattle.laws.specs.Usual.{refl, sym, ap, subst, ◌∙◌, true, false≢true, List, ℕ, arith, length, take, drop, eqb}
use Rattle.std.proofs.Common.{eqb-true, eq-eqb, ne_eqb}
use Rattle.laws.specs.Tests.{first, second, both}
use Rattle.block.specs.Blocks.{blocks_of, start_of}
use Rattle.comparing.specs.Laws.{same_is, same_self}
use Rattle.comparing.specs.Same.{same}
use Rattle.frame_round_trip.proofs.Shown.{block_is}
use Rattle.members.specs.Members.{entry_of}
use Rattle.station.proofs.Memory.MemorySame.{outcome_said, entered_unsaid, says}
use Rattle.station.proofs.Memory.TurnJoined.{data_long}
use Rattle.station.proofs.Outcomes.HearCases.{entering, awaits_outside, whole_of, hear_cases}
use Rattle.station.specs.Outcomes.HearCases.{FromMember, repeats?, writes, keeps, repeats, drops, EnterCases, off, begins, joins, passes, reads, lists, ignores, HearCases, refuses, turns_off, gathers, heeds}
use Rattle.station.specs.Rules.Answers.{data_of}
use Rattle.station.specs.Rules.Data.{same_areas}
use Rattle.station.specs.Rules.Hearing.{Hearing, hear_of}
use Rattle.station.proofs.States.KeepsEntering.{same_blocks}
use Rattle.station.proofs.States.KeepsStarting.{station_from}
use Rattle.station.specs.States.Reachable.{Reachable, Sound}
use Rattle.station.proofs.States.Sound.{sound}
use Rattle.station.specs.Types.{Read, Fields, Station, Data, Kept, Written, Dropped, Repeat, Token, Heard}
use Rattle.station.specs.Memory.RepeatSaid.{Repeats, is_repeated, any}
use Rattle.block.specs.Cut as cut
use Rattle.frame_reading.specs.Reading as reading
use Rattle.station.specs.declared.Heard.TheVariants as heard

-- what passes the rule's test is such a block,
pub test_is : (station : Station) (octets memory assembly : List ℕ) (frame : Fields) → FromMember station octets memory assembly frame
    → same_areas frame.areas (entry_of station.members frame.source).areas ≡ true → repeats? station frame octets assembly ≡ true
    → Repeats station octets assembly frame
test_is station octets memory assembly frame from areas again =
    let place = take (length (reading.data_of octets frame)) (drop (start_of frame.block) assembly) in
    let numbered = eqb station.gathering.source frame.source && eqb station.gathering.blocks frame.block in
    let numbers = first numbered (same (reading.data_of octets frame) place) again in
    record {
      header = from.accepts.header;
      participating = rw from.participates;
      areas = areas;
      source = eqb-true _ _ (first (eqb station.gathering.source frame.source) (eqb station.gathering.blocks frame.block) numbers);
      number = eqb-true _ _ (second (eqb station.gathering.source frame.source) (eqb station.gathering.blocks frame.block) numbers);
      same_data = sym (same_is (reading.data_of octets frame) place (second numbered (same (reading.data_of octets frame) place) again));
    }

-- and such a block passes it
pub is_repeat : {station : Station} {octets assembly : List ℕ} {frame : Fields} → Repeats station octets assembly frame → repeats? station frame octets assembly ≡ true
is_repeat {station} {octets} {assembly} {frame} r =
    both (both (eq-eqb station.gathering.source frame.source r.source) (eq-eqb station.gathering.blocks frame.block r.number))
    (rw r.same_data (same_self (reading.data_of octets frame)))

repeat_is : (outcome : Data) → is_repeated outcome ≡ true → outcome ≡ Repeat
repeat_is Kept e = absurd (false≢true e)
repeat_is Written e = absurd (false≢true e)
repeat_is Dropped e = absurd (false≢true e)
repeat_is Repeat e = refl

same_frame : {f g : Fields} → ◌≡◌ {A = Read} (Ok f) (Ok g) → f ≡ g
same_frame e = cc

module _ (station : Station) (octets memory assembly : List ℕ) where
  said_in : {result : Hearing} → HearCases station octets memory assembly result → says is_repeated result.answer ≡ true
      → (frame : Fields) × FromMember station octets memory assembly frame × Repeats station octets assembly frame
  said_in (refuses refusal) e = absurd (false≢true e)
  said_in (turns_off out) e = absurd (false≢true e)
  said_in (gathers frame from (writes areas new next last)) e = absurd (false≢true (sym (outcome_said is_repeated station frame Written) ∙ e))
  said_in (gathers frame from (keeps areas new next last)) e = absurd (false≢true (sym (outcome_said is_repeated station frame Kept) ∙ e))
  said_in (gathers frame from (repeats areas again)) e = (frame, from, test_is station octets memory assembly frame from areas again)
  said_in (gathers frame from (drops why)) e = absurd (false≢true (sym (outcome_said is_repeated station frame Dropped) ∙ e))
  said_in (heeds frame facts entered) e = absurd (false≢true (sym (entered_unsaid is_repeated refl entered) ∙ e))

  module _ (frame : Fields) (r : Repeats station octets assembly frame) where
    again_in : (read : Fields) → FromMember station octets memory assembly read → Repeats station octets assembly read
    again_in read from = subst (Repeats station octets assembly) (same_frame (sym r.header ∙ from.accepts.header)) r

    entered_in : {left : Station} {read : Fields} {answer : Heard} → EnterCases station read left answer → says any answer ≡ true
        → says is_repeated answer ≡ true
    entered_in entered =
        entering (λ left answer. says any answer ≡ true → says is_repeated answer ≡ true) (λ p e. absurd (false≢true e)) (λ p c e. absurd (false≢true e))
        (λ p c e. absurd (false≢true (sym (awaits_outside p) ∙ r.participating))) (λ p c e. absurd (false≢true (sym (awaits_outside p) ∙ r.participating)))
        (λ p c e. absurd (false≢true (rw p at r.participating))) (λ p c e. absurd (false≢true e)) (λ p e. absurd (false≢true e)) entered

    says_in : {result : Hearing} → HearCases station octets memory assembly result → says any result.answer ≡ true → says is_repeated result.answer ≡ true
    says_in (refuses refusal) e = absurd (false≢true e)
    says_in (turns_off out) e = absurd (false≢true e)
    says_in (gathers read from (writes areas new next last)) e = absurd (false≢true (sym new ∙ is_repeat (again_in read from)))
    says_in (gathers read from (keeps areas new next last)) e = absurd (false≢true (sym new ∙ is_repeat (again_in read from)))
    says_in (gathers read from (repeats areas again)) e = outcome_said is_repeated station read Repeat
    says_in (gathers read from (drops why)) e =
        let again = again_in read from in absurd (false≢true (sym why ∙ both again.areas (is_repeat again)))
    says_in (heeds read facts entered) e = entered_in entered e

-- A cyclic frame's data outcome is "repeat" exactly where a participant hears such a block.
pub repeat_said : (station : Station) (octets memory assembly : List ℕ) (token : Token) → (hear_of station octets memory assembly).answer ≡ heard.Cyclic token
    → (data_of token ≡ Repeat → (frame : Fields) × Repeats station octets assembly frame)
    × ((frame : Fields) → Repeats station octets assembly frame → data_of token ≡ Repeat)
repeat_said station octets memory assembly token e = (
  λ said. let f = said_in station octets memory assembly cases (ap (says is_repeated) e ∙ ap is_repeated said) in (f.0, f.2),
  λ frame r. repeat_is (data_of token) (sym (ap (says is_repeated) e) ∙ says_in station octets memory assembly frame r cases (ap (says any) e)),
)
  where
    cases : HearCases station octets memory assembly (hear_of station octets memory assembly)
    cases = hear_cases station octets memory assembly

-- what is gathered is not a turn's last block,
unended : (station : Station) (octets memory assembly : List ℕ) (frame : Fields) → Sound station → FromMember station octets memory assembly frame
    → Repeats station octets assembly frame → frame.block < blocks_of frame.areas
unended station octets memory assembly frame ok from r =
    let source = station_from frame.source (ok.list.each frame.source from.listed).station in
    let placed = ok.gathering (ne_eqb station.gathering.source 0 (some r.source source)) in
    rw (← r.number, same_blocks frame.areas (entry_of station.members frame.source).areas r.areas, ← r.source) placed.blocks
  where
    some : {a b : ℕ} → a ≡ b → 1 ≤ b → (a ≡ 0 → ⊥)
    some e h z = omega arith

-- In every state that calls can leave, a repeat is no turn's last block either, and so has as many octets as the block that was gathered.
pub repeat_long : (station : Station) → Reachable station → (octets memory assembly : List ℕ) (token : Token)
    → (hear_of station octets memory assembly).answer ≡ heard.Cyclic token → data_of token ≡ Repeat
    → (frame : Fields) × Repeats station octets assembly frame × (frame.block < frame.blocks) × (length (reading.data_of octets frame) ≡ 1024)
repeat_long station reached octets memory assembly token e said =
    let found = said_in station octets memory assembly (hear_cases station octets memory assembly) (ap (says is_repeated) e ∙ ap is_repeated said) in
    let frame : Fields = found.0 in
    let from : FromMember station octets memory assembly frame = found.1 in
    let few = unended station octets memory assembly frame (sound station reached) from found.2 in
    let facts = block_is (whole_of from.accepts) from.cyclic in
    let size = data_long octets frame from.cyclic facts.least ∙ facts.size ∙ cut.whole frame.areas frame.block facts.from few in
    (frame, found.2, rw facts.total few, size)
