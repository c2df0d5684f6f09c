-- A block heard twice (paper 02, E4): a block that was kept, heard once more, is passed over, and so is each further copy. Assumes nothing.
use Rattle.std.specs.Prelude.{Ok, ◌≡◌, ◌||◌, ◌+◌, ◌≤◌}
use Rattle.laws.specs.Usual.{refl, sym, ap, subst, ◌∙◌, Bool, true, false, false≢true, List, ℕ, arith, length, take, drop, eqb}
use Rattle.std.proofs.lemmas.Bool.{eqb-false}
use Rattle.std.proofs.Common.{eq-eqb}
use Rattle.laws.specs.Tests.{both}
use Rattle.area.specs.Areas.{memory_octets}
use Rattle.block.specs.Blocks.{start_of}
use Rattle.copying.specs.Laws.{part_read, length_pasted}
use Rattle.copying.specs.Pasted.{pasted}
use Rattle.frame_reading.specs.Reading.{read_of}
use Rattle.frame_round_trip.proofs.Accepted.{reads}
use Rattle.frame_round_trip.proofs.Shown.{cyclic_carries, areas_are, block_is}
use Rattle.members.specs.Members.{entry_of, is_listed, cleared, misses_set}
use Rattle.station.proofs.Frames.FrameAccepted.{accepts}
use Rattle.station.proofs.Memory.MemorySame.{says, data_outcome, outcome_said, entered_unsaid}
use Rattle.station.specs.Memory.RepeatSaid.{Repeats, is_repeated}
use Rattle.station.proofs.Memory.RepeatSaid.{is_repeat, test_is}
use Rattle.station.proofs.Memory.TurnJoined.{data_long}
use Rattle.station.proofs.Memory.TurnWritten.{assembly_long}
use Rattle.station.specs.Outcomes.HearCases.{FromMember, writes, keeps, repeats, drops, HearCases, refuses, turns_off, gathers, heeds}
use Rattle.station.proofs.Outcomes.HearCases.{whole_of, hear_cases}
use Rattle.station.specs.Rules.Answers.{data_of}
use Rattle.station.specs.Rules.Data.{same_areas, gathered, repeated}
use Rattle.station.specs.Rules.Hearing.{Hearing, knows, participant_heard, hear_of}
use Rattle.station.specs.Rules.Token.{view_heard, restarted, outcome_of}
use Rattle.station.proofs.States.ListKept.{set_either}
use Rattle.station.specs.Types.{Fields, Entry, Gathering, Station, Data, Kept, Written, Dropped, Repeat, Token}
use Rattle.block.specs.Cut as cut
use Rattle.frame_reading.specs.Reading as reading
use Rattle.station.specs.declared.Heard.TheVariants as heard

-- The octets, heard in this state with these buffers and this result, are a frame whose block is passed over.
pub record PassedOver (station : Station) (octets memory assembly : List ℕ) (result : Hearing) : Type 0 where
  pub frame : Fields
  pub read : read_of octets ≡ Ok frame
  -- the data outcome is "repeat"; what became of the token goes by the old rule
  pub answer : result.answer ≡ heard.Cyclic (outcome_of station frame Repeat)
  pub outcome : data_of (outcome_of station frame Repeat) ≡ Repeat
  -- so do the view, the watch and the misses; what was gathered is kept
  pub left : result.station
      ≡ restarted station (cleared station.members frame.source) (view_heard station.view frame) station.gathering station.panel
  pub gathering : result.station.gathering ≡ station.gathering
  -- and no octet changes
  pub same_memory : result.memory ≡ memory
  pub same_assembly : result.assembly ≡ assembly

-- the octets, heard in this state with these buffers, are passed over
abbrev pub Again : Station → List ℕ → List ℕ → List ℕ → Type 0
Again station octets memory assembly = PassedOver station octets memory assembly (hear_of station octets memory assembly)

module _ (station : Station) (octets memory assembly : List ℕ) where
  unmoved : (frame : Fields) → read_of octets ≡ Ok frame
      → PassedOver station octets memory assembly (participant_heard station frame (repeated station.gathering assembly memory))
  unmoved frame whole = record {
    frame = frame;
    read = whole;
    answer = refl;
    outcome = data_outcome station frame Repeat;
    left = refl;
    gathering = refl;
    same_memory = refl;
    same_assembly = refl;
  }

  passed_in : {result : Hearing} → HearCases station octets memory assembly result → says is_repeated result.answer ≡ true
      → PassedOver station octets memory assembly result
  passed_in (refuses refusal) e = absurd (false≢true e)
  passed_in (turns_off out) e = absurd (false≢true e)
  passed_in (gathers frame from (writes areas new next last)) e = absurd (false≢true (sym (outcome_said is_repeated station frame Written) ∙ e))
  passed_in (gathers frame from (keeps areas new next last)) e = absurd (false≢true (sym (outcome_said is_repeated station frame Kept) ∙ e))
  passed_in (gathers frame from (repeats areas again)) e = unmoved frame (reads (whole_of from.accepts))
  passed_in (gathers frame from (drops why)) e = absurd (false≢true (sym (outcome_said is_repeated station frame Dropped) ∙ e))
  passed_in (heeds frame facts entered) e = absurd (false≢true (sym (entered_unsaid is_repeated refl entered) ∙ e))

-- In any state, a frame whose data outcome is "repeat" is passed over.
pub repeat_passed : (station : Station) (octets memory assembly : List ℕ) (token : Token) → (hear_of station octets memory assembly).answer ≡ heard.Cyclic token
    → data_of token ≡ Repeat → Again station octets memory assembly
repeat_passed station octets memory assembly token e said =
    passed_in station octets memory assembly (hear_cases station octets memory assembly) (ap (says is_repeated) e ∙ ap is_repeated said)

-- the data outcomes of a block that is the last one gathered now
abbrev pub is_latest : Data → Bool
is_latest Kept = true
is_latest Written = false
is_latest Dropped = false
is_latest Repeat = true

module _ {station : Station} {octets memory assembly : List ℕ} {frame : Fields} (from : FromMember station octets memory assembly frame)
    (areas : same_areas frame.areas (entry_of station.members frame.source).areas ≡ true) where
  -- clearing the source's misses leaves who is listed, and its areas
  known_still : (number : ℕ) → knows station number ≡ true → (eqb number station.own.number || is_listed (cleared station.members frame.source) number) ≡ true
  known_still number = by (eqb number station.own.number)
    where
      by : (ours : Bool) → (ours || is_listed station.members number) ≡ true → (ours || is_listed (cleared station.members frame.source) number) ≡ true
      by true e = refl
      by false e =
          set_either (λ (entry : Entry). entry.listed ≡ true) station.members.entries frame.source (misses_set 0 (entry_of station.members frame.source)) number
          (λ same. from.listed) e

  areas_still : same_areas frame.areas (entry_of (cleared station.members frame.source) frame.source).areas ≡ true
  areas_still =
      set_either (λ (entry : Entry). same_areas frame.areas entry.areas ≡ true) station.members.entries frame.source
      (misses_set 0 (entry_of station.members frame.source)) frame.source (λ same. areas) areas

  -- the frame heard once more, where its block is the last one gathered and stands at its place in the buffer
  module _ (gathering : Gathering) (stored : List ℕ) (source : gathering.source ≡ frame.source) (number : gathering.blocks ≡ frame.block)
      (data_stands : take (length (reading.data_of octets frame)) (drop (start_of frame.block) stored) ≡ reading.data_of octets frame)
      (long : length stored ≡ memory_octets) (common : List ℕ) (right : length common ≡ memory_octets) where
    abbrev after : Station
    after = restarted station (cleared station.members frame.source) (view_heard station.view frame) gathering station.panel

    whole : read_of octets ≡ Ok frame
    whole = reads (whole_of from.accepts)

    gathered_same : gathered after frame (reading.data_of octets frame) stored common ≡ repeated gathering stored common
    gathered_same =
        let again : Repeats after octets stored frame = record {
          header = from.accepts.header;
          participating = refl;
          areas = areas_still;
          source = source;
          number = number;
          same_data = data_stands;
        } in
        rw (areas_still, is_repeat again)

    hears_again : hear_of after octets common stored ≡ participant_heard after frame (repeated gathering stored common)
    hears_again =
        accepts after octets common stored frame whole (both (eq-eqb _ _ right) (eq-eqb _ _ long))
        (record {
          participates = refl;
          other = eqb-false frame.source station.own.number from.other;
          source = λ cyclic. known_still frame.source (rw from.other from.listed);
          destination = λ token. known_still frame.destination (from.destination token);
        })
        from.cyclic
        ∙ ap (participant_heard after frame) gathered_same

    pub heard_again : Again after octets common stored
    heard_again = subst (PassedOver after octets common stored) (sym hears_again) (unmoved after octets common stored frame whole)

  -- the octets of the block fit in the assembly buffer
  fits : start_of frame.block + length (reading.data_of octets frame) ≤ length assembly
  fits =
      let whole = whole_of from.accepts in
      let facts = block_is whole from.cyclic in
      let size = data_long octets frame from.cyclic facts.least ∙ facts.size in
      let within = cut.within frame.areas frame.block (below facts.to facts.total) in
      let room = cut.fits frame.areas (areas_are whole (cyclic_carries frame.code from.cyclic)) in
      rw (size, assembly_long memory assembly from.accepts.lent) (under within room)
    where
      below : {a b c : ℕ} → a ≤ b → b ≡ c → a ≤ c
      below h e = omega arith

      under : {a b c : ℕ} → a ≤ b → b ≤ c → a ≤ c
      under h k = omega arith

  pub kept_again : (common : List ℕ) → length common ≡ memory_octets
      → Again (restarted station (cleared station.members frame.source) (view_heard station.view frame) (record { source = frame.source; blocks = frame.block }) station.panel)
      octets common (pasted assembly (start_of frame.block) (reading.data_of octets frame))
  kept_again common right =
      heard_again (record { source = frame.source; blocks = frame.block }) (pasted assembly (start_of frame.block) (reading.data_of octets frame)) refl refl
      (part_read assembly (reading.data_of octets frame) (start_of frame.block) (weaker _ _ _ fits))
      (length_pasted assembly (reading.data_of octets frame) (start_of frame.block) fits ∙ assembly_long memory assembly from.accepts.lent) common right
    where
      weaker : (a b c : ℕ) → a + b ≤ c → a ≤ c
      weaker a b c h = omega arith

module _ (station : Station) (octets memory assembly common : List ℕ) (right : length common ≡ memory_octets) where
  again_in : {result : Hearing} → HearCases station octets memory assembly result → says is_latest result.answer ≡ true
      → Again result.station octets common result.assembly
  again_in (refuses refusal) e = absurd (false≢true e)
  again_in (turns_off out) e = absurd (false≢true e)
  again_in (gathers frame from (writes areas new next last)) e = absurd (false≢true (sym (outcome_said is_latest station frame Written) ∙ e))
  again_in (gathers frame from (keeps areas new next last)) e = kept_again from areas common right
  again_in (gathers frame from (repeats areas again)) e =
      let r = test_is station octets memory assembly frame from areas again in
      heard_again from areas station.gathering assembly r.source r.number r.same_data (assembly_long memory assembly from.accepts.lent) common right
  again_in (gathers frame from (drops why)) e = absurd (false≢true (sym (outcome_said is_latest station frame Dropped) ∙ e))
  again_in (heeds frame facts entered) e = absurd (false≢true (sym (entered_unsaid is_latest refl entered) ∙ e))

-- Hearing a kept frame once more, on the state and the assembly buffer that the first hearing left and with any common memory, is answered
-- "repeat", and leaves what was gathered, the memory and the assembly buffer as they are. So it is with every further copy: the frame that was
-- heard before may itself have been a repeat.
pub kept_repeated : (station : Station) (octets memory assembly : List ℕ) (token : Token) → (hear_of station octets memory assembly).answer ≡ heard.Cyclic token
    → is_latest (data_of token) ≡ true → (common : List ℕ) → length common ≡ memory_octets
    → Again (hear_of station octets memory assembly).station octets common (hear_of station octets memory assembly).assembly
kept_repeated station octets memory assembly token e latest common right =
    again_in station octets memory assembly common right (hear_cases station octets memory assembly) (ap (says is_latest) e ∙ latest)
