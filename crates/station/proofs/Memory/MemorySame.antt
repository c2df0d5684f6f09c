-- "Our own areas are never written by a frame": what hearing a frame does to the common memory. Assumes nothing.
use Rattle.std.specs.Prelude.{Ok, ◌≡◌}
use Rattle.laws.specs.Usual.{refl, sym, ap, ◌∙◌, Bool, true, false, cond, not, false≢true, List, ℕ, length, eqb}
use Rattle.copying.specs.Pasted.{pasted}
use Rattle.frame.specs.Codes.{is_token, is_cyclic}
use Rattle.members.specs.Members.{entry_of, is_listed}
use Rattle.frame_reading.specs.Reading.{read_header_of, read_body_of}
use Rattle.station.specs.Rules.Answers.{data_of}
use Rattle.station.specs.Rules.Data.{turn_written, same_areas, is_next}
use Rattle.station.specs.Outcomes.HearCases.{writes, keeps, repeats, drops, EnterCases, off, begins, joins, passes, reads, lists, ignores, HearCases, refuses, turns_off, gathers, heeds}
use Rattle.station.proofs.Outcomes.HearCases.{entering, hear_cases}
use Rattle.station.specs.Rules.Hearing.{Hearing, lent_right, hear_of}
use Rattle.station.specs.Rules.State.{is_participating}
use Rattle.station.specs.Rules.Token.{view_heard, takes, outcome_of}
use Rattle.station.specs.Types.{Fields, Station, Data, Kept, Written, Dropped, Repeat, Token, Heard}
use Rattle.block.specs.Blocks as blocks
use Rattle.frame_reading.specs.Reading as reading
use Rattle.station.specs.declared.Heard.TheVariants as heard
use Rattle.station.specs.declared.Token.TheVariants as tokens

-- the data outcome "written"
abbrev is_written : Data → Bool
is_written Kept = false
is_written Written = true
is_written Dropped = false
is_written Repeat = false

-- the answer is that of a cyclic frame whose data outcome passes a test
abbrev pub says : (Data → Bool) → Heard → Bool
says test heard.Off = false
says test heard.Done = false
says test (heard.Cyclic token) = test (data_of token)
says test (heard.Refused refusal) = false

-- what the octets say, and what is known of the sender, where a turn is written
pub record Whole (station : Station) (octets memory assembly : List ℕ) (frame : Fields) : Type 0 where
  -- the octets are read as this frame
  pub header : read_header_of octets ≡ Ok frame
  pub body : read_body_of (length octets) frame ≡ Ok frame
  pub lent : lent_right memory assembly ≡ true
  -- we participate, and the frame is cyclic
  pub participating : is_participating station.phase ≡ true
  pub cyclic : is_cyclic frame.code ≡ true
  -- its source is listed, with the areas that it names
  pub listed : is_listed station.members frame.source ≡ true
  pub areas : same_areas frame.areas (entry_of station.members frame.source).areas ≡ true
  -- it is the next block of that source, and the last of its turn
  pub next : is_next station.gathering frame ≡ true
  pub last : eqb frame.block frame.blocks ≡ true

-- the token's outcome carries that of the data
pub data_outcome : (station : Station) (frame : Fields) (outcome : Data) → data_of (outcome_of station frame outcome) ≡ outcome
data_outcome station frame outcome =
    by (not (is_token frame.code)) (takes station.own.number station.view (view_heard station.view frame))
    (eqb frame.source station.view) (not (eqb (view_heard station.view frame) station.view))
  where
    by : (a b c d : Bool) → data_of
        (cond a (tokens.None outcome)
        (cond b (tokens.OursNow outcome)
        (cond c (tokens.PassedOn outcome) (cond d (tokens.RivalWon outcome) (tokens.RivalPassedOver outcome))))) ≡ outcome
    by true b c d = refl
    by false true c d = refl
    by false false true d = refl
    by false false false true = refl
    by false false false false = refl

-- and so what a participant answers to a cyclic frame says just that
pub outcome_said : (test : Data → Bool) (station : Station) (frame : Fields) (outcome : Data) → says test (heard.Cyclic (outcome_of station frame outcome)) ≡ test outcome
outcome_said test station frame outcome = ap test (data_outcome station frame outcome)

-- an answer of "written" says so
written_said : {answer : Heard} (token : Token) → (answer ≡ heard.Cyclic token) × (data_of token ≡ Written) → says is_written answer ≡ true
written_said token w = ap (says is_written) w.0 ∙ ap is_written w.1

-- of a frame that a participant does not gather from, the data are dropped
pub entered_unsaid : (test : Data → Bool) → test Dropped ≡ false → {station left : Station} {frame : Fields} {answer : Heard} → EnterCases station frame left answer
    → says test answer ≡ false
entered_unsaid test d entered =
    entering (λ left answer. says test answer ≡ false) (λ e. refl) (λ e c. refl) (λ e c. d) (λ e c. d) (λ e c. d) (λ e c. refl) (λ e. refl) entered

module _ (station : Station) (octets memory assembly : List ℕ) where
  -- the answer is a cyclic one whose data outcome is "written"
  abbrev Writes : Hearing → Token → Type 0
  Writes result token = (result.answer ≡ heard.Cyclic token) × (data_of token ≡ Written)

  -- and one whole turn, as the call leaves it in the assembly buffer, is written to the source's listed areas
  abbrev Wrote : Hearing → Type 0
  Wrote result =
      (frame : Fields) × Whole station octets memory assembly frame
      × (result.assembly ≡ pasted assembly (blocks.start_of frame.block) (reading.data_of octets frame))
      × (result.memory ≡ turn_written (entry_of station.members frame.source).areas result.assembly memory)

  same_in : {result : Hearing} → HearCases station octets memory assembly result → ((token : Token) → Writes result token → ⊥) → result.memory ≡ memory
  same_in (refuses refusal) none = refl
  same_in (turns_off out) none = refl
  same_in (gathers frame from (writes areas new next last)) none =
      absurd (none (outcome_of station frame Written) (refl, data_outcome station frame Written))
  same_in (gathers frame from (keeps areas new next last)) none = refl
  same_in (gathers frame from (repeats areas again)) none = refl
  same_in (gathers frame from (drops why)) none = refl
  same_in (heeds frame facts entered) none = refl

  wrote_in : {result : Hearing} (token : Token) → HearCases station octets memory assembly result → Writes result token → Wrote result
  wrote_in token (refuses refusal) w = absurd (false≢true (written_said token w))
  wrote_in token (turns_off out) w = absurd (false≢true (written_said token w))
  wrote_in token (gathers frame from (writes areas new next last)) w = (
    frame,
    record {
      header = from.accepts.header;
      body = from.accepts.body;
      lent = from.accepts.lent;
      participating = rw from.participates;
      cyclic = from.cyclic;
      listed = from.listed;
      areas = areas;
      next = next;
      last = last;
    },
    refl,
    refl,
  )
  wrote_in token (gathers frame from (keeps areas new next last)) w = absurd (false≢true (sym (outcome_said is_written station frame Kept) ∙ written_said token w))
  wrote_in token (gathers frame from (repeats areas again)) w = absurd (false≢true (sym (outcome_said is_written station frame Repeat) ∙ written_said token w))
  wrote_in token (gathers frame from (drops why)) w = absurd (false≢true (sym (outcome_said is_written station frame Dropped) ∙ written_said token w))
  wrote_in token (heeds frame facts entered) w = absurd (false≢true (sym (entered_unsaid is_written refl entered) ∙ written_said token w))

-- Where the answer is not a cyclic one whose data outcome is "written", the common memory is the same.
pub memory_same : (station : Station) (octets memory assembly : List ℕ)
    → ((token : Token) → (hear_of station octets memory assembly).answer ≡ heard.Cyclic token → data_of token ≡ Written → ⊥)
    → (hear_of station octets memory assembly).memory ≡ memory
memory_same station octets memory assembly none =
    same_in station octets memory assembly (hear_cases station octets memory assembly) (λ token w. none token w.0 w.1)

-- Where it is, one whole turn, as the call leaves it in the assembly buffer, is written to the source's listed areas.
pub memory_written : (station : Station) (octets memory assembly : List ℕ) (token : Token)
    → (hear_of station octets memory assembly).answer ≡ heard.Cyclic token → data_of token ≡ Written
    → (frame : Fields) × Whole station octets memory assembly frame
    × ((hear_of station octets memory assembly).assembly ≡ pasted assembly (blocks.start_of frame.block) (reading.data_of octets frame))
    × ((hear_of station octets memory assembly).memory
    ≡ turn_written (entry_of station.members frame.source).areas (hear_of station octets memory assembly).assembly memory)
memory_written station octets memory assembly token e w =
    wrote_in station octets memory assembly token (hear_cases station octets memory assembly) (e, w)
