-- "A repeat is handed to the host once": between two handings over of one source, kind, version and number lies one of that source and kind with another
-- number, or another version of that source was registered, or the station was turned off. Assumes nothing.
use Rattle.laws.specs.Usual.{Bool, true, false, cond, not, List, ℕ, length}
use Rattle.std.specs.Prelude.{◌≡◌, ◌∷◌, ◌⊎◌}
use Rattle.message.specs.Codes.{to_all}
use Rattle.message.specs.declared.Judged.{Judged}
use Rattle.message.specs.declared.Judged.TheVariants.{Abnormal, OtherVersion, Repeat, New}
use Rattle.message.specs.declared.Letter.{Letter}
use Rattle.message_frames.specs.Frames.{letter_in}
use Rattle.message_rules.specs.Receiving.Sources.{Judging}
use Rattle.message_rules.specs.Rules.Calls.{Both, Call, hear, after, hear_of}
use Rattle.message_rules.specs.Rules.Hearing.{is_letter, delivery_of, judgement_of}
use Rattle.message_rules.specs.Rules.State.{Known, Sources, known_of}
use Rattle.station.specs.Rules.State.{is_off}
use Rattle.message.specs.declared.Received.TheVariants as received

-- whether a message is to all
abbrev pub kind_of : Letter → Bool
kind_of letter = to_all letter.message.destination

-- a call hands over a message: it is a hearing, and its answer is "message"
pub data HandsOver (both : Both) : Call → Letter → Type 0 where
  hands : (octets memory assembly : List ℕ) → is_letter octets memory assembly ≡ true
      → (hear_of both octets memory assembly).answer ≡ received.Message (delivery_of (letter_in octets))
      → HandsOver both (hear octets memory assembly) (letter_in octets)

-- a call registers another version of a source
pub data Registers (both : Both) : Call → Letter → Type 0 where
  registers : (octets memory assembly : List ℕ) → Judging both octets memory assembly → judgement_of both.messages (letter_in octets) ≡ OtherVersion
      → Registers both (hear octets memory assembly) (letter_in octets)

-- a call that ends what is remembered of the last message of a source and a kind
pub data Disturbs (source : ℕ) (kind : Bool) (number : ℕ) (both : Both) (call : Call) : Type 0 where
  -- it hands over one of that source and kind, with another number
  another : (letter : Letter) → HandsOver both call letter → letter.source ≡ source → kind_of letter ≡ kind → ¬ (letter.number ≡ number)
      → Disturbs source kind number both call
  -- it brings another version of that source, which is registered
  version : (letter : Letter) → Registers both call letter → letter.source ≡ source → Disturbs source kind number both call
  -- it turns the station on or off
  switched : is_off (after both call).ring.phase ≡ not (is_off both.ring.phase) → Disturbs source kind number both call

-- some call of a list does
pub data Lies (source : ℕ) (kind : Bool) (number : ℕ) : Both → List Call → Type 0 where
  here : {both : Both} {call : Call} {calls : List Call} → Disturbs source kind number both call → Lies source kind number both (call ∷ calls)
  later : {both : Both} {call : Call} {calls : List Call} → Lies source kind number (after both call) calls → Lies source kind number both (call ∷ calls)

-- the tables have a place for every octet
pub record Long (sources : Sources) : Type 0 where
  pub versions : length sources.versions ≡ 256
  pub one_to_one : length sources.one_to_one ≡ 256
  pub to_all : length sources.to_all ≡ 256

-- the number that is remembered of a kind
abbrev pub last : Bool → Known → ℕ
last kind known = cond kind known.to_all known.one_to_one

-- this version and number of that source and kind are remembered
pub record Remembers (source : ℕ) (kind : Bool) (version number : ℕ) (sources : Sources) : Type 0 where
  pub is_version : (known_of sources source).version ≡ version
  pub is_number : last kind (known_of sources source) ≡ number

-- how a message is judged
pub data JudgeCases (known : Known) (letter : Letter) : Judged → Type 0 where
  abnormal : JudgeCases known letter Abnormal
  otherwise : JudgeCases known letter OtherVersion
  repeats : JudgeCases known letter Repeat
  new : ¬ (letter.version ≡ 0) → ¬ (letter.number ≡ 0) → (known.version ≡ 0) ⊎ (known.version ≡ letter.version)
      → ¬ (letter.number ≡ last (kind_of letter) known) → JudgeCases known letter New

-- two kinds compared
abbrev pub eqb_kind : Bool → Bool → Bool
eqb_kind true kind = kind
eqb_kind false kind = not kind
