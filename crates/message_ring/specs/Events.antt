-- Paper 01, "The ring in demand 3", for stations with messages (paper 02, E2): an event's asking may write a message, which all others hear; a stray may be a
-- handing in, or a message heard by one station alone. Words in quotes are the papers'.
use Rattle.std.specs.Prelude.{Ok, Err, ◌≡◌}
use Rattle.laws.specs.Usual.{[], Bool, true, false, cond, List, ℕ, take, eqb}
use Rattle.frame.specs.Codes.{is_cyclic}
use Rattle.frame.specs.declared.Code.TheVariants.{Request}
use Rattle.frame_reading.specs.Reading.{read_of}
use Rattle.message.specs.declared.Allowance.{Allowance}
use Rattle.message.specs.declared.Message.{Message}
use Rattle.message_rules.specs.Rules.Calls.{Both, Call, start, post, hear, after, hear_of, ask_of, tick_of, verdict}
use Rattle.message_rules.specs.Rules.Hearing.{is_letter}
use Rattle.message_rules.specs.Rules.Posting.{mail_right}
use Rattle.misses.specs.MissHistory.{ThirdRunning}
use Rattle.ring.specs.Counts.{given_by}
use Rattle.ring.specs.Events.{Stations, Lent, ends_watch}
use Rattle.settling.specs.Counting.{Counting}
use Rattle.settling.specs.Ring.{◌∈◌}
use Rattle.station.specs.Rules.Calls.{refused_by}
use Rattle.station.specs.Rules.State.{holds}
use Rattle.station.specs.Rules.Waits.{counts_as}
use Rattle.station.specs.Types.{Fields, Refusal}
use Rattle.station.specs.Types.{Asked}
use Rattle.station.specs.declared.Settings.{Settings}
use Rattle.station.specs.Rules.Asking as asking
use Rattle.station.specs.Rules.Hearing as hearing

-- the stations of a ring, by their numbers, and their ring parts
abbrev pub Boths : Type 0
Boths = ℕ → Both

abbrev pub rings_of : Boths → Stations
rings_of boths number = (boths number).ring

-- "An event is one of these: one station is asked for a frame; each other one is then handed what it writes, once. Every station gets one
-- tick. A stray: one station alone gets any call .." Each call carries the buffers that are lent to it.
pub data Event : Type 0 where
  asked : (who : ℕ) (memory turn output mail : List ℕ) → (ℕ → Lent) → Event
  ticked : Event
  stray : (who : ℕ) → Call → Event

-- "Refused, nobody is handed anything."
abbrev pub handed : Both → Lent → Asked → List ℕ → Both
handed both lent (Ok count) output = (hear_of both (take count output) lent.memory lent.assembly).both
handed both lent (Err refusal) output = both

-- the stations after an event: "Each call gets the state that its station's last call left"
abbrev pub after_event : Boths → Event → Boths
after_event boths (asked who memory turn output mail lent) number =
    cond (eqb number who)
    (ask_of (boths who) memory turn output mail).both
    (handed (boths number) (lent number)
    (ask_of (boths who) memory turn output mail).answer
    (ask_of (boths who) memory turn output mail).output)
after_event boths ticked number = (tick_of (boths number)).both
after_event boths (stray who call) number = cond (eqb number who) (after (boths who) call) (boths number)

-- "A pass is an asking that writes code 65000; it gives the token to the destination." A message is no pass.
abbrev pub gives : Boths → Event → List ℕ
gives boths (asked who memory turn output mail lent) =
    given_by (ask_of (boths who) memory turn output mail).answer (ask_of (boths who) memory turn output mail).output
gives boths ticked = []
gives boths (stray who call) = []

abbrev pub asks : Event → ℕ
asks (asked who memory turn output mail lent) = who
asks ticked = 0
asks (stray who call) = who

-- "A silence is a tick that ends the watches"
abbrev pub ends : Boths → Event → ℕ → Bool
ends boths (asked who memory turn output mail lent) number = false
ends boths ticked number = ends_watch (boths number).ring
ends boths (stray who call) number = false

abbrev pub views_of : Boths → ℕ → ℕ
views_of boths number = (boths number).ring.view

-- the ring of stations with messages, of which passes and silences are counted
abbrev pub both_counting : Counting
both_counting = record {
  State = Boths;
  Input = Event;
  after = after_event;
  views_of = views_of;
  asks = asks;
  gives = gives;
  ends = ends;
}

-- "any call that is refused, or any other call but a tick, a stop, an asking, a cyclic frame of whatever number, or a request of a number
-- outside the ring", or with another watch time than the one of the ring (E1)
pub data Stray (numbers : List ℕ) (both : Both) : Call → Type 0 where
  refused : {call : Call} (refusal : Refusal) → verdict both call ≡ refused_by refusal → Stray numbers both call
  starts : (settings : Settings) (allowance : Allowance) → Stray numbers both (start settings allowance)
  posts : (message : Message) (octets mail : List ℕ) → Stray numbers both (post message octets mail)
  letters : (octets memory assembly : List ℕ) → is_letter octets memory assembly ≡ true → Stray numbers both (hear octets memory assembly)
  harmless : (octets memory assembly : List ℕ) (fields : Fields) → read_of octets ≡ Ok fields → is_cyclic fields.code ≡ false
      → (fields.code ≡ Request → (fields.source ∈ numbers) × ((counts_as fields.watch).0 ≡ both.ring.own.watch.0))
      → Stray numbers both (hear octets memory assembly)

-- An event that demand 3 covers: buffers "at lengths that 11 lets through, strays aside"; no tick that "ends a holder's watch"; and none that
-- makes a station "missed three times running".
abbrev pub CanCome : List ℕ → Boths → Event → Type 0
CanCome numbers boths (asked who memory turn output mail lent) =
    (who ∈ numbers) × (asking.lent_right memory turn output ≡ true) × (mail_right mail ≡ true)
    × ((number : ℕ) → number ∈ numbers → hearing.lent_right (lent number).memory (lent number).assembly ≡ true)
CanCome numbers boths ticked =
    ((number : ℕ) → number ∈ numbers → ends_watch (boths number).ring ≡ true → holds (boths number).ring ≡ false)
    × ((number : ℕ) → number ∈ numbers → ends_watch (boths number).ring ≡ true → ¬ ThirdRunning (boths number).ring)
CanCome numbers boths (stray who call) = (who ∈ numbers) × Stray numbers (boths who) call
