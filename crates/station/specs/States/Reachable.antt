-- The states that calls can leave since off, and what holds in each of them: the definitions alone.
use Rattle.std.specs.Prelude.{◌≡◌, ◌&&◌, ◌+◌, ◌<◌, ◌≤◌}
use Rattle.laws.specs.Usual.{Bool, true, false, ℕ, length, get_or, eqb}
use Rattle.area.specs.Areas.{in_range}
use Rattle.block.specs.Blocks.{blocks_of}
use Rattle.members.specs.Members.{entry_of, is_listed}
use Rattle.frame_reading.specs.Reading.{is_station}
use Rattle.station.specs.Rules.Calls.{Call, start, stop, tick, hear, ask, after}
use Rattle.station.specs.Rules.Starting.{request_fallen}
use Rattle.station.specs.Rules.State.{is_off, is_participating, never, holds}
use Rattle.station.specs.Rules.Waits.{detection_wait, acceptance_time, number_wait, listening_time, longest_watch}
use Rattle.station.specs.Types.{Part, Entry, Members, Panel, Settings, Phase, Off, Listening, Startup, Joining, Participating, Gathering, Station}

-- an address and a size of 16 bits
pub record TypedPart (part : Part) : Type 0 where
  pub address : part.address < 65536
  pub size : part.size < 65536

-- settings as the types of their fields hold them
pub record TypedSettings (settings : Settings) : Type 0 where
  pub number : settings.number < 256
  pub one : TypedPart settings.areas.one
  pub two : TypedPart settings.areas.two
  pub watch : settings.watch.0 < 256

-- the arguments of a call have their types' ranges
abbrev pub Typed : Call → Type 0
Typed (start settings) = TypedSettings settings
Typed stop = Unit {0}
Typed tick = Unit {0}
Typed (hear octets memory assembly) = (at : ℕ) → get_or octets at 0 < 256
Typed (ask memory turn output) = Unit {0}

-- what some list of calls leaves since off
pub data Reachable : Station → Type 0 where
  unstarted : Reachable never
  called : {station : Station} (call : Call) → Reachable station → Typed call → Reachable (after station call)

-- our own settings while we are not off
pub record Ours (own : Settings) : Type 0 where
  -- our number is 1 to 254
  pub number : is_station own.number ≡ true
  -- our watch time is 1 to 255 ms
  pub watch_from : 1 ≤ own.watch.0
  pub watch_to : own.watch.0 ≤ 255
  -- our areas are in range
  pub areas : in_range own.areas ≡ true

-- a number that is listed, with its entry
pub record Entered (ours number : ℕ) (entry : Entry) : Type 0 where
  -- it is 1 to 254
  pub station : is_station number ≡ true
  -- it is not our own
  pub other : eqb number ours ≡ false
  -- its areas are in range
  pub areas : in_range entry.areas ≡ true
  -- its watch time fits an octet
  pub watch : entry.watch.0 ≤ 255
  -- a third miss strikes it
  pub misses : entry.misses ≤ 2

-- the list of a station whose number is `ours`
pub record Listed (ours : ℕ) (members : Members) : Type 0 where
  -- there is a place for every octet
  pub long : length members.entries ≡ 256
  -- every listed number is as it should be
  pub each : (number : ℕ) → is_listed members number ≡ true → Entered ours number (entry_of members number)

-- what is gathered of a source that is not 0
pub record Placed (members : Members) (gathering : Gathering) : Type 0 where
  -- its source is listed
  pub listed : is_listed members gathering.source ≡ true
  -- there is a block of it
  pub some : 1 ≤ gathering.blocks
  -- and blocks are still to come
  pub blocks : gathering.blocks < blocks_of (entry_of members gathering.source).areas

-- the panel's counts
pub record Shown (panel : Panel) : Type 0 where
  -- no more than two takings are counted
  pub takings : panel.takings ≤ 2
  -- and no more ticks than are already over
  pub running : panel.running.0 ≤ 65536
  pub gap : panel.gap.0 ≤ 65536

-- the phases that have a view
abbrev pub has_view : Phase → Bool
has_view Off = false
has_view Listening = false
has_view Startup = false
has_view Joining = true
has_view Participating = true

-- the count of ticks stays below this, in each phase
abbrev pub limit_of : Phase → ℕ → ℕ
limit_of Off number = 1
limit_of Listening number = listening_time number + 1
limit_of Startup number = acceptance_time
limit_of Joining number = detection_wait
limit_of Participating number = longest_watch

-- what holds in every state that calls can leave
pub record Sound (station : Station) : Type 0 where
  -- the list has its length, and who is in it is 1 to 254, not ourselves, in range, and missed at most twice
  pub list : Listed station.own.number station.members
  -- an off station lists nobody
  pub empty : is_off station.phase ≡ true → (number : ℕ) → is_listed station.members number ≡ false
  -- our number is at most 254, 0 where we were never started
  pub number : station.own.number ≤ 254
  -- while we are not off, our number is 1 to 254, our watch time 1 to 255, and our areas are in range
  pub ours : is_off station.phase ≡ false → Ours station.own
  -- at most three rounds are counted
  pub rounds : station.rounds ≤ 3
  -- ticks are counted up to what ends them; for a participant no watch is longer
  pub elapsed : station.elapsed.0 < limit_of station.phase station.own.number
  -- the wait for our number is counted to its end
  pub waited : station.waited.0 ≤ number_wait station.own.number
  -- and not before the third round has ended
  pub unwaited : eqb station.rounds 3 ≡ false → station.waited.0 ≡ 0
  -- a request is sent only once it has fallen due
  pub sent : station.sent ≡ true → request_fallen station.phase station ≡ true
  -- the view is 1 to 254 in joining, where it is the last token destination heard, and in participating
  pub view : has_view station.phase ≡ true → is_station station.view ≡ true
  -- it is 0 in the others
  pub unseen : has_view station.phase ≡ false → station.view ≡ 0
  -- the place in the turn is within its blocks
  pub place : station.block < blocks_of station.own.areas
  -- nothing of a turn is sent while we do not hold
  pub unheld : (is_participating station.phase && holds station) ≡ false → station.block ≡ 0
  -- what is gathered is of a listed station, and within its blocks
  pub gathering : eqb station.gathering.source 0 ≡ false → Placed station.members station.gathering
  -- only a participant gathers
  pub ungathered : is_participating station.phase ≡ false → station.gathering.source ≡ 0
  -- the panel's counts stay within what it shows
  pub panel : Shown station.panel
