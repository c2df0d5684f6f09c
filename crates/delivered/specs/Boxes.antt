-- A station as a host in C keeps it, its core in eighteen numbers and its list in four arrays, and what each exported call leaves of it: the
-- contracts of `crates/flnet_station/src/lib.rt`, one equation for each of their clauses. ("Box" is the request's word for a station's device.)
use Rattle.std.specs.Prelude.{◌≡◌}
use Rattle.laws.specs.Usual.{Bool, List, ℕ, length}
use Rattle.boundary_core.specs.Crossing.{core_of, station_in}
use Rattle.boundary_answers.specs.Numbers.{switched_answer, ticked_answer}
use Rattle.boundary_told.specs.Told.{heard_told, asked_told}
use Rattle.boundary_answers.specs.declared.Answer.{Answer}
use Rattle.boundary_lists.specs.Lists.{members_in, Whole}
use Rattle.boundary_places.specs.Places.{core_in, kept}
use Rattle.station.specs.Rules.Asking.{ask_of}
use Rattle.station.specs.Rules.Calls.{Call, start, stop, tick, hear, ask, after, lent, lent_after}
use Rattle.station.specs.Rules.Hearing.{hear_of}
use Rattle.station.specs.Rules.Starting.{start_of, stop_of}
use Rattle.station.specs.Rules.Ticking.{tick_of}
use Rattle.station.specs.declared.Station.{Station}

pub record Box : Type 0 where
  pub numbers : List ℕ
  pub listed : List Bool
  pub areas : List ℕ
  pub watch : List ℕ
  pub misses : List ℕ
  -- each array has its length, which C's types say
  pub each_number : length numbers ≡ 18
  pub whole : Whole listed areas watch misses

-- the station that a box holds
abbrev pub station_at : Box → Station
station_at box = station_in (core_in box.numbers) box.listed box.areas box.watch box.misses

-- the answer of a call, in numbers
abbrev pub answer_of : Station → Call → Answer
answer_of station (start settings) = switched_answer (start_of station settings).answer
answer_of station stop = switched_answer (stop_of station).answer
answer_of station tick = ticked_answer (tick_of station).answer
answer_of station (hear octets memory assembly) = heard_told octets (hear_of station octets memory assembly).answer
answer_of station (ask memory turn output) = asked_told (ask_of station memory turn output).output (ask_of station memory turn output).answer

-- An exported call on a box: the box after it, its answer, and the lent buffers after it.
pub record Done (before : Box) (call : Call) (left : Box) (answer : Answer) (buffers : List (List ℕ)) : Type 0 where
  pub core : core_in left.numbers ≡ core_of (after (station_at before) call)
  pub numbers : left.numbers ≡ kept before.numbers (core_of (after (station_at before) call))
  pub list : members_in left.listed left.areas left.watch left.misses ≡ (after (station_at before) call).members
  pub answered : answer ≡ answer_of (station_at before) call
  pub lends : buffers ≡ lent_after (station_at before) call
