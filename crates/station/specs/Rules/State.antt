-- The state of a station: at the beginning of each phase, and with some of its parts changed.
use Rattle.laws.specs.Usual.{Bool, true, false, cond, ℕ, eqb}
use Rattle.members.specs.Members.{no_members}
use Rattle.panel.specs.Panel.{blank, after_taking}
use Rattle.frame_writing.specs.Writing.{no_areas, no_watch}
use Rattle.station.specs.Types.{Ticks, Members, Panel, Settings, Phase, Off, Listening, Startup, Joining, Participating, Gathering, Station}

abbrev pub is_off : Phase → Bool
is_off Off = true
is_off Listening = false
is_off Startup = false
is_off Joining = false
is_off Participating = false

abbrev pub is_participating : Phase → Bool
is_participating Off = false
is_participating Listening = false
is_participating Startup = false
is_participating Joining = false
is_participating Participating = true

abbrev pub no_ticks : Ticks
no_ticks = record { 0 = 0 }

-- nothing gathered
abbrev pub nothing : Gathering
nothing = record { source = 0; blocks = 0 }

-- a phase that begins "with an empty list", and with nothing left of what was before
abbrev pub fresh : Phase → Settings → Station
fresh phase own = record {
  phase = phase;
  own = own;
  members = no_members;
  elapsed = no_ticks;
  waited = no_ticks;
  rounds = 0;
  sent = false;
  view = 0;
  block = 0;
  gathering = nothing;
  panel = blank;
}

-- "Stop turns off, empties the list and drops what was gathered." It forgets everything but the number last started with.
abbrev pub stopped : Station → Station
stopped station = fresh Off (record { number = station.own.number; areas = no_areas; watch = no_watch })

-- a station that was never started
abbrev pub never : Station
never = fresh Off (record { number = 0; areas = no_areas; watch = no_watch })

-- "Each participant has a view: the number it takes to be the holder. It holds when the view is its own number." (The paper's word: view.)
abbrev pub holds : Station → Bool
holds station = eqb station.view station.own.number

-- we begin to participate. The watch: "It starts afresh when we begin to participate." To begin "with our own number in view" is a taking.
abbrev pub begun : Settings → Members → ℕ → Station
begun own members view = record {
  phase = Participating;
  own = own;
  members = members;
  elapsed = no_ticks;
  waited = no_ticks;
  rounds = 0;
  sent = false;
  view = view;
  block = 0;
  gathering = nothing;
  panel = cond (eqb view own.number) (after_taking blank) blank;
}

-- A state with some of its parts changed. Whatever makes a state of a state goes by these, so that each part is named here once.

-- a station with its counts of ticks, its own settings and its panel changed
abbrev pub counted : Station → Settings → Ticks → Ticks → Panel → Station
counted station own elapsed waited panel = record {
  phase = station.phase;
  own = own;
  members = station.members;
  elapsed = elapsed;
  waited = waited;
  rounds = station.rounds;
  sent = station.sent;
  view = station.view;
  block = station.block;
  gathering = station.gathering;
  panel = panel;
}

-- a station with a list and a gathering
abbrev pub relisted : Station → Members → Gathering → Station
relisted station members gathering = record {
  phase = station.phase;
  own = station.own;
  members = members;
  elapsed = station.elapsed;
  waited = station.waited;
  rounds = station.rounds;
  sent = station.sent;
  view = station.view;
  block = station.block;
  gathering = gathering;
  panel = station.panel;
}

-- a startup in which our request has been sent
abbrev pub request_sent : Station → Station
request_sent station = record {
  phase = station.phase;
  own = station.own;
  members = station.members;
  elapsed = station.elapsed;
  waited = station.waited;
  rounds = station.rounds;
  sent = true;
  view = station.view;
  block = station.block;
  gathering = station.gathering;
  panel = station.panel;
}

-- joining, with what a frame taught it: the list, the token detection wait, the rounds and the last token destination
abbrev pub learned : Station → Members → Ticks → ℕ → ℕ → Station
learned station members elapsed rounds view = record {
  phase = Joining;
  own = station.own;
  members = members;
  elapsed = elapsed;
  waited = station.waited;
  rounds = rounds;
  sent = false;
  view = view;
  block = 0;
  gathering = station.gathering;
  panel = station.panel;
}

-- a participant whose watch restarts, with another list, view, place in its turn, gathering and panel
abbrev pub moved : Station → Members → ℕ → ℕ → Gathering → Panel → Station
moved station members view block gathering panel = record {
  phase = Participating;
  own = station.own;
  members = members;
  elapsed = no_ticks;
  waited = station.waited;
  rounds = station.rounds;
  sent = station.sent;
  view = view;
  block = block;
  gathering = gathering;
  panel = panel;
}
