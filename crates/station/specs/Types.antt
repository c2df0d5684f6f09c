-- The types that the rules and the theorems speak of, handed on from where they are declared, so that one line brings them. (Another crate takes
-- those of `station` itself from `declared`: a crate hands on to others only what it has from others.)
use Rattle.std.specs.Prelude.{Result, ℕ}
pub use Rattle.units.specs.declared.Ticks.{Ticks}
pub use Rattle.units.specs.declared.Milliseconds.{Milliseconds}
pub use Rattle.area.specs.declared.Areas.{Areas}
pub use Rattle.area.specs.declared.Part.{Part}
pub use Rattle.frame.specs.declared.Fields.{Fields}
pub use Rattle.frame.specs.declared.Code.{Code}
pub use Rattle.frame.specs.declared.Refusal.{Refusal}
pub use Rattle.frame_reading.specs.Reading.{Read}
pub use Rattle.members.specs.declared.Entry.{Entry}
pub use Rattle.members.specs.declared.Members.{Members}
pub use Rattle.panel.specs.declared.Panel.{Panel}
pub use Rattle.panel.specs.declared.Figure.{Figure}
pub use Rattle.station.specs.declared.Settings.{Settings}
pub use Rattle.station.specs.declared.Phase.{Phase}
pub use Rattle.station.specs.declared.Phase.TheVariants.{Off, Listening, Startup, Joining, Participating}
pub use Rattle.station.specs.declared.Gathering.{Gathering}
pub use Rattle.station.specs.declared.Station.{Station}
pub use Rattle.station.specs.declared.Data.{Data}
pub use Rattle.station.specs.declared.Data.TheVariants.{Kept, Written, Dropped, Repeat}
pub use Rattle.station.specs.declared.Token.{Token}
pub use Rattle.station.specs.declared.Ticked.{Ticked}
pub use Rattle.station.specs.declared.Heard.{Heard}

-- what start and stop answer
abbrev pub Switched : Type 0
Switched = Result (Unit {0}) Refusal

-- what asking answers: the octets of the frame that was written, or why there is none
abbrev pub Asked : Type 0
Asked = Result ℕ Refusal
