-- What demand 3 leaves out of its lists, a third miss running, is said alike by the list that a station carries and by the history. Assumes
-- nothing.
use Rattle.std.specs.Prelude.{◌&&◌}
use Rattle.laws.specs.Usual.{[], Bool}
use Rattle.members.specs.Members.{is_listed, strikes}
use Rattle.station.specs.declared.Station.{Station}

-- what the list says of the station in view, as `CanCome` of the ring asks it
abbrev pub strikes_in_view : Station → Bool
strikes_in_view station = is_listed station.members station.view && strikes station.members station.view
