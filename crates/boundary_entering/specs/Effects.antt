-- What a frame of each code does in each phase, but for a participant's cyclic frames, by what becomes of the list.
use Rattle.std.specs.Prelude.{◌≡◌}
use Rattle.laws.specs.Usual.{refl}
use Rattle.frame.specs.declared.Code.TheVariants.{Token, Cyclic, Request, Trigger}
use Rattle.station.specs.Rules.Hearing.{requested, enters}
use Rattle.station.specs.Rules.Starting.{joined_by}
use Rattle.station.specs.Rules.State.{fresh}
use Rattle.station.specs.Types.{Fields, Code}
use Rattle.station.specs.declared.Phase.{Phase}
use Rattle.station.specs.declared.Phase.TheVariants.{Off, Listening, Startup, Joining, Participating}
use Rattle.station.specs.declared.Station.{Station}
use Rattle.boundary_entering.specs.declared.Effect.{Effect}
use Rattle.boundary_entering.specs.declared.Effect.TheVariants.{Nothing, Listed, Learned, Triggered, Joined}

abbrev pub effect_of : Phase → Code → Effect
effect_of Off code = Nothing
effect_of Listening Token = Joined
effect_of Listening Cyclic = Nothing
effect_of Listening Request = Nothing
effect_of Listening Trigger = Triggered
effect_of Startup Token = Joined
effect_of Startup Cyclic = Nothing
effect_of Startup Request = Listed
effect_of Startup Trigger = Nothing
effect_of Joining Token = Learned
effect_of Joining Cyclic = Learned
effect_of Joining Request = Nothing
effect_of Joining Trigger = Nothing
effect_of Participating Token = Nothing
effect_of Participating Cyclic = Nothing
effect_of Participating Request = Listed
effect_of Participating Trigger = Nothing

-- the station after it
abbrev pub after_effect : Effect → Station → Fields → Station
after_effect Nothing station frame = station
after_effect Listed station frame = requested station frame
after_effect Learned station frame = joined_by station frame
after_effect Triggered station frame = fresh Startup station.own
after_effect Joined station frame = joined_by (fresh Joining station.own) frame

-- these are the rules
pub enters_by : (phase : Phase) (code : Code) (station : Station) (frame : Fields)
    → enters phase code station frame ≡ after_effect (effect_of phase code) station frame
enters_by Off code station frame = refl
enters_by Listening Token station frame = refl
enters_by Listening Cyclic station frame = refl
enters_by Listening Request station frame = refl
enters_by Listening Trigger station frame = refl
enters_by Startup Token station frame = refl
enters_by Startup Cyclic station frame = refl
enters_by Startup Request station frame = refl
enters_by Startup Trigger station frame = refl
enters_by Joining Token station frame = refl
enters_by Joining Cyclic station frame = refl
enters_by Joining Request station frame = refl
enters_by Joining Trigger station frame = refl
enters_by Participating Token station frame = refl
enters_by Participating Cyclic station frame = refl
enters_by Participating Request station frame = refl
enters_by Participating Trigger station frame = refl
