-- The answer of `outcome_of` by our number and our view alone: the rest of a station does not matter to it.
use Rattle.std.specs.Prelude.{◌≡◌}
use Rattle.laws.specs.Usual.{refl, cond, not, ℕ, eqb}
use Rattle.frame.specs.Codes.{is_token}
use Rattle.station.specs.Rules.Token.{takes, view_heard, outcome_of}
use Rattle.frame.specs.declared.Fields.{Fields}
use Rattle.station.specs.declared.Station.{Station}
use Rattle.station.specs.declared.Data.{Data}
use Rattle.station.specs.declared.Token.{Token}
use Rattle.station.specs.declared.Token.TheVariants.{None, PassedOn, OursNow, RivalPassedOver, RivalWon}

abbrev pub outcome_by : ℕ → ℕ → Fields → Data → Token
outcome_by own before frame outcome =
    cond (not (is_token frame.code)) (None outcome)
    (cond (takes own before (view_heard before frame)) (OursNow outcome)
    (cond (eqb frame.source before) (PassedOn outcome)
    (cond (not (eqb (view_heard before frame) before)) (RivalWon outcome)
    (RivalPassedOver outcome))))

pub same_outcome : (station : Station) (frame : Fields) (outcome : Data)
    → outcome_of station frame outcome ≡ outcome_by station.own.number station.view frame outcome
same_outcome station frame outcome = refl
