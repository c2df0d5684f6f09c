-- A participant's view is its own number or a listed one, if it was so before: every call keeps this, but that who begins to participate from
-- joining can begin with another view, the last token destination heard. Assumes nothing.
use Rattle.std.specs.Prelude.{◌≡◌}
use Rattle.laws.specs.Usual.{true}
use Rattle.station.specs.Rules.State.{is_participating}
use Rattle.station.specs.States.ViewKept.{Known}
use Rattle.station.specs.Types.{Station}

-- a participant's view is its own number or a listed one
abbrev pub Seen : Station → Type 0
Seen station = is_participating station.phase ≡ true → Known station.own.number station.members station.view
