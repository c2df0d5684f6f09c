-- What the panel of a state shows (paper 01, "The panel").
use Rattle.std.specs.Prelude.{cond}
use Rattle.panel.specs.Panel.{figure_of}
use Rattle.panel.specs.declared.Figure.TheVariants.{Nothing}
use Rattle.station.specs.Rules.State.{is_participating}
use Rattle.station.specs.Types.{Figure, Station}

-- "when we don't participate, `--`", else what the counters show
abbrev pub figure_shown : Station → Figure
figure_shown station = cond (is_participating station.phase) (figure_of station.panel) Nothing
