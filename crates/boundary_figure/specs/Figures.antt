-- What the panel shows, as numbers. The kinds of figure are numbered here.
use Rattle.laws.specs.Usual.{cond, ℕ}
use Rattle.panel.specs.Panel.{is_over, shown}
use Rattle.panel.specs.declared.Figure.{Figure}
use Rattle.panel.specs.declared.Figure.TheVariants.{Nothing, Over, Gap}
use Rattle.units.specs.declared.Ticks.{Ticks}
use Rattle.boundary_figure.specs.declared.Shown.{Shown}

-- the kinds of figure: `--`, `OVER`, a gap. A gap "above 65,535 ticks", which no panel shows, is over.
abbrev pub gap_kind : Ticks → ℕ
gap_kind gap = cond (is_over gap) 1 2

abbrev pub kind_of : Figure → ℕ
kind_of Nothing = 0
kind_of Over = 1
kind_of (Gap gap) = gap_kind gap

abbrev pub gap_ticks : Ticks → ℕ
gap_ticks gap = cond (is_over gap) 0 gap.0

abbrev pub ticks_of : Figure → ℕ
ticks_of Nothing = 0
ticks_of Over = 0
ticks_of (Gap gap) = gap_ticks gap

abbrev pub figure_numbers : Figure → Shown
figure_numbers figure = record { kind = kind_of figure; ticks = ticks_of figure; octets = (shown figure).octets; length = (shown figure).length }
