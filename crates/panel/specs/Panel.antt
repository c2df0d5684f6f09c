-- Paper 01, "The panel": "Ticks from one taking of the token to our next, shown in tenths: 63 shows `6.3`, 5 shows `0.5`." "Taking" is the
-- paper's own term for a step that gives us the token.
use Rattle.std.specs.Prelude.{◌∷◌, ◌++◌, ◌+◌, ◌-◌, ◌/◌, ◌%◌}
use Rattle.laws.specs.Usual.{Bool, cond, List, [], ℕ, min, length, replicate, ltb}
use Rattle.text.specs.Decimal.{decimal_of}
use Rattle.units.specs.declared.Ticks.{Ticks}
use Rattle.panel.specs.declared.Figure.{Figure}
use Rattle.panel.specs.declared.Figure.TheVariants.{Nothing, Over, Gap}
use Rattle.panel.specs.declared.Panel.{Panel}
use Rattle.panel.specs.declared.Text.{Text}

-- no taking yet
abbrev pub blank : Panel
blank = record { takings = 0; running = record { 0 = 0 }; gap = record { 0 = 0 } }

-- a count of ticks stops at 65,536, which is already over
abbrev pub counted : ℕ → ℕ
counted ticks = min 65536 (ticks + 1)

abbrev pub ticked : Panel → Panel
ticked panel = record { takings = panel.takings; running = record { 0 = counted panel.running.0 }; gap = panel.gap }

-- a taking ends one gap and starts the next
abbrev pub after_taking : Panel → Panel
after_taking panel = record { takings = min 2 (panel.takings + 1); running = record { 0 = 0 }; gap = panel.running }

-- "above 65,535 ticks `OVER`"
abbrev pub is_over : Ticks → Bool
is_over gap = ltb 65535 gap.0

-- "With fewer than two takings since we last began to participate .. `--`"
abbrev pub figure_of : Panel → Figure
figure_of panel = cond (ltb panel.takings 2) Nothing (cond (is_over panel.gap) Over (Gap panel.gap))

abbrev pub over_text : List ℕ
over_text = 0x4f ∷ 0x56 ∷ 0x45 ∷ 0x52 ∷ []

-- "shown in tenths"
abbrev pub tenths_text : Ticks → List ℕ
tenths_text gap = decimal_of (gap.0 / 10) ++ (0x2e ∷ decimal_of (gap.0 % 10))

-- a gap that is over has this text too, though no panel shows it as a gap
abbrev pub gap_text : Ticks → List ℕ
gap_text gap = cond (is_over gap) over_text (tenths_text gap)

-- the text of a figure, in ASCII
abbrev pub text_of : Figure → List ℕ
text_of Nothing = 0x2d ∷ 0x2d ∷ []
text_of Over = over_text
text_of (Gap gap) = gap_text gap

-- a text as it is handed on: in front of six octets, zeros behind it, and its length
abbrev pub in_six : List ℕ → Text
in_six text = record { octets = text ++ replicate (6 - length text) 0; length = length text }

abbrev pub shown : Figure → Text
shown figure = in_six (text_of figure)
