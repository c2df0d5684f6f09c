-- Laws of the panel's text. Assumes nothing.
use Rattle.std.specs.Prelude.{◌≡◌, ◌∷◌, ◌-◌}
use Rattle.laws.specs.Usual.{refl, [], length, take, replicate}
use Rattle.std.proofs.Math.Seq.{take-append_seam}
use Rattle.text.specs.Decimal.{decimal_at}
use Rattle.panel.specs.Panel.{text_of, shown}
use Rattle.panel.specs.declared.Figure.{Figure}
use Rattle.panel.specs.declared.Figure.TheVariants.{Gap}

-- "63 shows `6.3`, 5 shows `0.5`"
pub sixty_three : text_of (Gap (record { 0 = 63 })) ≡ 0x36 ∷ 0x2e ∷ 0x33 ∷ []
unfolding decimal_at
sixty_three = refl

pub five : text_of (Gap (record { 0 = 5 })) ≡ 0x30 ∷ 0x2e ∷ 0x35 ∷ []
unfolding decimal_at
five = refl

-- the octets that are shown are the text
pub shown_text : (figure : Figure) → take (shown figure).length (shown figure).octets ≡ text_of figure
shown_text figure = take-append_seam (text_of figure) (replicate (6 - length (text_of figure)) 0)
