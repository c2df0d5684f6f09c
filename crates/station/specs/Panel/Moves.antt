-- What a call does to the panel: a participant's tick counts, and then a taking ends the gap. Assumes nothing.
use Rattle.std.specs.Prelude.{◌≡◌, ◌<◌}
use Rattle.laws.specs.Usual.{Bool, true, false, cond}
use Rattle.block.specs.Blocks.{blocks_of}
use Rattle.panel.specs.Panel.{blank, ticked, after_taking}
use Rattle.station.specs.Panel.History.{participates, taking_by}
use Rattle.station.specs.Types.{Panel, Station}

-- a participant has a block of its turn left to send
abbrev pub Room : Station → Type 0
Room station = station.block < blocks_of station.own.areas

-- the panel before a taking in a step: blank where we begin to participate, else with the step's own tick
abbrev pub base : Station → Bool → Panel
base before ticks = cond (participates before) (cond ticks (ticked before.panel) before.panel) blank

-- what a step leaves a participant with
pub record Moved (before : Station) (ticks passed : Bool) (left : Station) : Type 0 where
  pub panel : left.panel ≡ cond (taking_by before passed left) (after_taking (base before ticks)) (base before ticks)
  pub room : Room left

-- a step keeps what holds of a participant, and the panel of anybody else blank
pub record Moves (before : Station) (ticks passed : Bool) (left : Station) : Type 0 where
  pub inside : (participates before ≡ true → Room before) → participates left ≡ true → Moved before ticks passed left
  pub outside : (participates before ≡ false → before.panel ≡ blank) → participates left ≡ false → left.panel ≡ blank
