-- `boundary_reading::read` meets its contract.
use borrow.Author.Rules.{rules}
use Rattle.boundary_places.specs.Places.{core_in}
use Rattle.boundary_reading.proofs.read.Goals as goal

pub returns : goal.returns
unfolding core_in
returns c = rw (c.flag_of.ensures, c.octet_of-3.ensures, c.octet_of-2.ensures, c.octet_of.ensures, c.phase_in.ensures, c.gathering_in-gathering.ensures, c.panel_in-panel.ensures, c.settings_in-own.ensures)
