-- `boundary_reading::settings_in` meets its contract.
use borrow.Author.Rules.{rules}
use Rattle.boundary_reading.proofs.settings_in.Goals as goal

pub returns : goal.returns
returns c = rw (c.octet_of-2.ensures, c.octet_of.ensures, c.octets_of-4.ensures, c.octets_of-3.ensures, c.octets_of-2.ensures, c.octets_of.ensures)
