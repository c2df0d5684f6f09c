-- The lengths of buffers that are lent right. Assumes nothing.
use Rattle.std.specs.Prelude.{◌≡◌, ◌&&◌, ◌≤◌}
use Rattle.laws.specs.Usual.{true, List, ℕ, length, eqb, leb}
use borrow.Author.Tests.{eqb-true, leb-true}
use Rattle.area.specs.Areas.{memory_octets}
use Rattle.laws.specs.Tests.{first, second}
use Rattle.station.specs.Rules.Asking.{lent_right}

pub record Lent (memory turn output : List ℕ) : Type 0 where
  pub memory_whole : length memory ≡ memory_octets
  pub turn_whole : length turn ≡ memory_octets
  pub room : 1088 ≤ length output

pub lent : (memory turn output : List ℕ) → lent_right memory turn output ≡ true → Lent memory turn output
lent memory turn output e =
    let memories = eqb (length memory) memory_octets in
    let turns = eqb (length turn) memory_octets in
    let room = leb 1088 (length output) in
    let both = first (memories && turns) room e in
    record {
      memory_whole = eqb-true (length memory) memory_octets (first memories turns both);
      turn_whole = eqb-true (length turn) memory_octets (second memories turns both);
      room = leb-true 1088 (length output) (second (memories && turns) room e);
    }
