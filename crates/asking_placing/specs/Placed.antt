-- A place inside our turn: its next block is one of at most seventeen. Assumes nothing.
use Rattle.std.specs.Prelude.{◌≡◌, ◌+◌, ◌*◌, ◌≤◌}
use Rattle.laws.specs.Usual.{refl, Bool, true, false, ℕ, arith, eqb, leb, ltb}
use Rattle.std.proofs.Common.{ltb-true, eqb-true, le-leb}
use Rattle.std.proofs.lemmas.Bool.{eqb-false, lt-leb}
use Rattle.area.specs.Areas.{in_range, memory_octets}
use Rattle.area.specs.declared.Areas.{Areas}
use Rattle.station.specs.Rules.Asking.{placed_in, last_in}
use Rattle.block.specs.Blocks.{blocks_of, length_of}
use Rattle.block.specs.Cut.{seventeen, within, fits}
use Rattle.laws.specs.Tests.{first, second}

module _ (areas : Areas) (block : ℕ) where
  pub record Placed : Type 0 where
    pub ranged : in_range areas ≡ true
    pub next : block + 1 ≤ blocks_of areas
    pub few : blocks_of areas ≤ 17
    -- the block ends inside the common memory
    pub ends : 1024 * block + length_of areas (block + 1) ≤ memory_octets

  pub placed : placed_in areas block ≡ true → Placed
  placed e =
      let ranged = first (in_range areas) (ltb block (blocks_of areas)) e in
      let place = ltb-true block (blocks_of areas) (second (in_range areas) (ltb block (blocks_of areas)) e) in
      let end = within areas (block + 1) (omega arith) in
      let whole = fits areas ranged in
      record { ranged = ranged; next = omega arith; few = seventeen areas ranged; ends = omega arith }

at_most_equal : (n m : ℕ) → n ≤ m → leb m n ≡ eqb n m
at_most_equal n m h = by (eqb n m) refl
  where
    by : (test : Bool) → eqb n m ≡ test → leb m n ≡ test
    by true e = le-leb m n (omega (arith, eqb-true n m e))
    by false e = lt-leb m n (omega (arith, eqb-false n m e))

-- the last block has the number of the blocks
pub last_equal : (areas : Areas) (block : ℕ) → placed_in areas block ≡ true → last_in areas block ≡ eqb (block + 1) (blocks_of areas)
last_equal areas block e = at_most_equal (block + 1) (blocks_of areas) (placed areas block e).next
