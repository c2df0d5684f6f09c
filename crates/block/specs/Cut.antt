-- How the blocks cut a turn. Assumes nothing.
use Rattle.std.specs.Prelude.{◌≡◌, ◌+◌, ◌<◌, ◌≤◌}
use Rattle.laws.specs.Usual.{true, ℕ, arith}
use Rattle.std.proofs.Common.{leb-true}
use Rattle.laws.specs.Tests.{first, second}
use Rattle.area.specs.Areas.{in_area, in_range, memory_octets}
use Rattle.block.specs.Blocks.{octets_of, blocks_of, start_of, length_of}
use Rattle.area.specs.declared.Area.TheVariants.{One, Two}
use Rattle.area.specs.declared.Areas.{Areas}

module _ (areas : Areas) where
  -- every block but the last is whole
  pub whole : (block : ℕ) → 1 ≤ block → block < blocks_of areas → length_of areas block ≡ 1024
  whole block p q = omega arith

  -- the last one ends with the turn
  pub last : start_of (blocks_of areas) + length_of areas (blocks_of areas) ≡ octets_of areas
  last = omega arith

  -- each block starts where the one before it ends
  pub joined : (block : ℕ) → 1 ≤ block → block < blocks_of areas → start_of block + length_of areas block ≡ start_of (block + 1)
  joined block p q = omega arith

  -- no block goes past the turn
  pub within : (block : ℕ) → block ≤ blocks_of areas → start_of block + length_of areas block ≤ octets_of areas
  within block h = omega arith

  pub at_most : (block : ℕ) → length_of areas block ≤ 1024
  at_most block = omega arith

  -- a turn of areas in range fits the common memory, and has at most 17 blocks
  pub fits : in_range areas ≡ true → octets_of areas ≤ memory_octets
  fits e =
      let p = leb-true (areas.one.address + areas.one.size) 512 (first (in_area One areas.one) (in_area Two areas.two) e) in
      let q = leb-true (areas.two.address + areas.two.size) 8192 (second (in_area One areas.one) (in_area Two areas.two) e) in
      omega arith

  pub seventeen : in_range areas ≡ true → blocks_of areas ≤ 17
  seventeen e = let h = fits e in omega arith
