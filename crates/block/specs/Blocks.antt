-- Paper 01, "Frame fields used": the blocks of a turn. "A turn's data are the station's area 1 then its area 2, cut into blocks of 1024,
-- the last one shorter or equal. An empty turn is one block of 0. Blocks count from 1."
use Rattle.std.specs.Prelude.{ℕ, ◌+◌, ◌-◌, ◌*◌, ◌/◌, min, max}
use Rattle.area.specs.declared.Areas.{Areas}

-- the octets of a turn, two for each word
abbrev pub octets_of : Areas → ℕ
octets_of areas = 2 * (areas.one.size + areas.two.size)

-- the number of blocks, TBN
abbrev pub blocks_of : Areas → ℕ
blocks_of areas = max 1 ((octets_of areas + 1023) / 1024)

-- where block number `block` starts in the turn
abbrev pub start_of : ℕ → ℕ
start_of block = 1024 * (block - 1)

-- the length of block number `block`, BSIZE: up to the next block or to the end of the turn; 0 for a number that no block has
abbrev pub length_of : Areas → ℕ → ℕ
length_of areas block = min (1024 * block) (octets_of areas) - start_of block
