-- The fields of the frames that a station sends.
use Rattle.std.specs.Prelude.{◌+◌}
use Rattle.laws.specs.Usual.{cond, ℕ, eqb}
use Rattle.block.specs.Blocks.{blocks_of, length_of}
use Rattle.area.specs.declared.Areas.{Areas}
use Rattle.frame.specs.Positions.{header_length}
use Rattle.frame.specs.declared.Code.TheVariants.{Token, Cyclic, Request, Trigger}
use Rattle.frame.specs.declared.Fields.{Fields}
use Rattle.units.specs.declared.Milliseconds.{Milliseconds}
use Rattle.frame_writing.specs.Writing.{everyone, request_size, no_areas, no_watch}

-- "A holder sends its blocks in order .. The last is code 65000 to next": block number `block` of a turn
abbrev pub block_fields : ℕ → ℕ → Areas → Milliseconds → ℕ → Fields
block_fields source next areas watch block = record {
  length = header_length + length_of areas block;
  source = source;
  destination = next;
  code = cond (eqb block (blocks_of areas)) Token Cyclic;
  areas = areas;
  block = block;
  blocks = blocks_of areas;
  size = length_of areas block;
  watch = watch;
}

-- our participation request
abbrev pub request_fields : ℕ → Areas → Milliseconds → Fields
request_fields source areas watch = record {
  length = header_length;
  source = source;
  destination = everyone;
  code = Request;
  areas = areas;
  block = 0;
  blocks = 0;
  size = request_size;
  watch = watch;
}

-- our trigger
abbrev pub trigger_fields : ℕ → Fields
trigger_fields source = record {
  length = header_length;
  source = source;
  destination = everyone;
  code = Trigger;
  areas = no_areas;
  block = 0;
  blocks = 0;
  size = request_size;
  watch = no_watch;
}
