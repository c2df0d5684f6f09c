-- Every frame that a station sends reads back to just the fields that were meant. Assumes nothing.
use Rattle.std.specs.Prelude.{Ok, ◌≡◌, ◌+◌, ◌≤◌}
use Rattle.laws.specs.Usual.{[], refl, ap, ◌∙◌, Bool, true, false, cond, false≢true, List, ℕ, length, eqb}
use Rattle.std.proofs.Common.{le_refl}
use Rattle.area.specs.Areas.{in_range}
use Rattle.block.specs.Blocks.{blocks_of, length_of}
use Rattle.area.specs.declared.Areas.{Areas}
use Rattle.frame.specs.Codes.{is_cyclic, carries_areas}
use Rattle.frame.specs.declared.Code.TheVariants.{Token, Cyclic}
use Rattle.frame.specs.declared.Fields.{Fields}
use Rattle.frame_reading.specs.Reading.{is_station, read_of, data_size}
use Rattle.units.specs.declared.Milliseconds.{Milliseconds}
use Rattle.frame_round_trip.proofs.ReadBack.{fields_read}
use Rattle.frame_round_trip.specs.ReadBack.{Sendable}
use Rattle.frame_round_trip.specs.Sent.{block_fields, request_fields, trigger_fields}
use Rattle.frame_writing.specs.Writing.{fixed_for, fixed, frame_of}

-- a cyclic frame whose TFL is right has nothing fixed otherwise
fixed_cyclic : (fields : Fields) → is_cyclic fields.code ≡ true → carries_areas fields.code ≡ true → 64 + fields.size ≡ fields.length → fixed fields ≡ fields
unfolding fixed_for
fixed_cyclic fields p q long = simp (p, q, long)

block_cyclic : (test : Bool) → is_cyclic (cond test Token Cyclic) ≡ true
block_cyclic true = refl
block_cyclic false = refl

block_areas : (test : Bool) → carries_areas (cond test Token Cyclic) ≡ true
block_areas true = refl
block_areas false = refl

-- a block's frame has the values that the code fixes, and carries as much data as the block is long
module _ (source next : ℕ) (areas : Areas) (watch : Milliseconds) (block : ℕ) where
  pub block_fixed : fixed (block_fields source next areas watch block) ≡ block_fields source next areas watch block
  block_fixed =
      fixed_cyclic (block_fields source next areas watch block) (block_cyclic (eqb block (blocks_of areas))) (block_areas (eqb block (blocks_of areas))) refl

  pub block_size : data_size (block_fields source next areas watch block) ≡ length_of areas block
  block_size = ap (λ (test : Bool). cond test (length_of areas block) 0) (block_cyclic (eqb block (blocks_of areas)))

-- a frame is read as its fields where these are as the code fixes them
same_back : (fields : Fields) (block : List ℕ) → Sendable fields → data_size fields ≤ length block → fixed fields ≡ fields → read_of (frame_of fields block) ≡ Ok fields
same_back fields block ok enough e = fields_read fields block ok enough ∙ ap Ok e

module _ (source : ℕ) (is_source : is_station source ≡ true) where
  trigger_sendable : Sendable (trigger_fields source)
  trigger_sendable = record {
    source = is_source;
    destination = λ e. absurd (false≢true e);
    areas = λ e. absurd (false≢true e);
    total = λ e. absurd (false≢true e);
    first = λ e. absurd (false≢true e);
    last = λ e. absurd (false≢true e);
    size = λ e. absurd (false≢true e);
  }

  pub trigger_back : read_of (frame_of (trigger_fields source) []) ≡ Ok (trigger_fields source)
  unfolding fixed_for
  trigger_back = same_back (trigger_fields source) [] trigger_sendable (le_refl 0) refl

  module _ (areas : Areas) (in_range_lem : in_range areas ≡ true) (watch : Milliseconds) where
    request_sendable : Sendable (request_fields source areas watch)
    request_sendable = record {
      source = is_source;
      destination = λ e. absurd (false≢true e);
      areas = λ e. in_range_lem;
      total = λ e. absurd (false≢true e);
      first = λ e. absurd (false≢true e);
      last = λ e. absurd (false≢true e);
      size = λ e. absurd (false≢true e);
    }

    pub request_back : read_of (frame_of (request_fields source areas watch) []) ≡ Ok (request_fields source areas watch)
    unfolding fixed_for
    request_back = same_back (request_fields source areas watch) [] request_sendable (le_refl 0) refl

    module _ (next : ℕ) (is_next : is_station next ≡ true) (block : ℕ) (first : 1 ≤ block) (last : block ≤ blocks_of areas) where
      block_sendable : Sendable (block_fields source next areas watch block)
      block_sendable = record {
        source = is_source;
        destination = λ e. is_next;
        areas = λ e. in_range_lem;
        total = λ e. refl;
        first = λ e. first;
        last = λ e. last;
        size = λ e. refl;
      }

      module _ (octets : List ℕ) (enough : length_of areas block ≤ length octets) where
        pub block_back : read_of (frame_of (block_fields source next areas watch block) octets) ≡ Ok (block_fields source next areas watch block)
        block_back =
            same_back (block_fields source next areas watch block) octets block_sendable (rw (block_size source next areas watch block) enough)
            (block_fixed source next areas watch block)
