-- What a frame that passed refusals 7, 14, 15 and 8 is known to be. Assumes nothing.
use Rattle.std.specs.Prelude.{Ok, ◌≡◌, ◌+◌, ◌-◌, ◌≤◌}
use Rattle.laws.specs.Usual.{sym, ap, ◌∙◌, Bool, true, cond, List, ℕ, arith, length}
use Rattle.std.proofs.Common.{length-drop}
use Rattle.area.specs.Areas.{in_range, memory_octets}
use Rattle.block.specs.Blocks.{start_of}
use Rattle.block.specs.Cut.{within, fits}
use Rattle.frame.specs.Codes.{is_cyclic, carries_areas}
use Rattle.laws.specs.Tests.{implied}
use Rattle.frame_reading.specs.Reading.{blocked, read_body_of, data_size, data_of}
use Rattle.station.specs.Types.{Fields}
use Rattle.frame_round_trip.proofs.Accepted.{bodied}
use Rattle.frame_round_trip.proofs.Shown.{is_blocked, cyclic_carries}

-- reading a body gives the fields that it was given
pub body_read : (given : ℕ) (frame body : Fields) → read_body_of given frame ≡ Ok body → read_body_of given body ≡ Ok body
body_read given frame body e = ap (read_body_of given) (sym (bodied given frame body e).is_same) ∙ e

last_octets : (given size : ℕ) → 64 ≤ given - size → given - (given - size) ≡ size
last_octets given size h = omega arith

at_most : {block blocks total : ℕ} → blocks ≡ total → block ≤ blocks → block ≤ total
at_most e h = omega (arith, e)

room : (start : ℕ) {part size octets most : ℕ} → part ≡ size → start + size ≤ octets → octets ≤ most → start + part ≤ most
room start e h k = omega (arith, e)

module _ (octets : List ℕ) (frame : Fields) (read : read_body_of (length octets) frame ≡ Ok frame) (cyclic : is_cyclic frame.code ≡ true) where
  -- its areas are in range,
  pub in_range_lem : in_range frame.areas ≡ true
  in_range_lem =
      implied (carries_areas frame.code) (in_range frame.areas) (bodied (length octets) frame frame read).is_ranged
      (cyclic_carries frame.code cyclic)

  -- and its data fit the assembly buffer at their place
  pub data_fit : start_of frame.block + length (data_of octets frame) ≤ memory_octets
  data_fit =
      let facts = is_blocked (length octets) frame
      (implied (is_cyclic frame.code) (blocked (length octets) frame) (bodied (length octets) frame frame read).is_blocked cyclic) in
      let whole : data_size frame ≡ frame.size = ap (λ (t : Bool). cond t frame.size 0) cyclic in
      let part = length-drop (length octets - data_size frame) octets ∙ ap (λ (n : ℕ). length octets - (length octets - n)) whole
      ∙ last_octets (length octets) frame.size facts.least in
      let inside = within frame.areas frame.block (at_most facts.total facts.to) in
      room (start_of frame.block) (part ∙ facts.size) inside (fits frame.areas in_range_lem)
