-- Half a turn is never written: the turn that is written is what the assembly buffer held before the last block, and that block's octets
-- right behind it, just as many as the source's listed areas have. Assumes nothing.
use Rattle.std.specs.Prelude.{◌≡◌, ◌++◌, ◌+◌, ◌-◌, ◌≤◌}
use Rattle.laws.specs.Usual.{sym, ap, ◌∙◌, true, List, ℕ, arith, length, take, drop}
use Rattle.std.proofs.Common.{append_assoc, length-append, length-take, length-drop, take_at, eqb-true}
use Rattle.area.specs.Areas.{memory_octets}
use Rattle.block.specs.Blocks.{octets_of, blocks_of, start_of}
use Rattle.copying.specs.Pasted.{pasted}
use Rattle.frame.specs.Codes.{is_cyclic}
use Rattle.members.specs.Members.{entry_of}
use Rattle.frame_round_trip.proofs.Shown.{block_is, Blocked}
use Rattle.station.specs.Rules.Answers.{data_of}
use Rattle.station.specs.Rules.Data.{same_areas}
use Rattle.station.proofs.Outcomes.HearCases.{read_both}
use Rattle.station.specs.Rules.Hearing.{hear_of}
use Rattle.station.proofs.States.Sound.{sound}
use Rattle.station.proofs.States.KeepsEntering.{same_octets}
use Rattle.station.proofs.Memory.MemorySame.{memory_written, Whole}
use Rattle.station.specs.States.Reachable.{Reachable}
use Rattle.station.proofs.Memory.TurnWritten.{assembly_long}
use Rattle.station.specs.Types.{Areas, Fields, Station, Written, Token}
use Rattle.block.specs.Cut as cut
use Rattle.frame_reading.specs.Reading as reading
use Rattle.station.specs.declared.Heard.TheVariants as heard

-- the data of a cyclic frame
pub data_long : (octets : List ℕ) (frame : Fields) → is_cyclic frame.code ≡ true → 64 ≤ length octets - frame.size
    → length (reading.data_of octets frame) ≡ frame.size
data_long octets frame cyclic behind =
    let size : reading.data_size frame ≡ frame.size = rw cyclic in
    let all : length (reading.data_of octets frame) ≡ length octets - (length octets - reading.data_size frame) = length-drop (length octets - reading.data_size frame) octets in
    omega arith

-- what stands up to the end of what was put in
joined_long : (d s : List ℕ) (at end : ℕ) → at ≤ length d → at + length s ≡ end → length (take at d ++ s) ≡ end
joined_long d s at end h e = length-append (take at d) s ∙ rw (length-take at d) (omega arith)

pub taken_through : (d s : List ℕ) (at end : ℕ) → at ≤ length d → at + length s ≡ end → take end (pasted d at s) ≡ take at d ++ s
taken_through d s at end h e =
    ap (take end) (sym (append_assoc (take at d) s (drop (at + length s) d)))
    ∙ take_at (take at d ++ s) (drop (at + length s) d) end (joined_long d s at end h e)

pub below : (at s end all : ℕ) → at + s ≡ end → end ≤ memory_octets → all ≡ memory_octets → at ≤ all
below at s end all e h l = omega arith

-- the last block ends with the turn
ends : {given : ℕ} (frame : Fields) (listed : Areas) (s : List ℕ) → Blocked given frame → frame.block ≡ frame.blocks
    → same_areas frame.areas listed ≡ true → length s ≡ frame.size → start_of frame.block + length s ≡ octets_of listed
ends frame listed s facts last alike long =
    let block : frame.block ≡ blocks_of frame.areas = last ∙ facts.total in
    let turn = cut.last frame.areas in
    rw (long, facts.size, block) turn ∙ same_octets frame.areas listed alike

-- In every state that calls can leave, where a frame is answered with "written" the octets of its turn are those that the assembly buffer held
-- of the blocks before it, and its own data behind them: all of the turn's octets, no more and no fewer.
pub turn_joined : (station : Station) → Reachable station → (octets memory assembly : List ℕ) (token : Token)
    → (hear_of station octets memory assembly).answer ≡ heard.Cyclic token → data_of token ≡ Written
    → (frame : Fields) × Whole station octets memory assembly frame
    × (length (take (start_of frame.block) assembly ++ reading.data_of octets frame) ≡ octets_of (entry_of station.members frame.source).areas)
    × (take (octets_of (entry_of station.members frame.source).areas) (hear_of station octets memory assembly).assembly
    ≡ take (start_of frame.block) assembly ++ reading.data_of octets frame)
turn_joined station reached octets memory assembly token e w =
    let found = memory_written station octets memory assembly token e w in
    let frame : Fields = found.0 in
    let whole : Whole station octets memory assembly frame = found.1 in
    let stored = found.2 in
    let facts = block_is (read_both octets frame whole.header whole.body) whole.cyclic in
    let ranged = ((sound station reached).list.each frame.source whole.listed).areas in
    let listed : Areas = (entry_of station.members frame.source).areas in
    let ended = ends frame listed (reading.data_of octets frame) facts (eqb-true frame.block frame.blocks whole.last) whole.areas
    (data_long octets frame whole.cyclic facts.least) in
    let long = assembly_long memory assembly whole.lent in
    let room = cut.fits listed ranged in
    let start : start_of frame.block ≤ length assembly = below (start_of frame.block) _ _ _ ended room long in (
      frame,
      whole,
      joined_long assembly (reading.data_of octets frame) (start_of frame.block) (octets_of listed) start ended,
      ap (take (octets_of listed)) stored ∙ taken_through assembly (reading.data_of octets frame) (start_of frame.block) (octets_of listed) start ended,
    )
