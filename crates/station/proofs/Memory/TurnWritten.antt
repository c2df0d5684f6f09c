-- The common memory octet by octet, where hearing a frame is answered with "written": the source's listed areas hold one whole turn, as the
-- call leaves it in the assembly buffer, and every other octet is the same. Assumes nothing.
use Rattle.std.specs.Prelude.{◌≡◌, ◌+◌, ◌-◌, ◌*◌, ◌<◌, ◌≤◌}
use Rattle.laws.specs.Usual.{ap, ◌∙◌, true, List, ℕ, min, arith, length, get_or, eqb}
use Rattle.std.proofs.Common.{length-append, length-take, length-drop, eqb-true}
use Rattle.laws.specs.Tests.{second}
use Rattle.area.specs.Areas.{span_of, memory_octets}
use Rattle.area.specs.declared.Area.TheVariants.{One, Two}
use Rattle.block.specs.Blocks.{start_of}
use Rattle.copying.specs.Pasted.{pasted}
use Rattle.members.specs.Members.{entry_of}
use Rattle.station.specs.Rules.Answers.{data_of}
use Rattle.station.specs.Rules.Hearing.{lent_right, hear_of}
use Rattle.station.proofs.States.Sound.{sound}
use Rattle.station.proofs.Memory.MemorySame.{Whole, memory_written}
use Rattle.station.proofs.Memory.OursKept.{InAreas, in_one, in_two, memory_long}
use Rattle.station.proofs.Memory.Places.{written_length, written_outside, written_one, written_two}
use Rattle.station.specs.States.Reachable.{Reachable}
use Rattle.station.specs.Types.{Areas, Fields, Station, Written, Token}
use Rattle.frame_reading.specs.Reading as reading
use Rattle.station.specs.declared.Heard.TheVariants as heard

-- the memory after holds the turn in these areas, and is the memory before elsewhere
pub record Turned (areas : Areas) (turn before after : List ℕ) : Type 0 where
  -- it is as long
  pub long : length after ≡ length before
  -- area 1 comes first in the turn
  pub one : (i : ℕ) → i < 2 * areas.one.size → get_or after ((span_of One areas.one).start + i) 0 ≡ get_or turn i 0
  -- area 2 behind it
  pub two : (i : ℕ) → i < 2 * areas.two.size → get_or after ((span_of Two areas.two).start + i) 0 ≡ get_or turn (2 * areas.one.size + i) 0
  -- and nothing else is altered
  pub rest : (at : ℕ) → (InAreas areas at → ⊥) → get_or after at 0 ≡ get_or before at 0

-- what was put in leaves no list shorter
pasted_long : (d s : List ℕ) (at : ℕ) → length d ≤ length (pasted d at s)
pasted_long d s at =
    let all : length (pasted d at s) ≡ min at (length d) + (length s + (length d - (at + length s))) =
    simp (length-append, length-take, length-drop) in
    omega arith

pub assembly_long : (memory assembly : List ℕ) → lent_right memory assembly ≡ true → length assembly ≡ memory_octets
assembly_long memory assembly e = eqb-true (length assembly) 17408 (second (eqb (length memory) 17408) (eqb (length assembly) 17408) e)

still_long : (assembly turn s : List ℕ) (at : ℕ) → length assembly ≡ memory_octets → turn ≡ pasted assembly at s → memory_octets ≤ length turn
still_long assembly turn s at long e =
    let l = pasted_long assembly s at in
    let alike : length turn ≡ length (pasted assembly at s) = ap length e in
    omega arith

-- In every state that calls can leave, "written" means that just the source's listed areas hold one whole turn, and nothing else is altered.
pub turn_written : (station : Station) → Reachable station → (octets memory assembly : List ℕ) (token : Token)
    → (hear_of station octets memory assembly).answer ≡ heard.Cyclic token → data_of token ≡ Written
    → (frame : Fields) × Whole station octets memory assembly frame
    × Turned (entry_of station.members frame.source).areas (hear_of station octets memory assembly).assembly memory
    (hear_of station octets memory assembly).memory
turn_written station reached octets memory assembly token e w =
    let found = memory_written station octets memory assembly token e w in
    let frame : Fields = found.0 in
    let whole : Whole station octets memory assembly frame = found.1 in
    let stored = found.2 in
    let written = found.3 in
    let areas : Areas = (entry_of station.members frame.source).areas in
    let turn : List ℕ = (hear_of station octets memory assembly).assembly in
    let ranged = ((sound station reached).list.each frame.source whole.listed).areas in
    let right = memory_long memory assembly whole.lent in
    let filled = still_long assembly turn (reading.data_of octets frame) (start_of frame.block) (assembly_long memory assembly whole.lent) stored in (
      frame,
      whole,
      record {
        long = ap length written ∙ written_length areas turn memory ranged right;
        one = λ i h. ap (λ (m : List ℕ). get_or m ((span_of One areas.one).start + i) 0) written ∙ written_one areas turn memory ranged right filled i h;
        two = λ i h. ap (λ (m : List ℕ). get_or m ((span_of Two areas.two).start + i) 0) written ∙ written_two areas turn memory ranged right filled i h;
        rest = λ at out.
            ap (λ (m : List ℕ). get_or m at 0) written ∙ written_outside areas turn memory ranged right at (λ p. out (in_one p)) (λ p. out (in_two p));
      },
    )
