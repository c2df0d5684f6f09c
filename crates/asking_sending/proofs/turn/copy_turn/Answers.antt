-- `asking_sending::turn::copy_turn` meets its contract.
use Rattle.std.specs.Prelude.{◌≡◌, ◌*◌, ◌≤◌}
use Rattle.laws.specs.Usual.{sym, ap, ◌∙◌, true, List, ℕ, arith, length, drop, rules}
use native.Mathlib.Nat.{zero-add}
use lib.ListN.{length-drop}
use Rattle.area.specs.Areas.{in_area, in_range, span_of, memory_octets}
use Rattle.area.specs.Within.{inside}
use Rattle.area.specs.declared.Area.TheVariants.{One, Two}
use Rattle.area.specs.declared.Areas.{Areas}
use Rattle.block.specs.Cut.{fits}
use Rattle.copying.specs.Laws.{paste_append}
use Rattle.copying.specs.Pasted.{pasted}
use Rattle.laws.specs.Tests.{first, second}
use Rattle.station.specs.Rules.Data.{octets_in, turn_of}
use lib.Seq.{length-take-le}
use Rattle.asking_sending.proofs.turn.copy_turn.Goals as goal

-- area 1 in front, and area 2 right behind it
joined : (areas : Areas) (memory turn : List ℕ) → in_range areas ≡ true → length memory ≡ memory_octets → length turn ≡ memory_octets →
    pasted (pasted turn 0 (octets_in (span_of One areas.one) memory)) (2 * areas.one.size) (octets_in (span_of Two areas.two) memory)
    ≡ pasted turn 0 (turn_of areas memory)
joined areas memory turn ranged m t =
    let one = octets_in (span_of One areas.one) memory in
    let two = octets_in (span_of Two areas.two) memory in
    let span = inside One areas.one (first (in_area One areas.one) (in_area Two areas.two) ranged) in
    let rest = drop (span_of One areas.one).start memory in
    let there : 2 * areas.one.size ≤ length rest = rw (length-drop (span_of One areas.one).start memory) (omega (arith, span.to, span.memory)) in
    let size : length (octets_in (span_of One areas.one) memory) ≡ 2 * areas.one.size = length-take-le (2 * areas.one.size) rest there in
    ap (λ (n : ℕ). pasted (pasted turn 0 one) n two) (sym (zero-add (length one) ∙ size))
    ∙ paste_append turn one two 0 (omega (arith, fits areas ranged, size))

pub copy_part-requires : goal.copy_part-requires
copy_part-requires c =
    let areas = c.args.areas in
    let p = c.requires in
    record { part_value = first (in_area One areas.one) (in_area Two areas.two) p.areas_value; memory_len = p.memory_len; size_in_bounds = omega (arith, fits areas p.areas_value, p.turn_len) }

pub copy_part-requires-2 : goal.copy_part-requires-2
copy_part-requires-2 c =
    let areas = c.args.areas in
    let p = c.requires in
    record { part_value = second (in_area One areas.one) (in_area Two areas.two) p.areas_value; memory_len = p.memory_len; size_in_bounds = omega (arith, fits areas p.areas_value, p.turn_len) }

pub returns : goal.returns
returns c =
    let a = c.args in
    let p = c.requires in
    let two = octets_in (span_of Two a.areas.two) a.memory.now in
    c.copy_part-2.ensures
    ∙ ap (λ (l : List ℕ). pasted l (2 * a.areas.one.size) two) c.copy_part.ensures
    ∙ joined a.areas a.memory.now a.turn.now p.areas_value p.memory_len p.turn_len
