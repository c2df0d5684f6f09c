-- `asking_sending::send_next` meets its contract.
use Rattle.std.specs.Prelude.{◌≡◌, ◌+◌, ◌*◌}
use Rattle.laws.specs.Usual.{sym, ap, ap₂, ◌∙◌, List, ℕ, arith, drop, rules}
use lib.ListN.{length-drop}
use Rattle.asking_placing.specs.Placed.{placed}
use Rattle.block.specs.Blocks.{start_of}
use Rattle.block.specs.Cut.{at_most}
use Rattle.frame.specs.declared.Fields.{Fields}
use Rattle.laws.specs.Lists.{to_end}
use Rattle.frame_reading.specs.Reading.{data_size}
use Rattle.frame_round_trip.proofs.SentBack.{block_fixed, block_size}
use Rattle.frame_writing.specs.Writing.{fixed, whole_length, output_of}
use Rattle.asking_sending.proofs.send_next.Goals as goal

pub make_turn-requires : goal.make_turn-requires
make_turn-requires c = record { areas_value = (placed c.args.own.areas c.args.block c.requires.block_value).ranged; memory_len = c.requires.memory_len; turn_len = c.requires.turn_len }

pub slice_bounds-write_block-count : goal.slice_bounds-write_block-count
slice_bounds-write_block-count c = let p = placed c.args.own.areas c.args.block c.requires.block_value in omega (arith, p.ends, c.requires.turn_len)

pub slice_bounds-write_block-start : goal.slice_bounds-write_block-start
slice_bounds-write_block-start c = let p = placed c.args.own.areas c.args.block c.requires.block_value in omega (arith, p.ends, c.requires.turn_len)

pub write_block-requires : goal.write_block-requires
write_block-requires c =
    let a = c.args in
    let pre = c.requires in
    let areas = a.own.areas in
    let fields = c.block_fields.ensures in
    let size = block_size a.own.number a.next areas a.own.watch (a.block + 1) in
    let carried = ap data_size fields ∙ size in record { fields_value = ap fixed fields ∙ block_fixed a.own.number a.next areas a.own.watch (a.block + 1) ∙ sym fields; fields_value_2 = carried ∙ ap (λ (f : Fields). f.size) (sym fields); fields_in_bounds = simp (to_end, length-drop) (omega (arith, carried, (placed areas a.block pre.block_value).ends, pre.turn_len)); fields_in_bounds_2 = omega (arith, carried, at_most areas (a.block + 1), pre.in_bounds) }

pub returns : goal.returns
returns c =
    let a = c.args in
    let w = c.write_block.ensures in
    let fields = c.block_fields.ensures in
    let turn = c.make_turn.ensures in
    let start : 1024 * a.block ≡ start_of (a.block + 1) = omega arith in
    let block = to_end _ (1024 * a.block) ∙ ap₂ (λ (n : ℕ) (l : List ℕ). drop n l) start turn in
    record { value = w.value ∙ ap whole_length fields; turn_after = turn; output_after = w.output_after ∙ ap₂ (λ (f : Fields) (l : List ℕ). output_of f l a.output.now) fields block }
