-- `asking_bare::write` meets its contract.
use Rattle.std.specs.Prelude.{Ok, ◌≡◌, ◌≤◌}
use Rattle.std.specs.Result.{result_unwrap_or}
use Rattle.laws.specs.Usual.{ap, ◌∙◌, List, ℕ, length}
use borrow.Author.Tests.{le-leb}
use Rattle.station.specs.Types.{Fields}
use Rattle.frame_reading.specs.Reading.{data_size}
use Rattle.frame_writing.specs.Writing.{Written, whole_length, written_of}
use Rattle.asking_bare.proofs.write.Goals as goal

-- what is there is written
accepted : (fields : Fields) (block output : List ℕ) → data_size fields ≤ length block → whole_length fields ≤ length output →
    written_of fields block output ≡ Ok (whole_length fields)
accepted fields block output enough room = simp (le-leb _ _ enough, le-leb _ _ room)

pub returns : goal.returns
returns c =
    let a = c.args in
    let w = c.write_frame.ensures in
    let done = w.value ∙ accepted a.fields a.block.now a.output.now c.requires.fields_in_bounds c.requires.fields_in_bounds_2 in
    record { value = c.unwrap_or.ensures ∙ ap (λ (written : Written). result_unwrap_or written 0) done; output_after = w.output_after }
