-- `decode::decode_some` meets its contract.
use Rattle.laws.specs.Usual.{ap, ◌∙◌, length}
use Rattle.text_feeding.specs.Feeding.{fed_all}
use Rattle.text_feeding.proofs.Scan.{read_arrived, read_taken}
use Rattle.decode.specs.Capture.{carried, decode}
use Rattle.decode.proofs.decode_some.Goals as goal

pub returns : goal.returns
returns c =
    let a = c.args in
    let read = c.read_some-read in
    let done = c.decode_part-going in record {
      frame_after = done.ensures.frame_after
          ∙ ap (fed_all (decode (length a.frame.now)) (carried a.line a.frame.now))
          (read_taken read.new.part read.result done.result.at done.result.on read.ensures.count.0 done.ensures.taken);
      arrived = read_arrived read.new.part read.result done.result.at done.result.on read.ensures.count.0 done.ensures.taken;
    }
