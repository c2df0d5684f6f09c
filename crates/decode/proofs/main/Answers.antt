-- `decode::main` meets its contract.
use Rattle.laws.specs.Usual.{replicate}
use Rattle.text_feeding.proofs.Front.{front_within, front_read}
use Rattle.decode.specs.Capture.{answer_to_rest}
use Rattle.decode.proofs.main.Goals as goal

pub slice_bounds-write_rest-end : goal.slice_bounds-write_rest-end
slice_bounds-write_rest-end c =
    let put = c.put_rest-end.ensures in
    front_within (replicate 160 0) (answer_to_rest c.decode_input-rest.result) put.value put.text_after

pub write_rest-requires : goal.write_rest-requires
write_rest-requires c =
    let put = c.put_rest-end.ensures in
    front_read (replicate 160 0) (answer_to_rest c.decode_input-rest.result) put.value put.text_after
