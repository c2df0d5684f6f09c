-- The lengths of what is written. Assumes nothing.
use Rattle.std.specs.Prelude.{◌≡◌, ◌≤◌}
use Rattle.laws.specs.Usual.{refl, List, ℕ, length, take}
use Rattle.std.proofs.Common.{length-append, length-take-le}
use Rattle.frame.specs.declared.Fields.{Fields}
use Rattle.frame_reading.specs.Reading.{data_size}
use Rattle.frame_writing.specs.Writing.{fixed, front_of, header_of, frame_of, whole_length}

pub length_front : (fields : Fields) → length (front_of fields) ≡ 16
unfolding front_of
length_front fields = refl

pub length_header : (fields : Fields) → length (header_of fields) ≡ 64
unfolding header_of
length_header fields = refl

pub length_frame : (fields : Fields) (block : List ℕ) → data_size fields ≤ length block → length (frame_of fields block) ≡ whole_length fields
length_frame fields block enough =
    rw (length-append (header_of (fixed fields)) (take (data_size fields) block), length_header (fixed fields), length-take-le (data_size fields) block enough)
