-- The line that is printed for each answer.
use Rattle.std.specs.Prelude.{Ok, Err, ◌∷◌}
use Rattle.laws.specs.Usual.{List, [], ℕ}
use Rattle.frame.specs.Codes.{code_number}
use Rattle.frame_refusals.specs.Refusals.{number_of}
use Rattle.frame.specs.declared.Fields.{Fields}
use Rattle.text.specs.Lines.{line_of}
use Rattle.decode_line.specs.declared.Answer.{Answer}
use Rattle.decode_line.specs.declared.Answer.TheVariants.{Heard, Bad}

-- "TFL,SNA,DNA,TCD,C_AD1,C_SZ1,C_AD2,C_SZ2,CBN,TBN,BSIZE,TW"
unfoldable pub field_numbers : Fields → List ℕ
field_numbers fields =
    fields.length
    ∷ fields.source
    ∷ fields.destination
    ∷ code_number fields.code
    ∷ fields.areas.one.address
    ∷ fields.areas.one.size
    ∷ fields.areas.two.address
    ∷ fields.areas.two.size
    ∷ fields.block
    ∷ fields.blocks
    ∷ fields.size
    ∷ fields.watch.0
    ∷ []

-- "frame", "refused" and "bad" in ASCII
abbrev pub frame_word : List ℕ
frame_word = 0x66 ∷ 0x72 ∷ 0x61 ∷ 0x6d ∷ 0x65 ∷ []

abbrev pub refused_word : List ℕ
refused_word = 0x72 ∷ 0x65 ∷ 0x66 ∷ 0x75 ∷ 0x73 ∷ 0x65 ∷ 0x64 ∷ []

abbrev pub bad_word : List ℕ
bad_word = 0x62 ∷ 0x61 ∷ 0x64 ∷ []

unfoldable pub text_of : Answer → List ℕ
text_of (Heard (Ok fields)) = line_of frame_word (field_numbers fields)
text_of (Heard (Err refusal)) = line_of refused_word (number_of refusal ∷ [])
text_of Bad = line_of bad_word []
