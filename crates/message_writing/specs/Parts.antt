-- The header of a message frame in three parts. Assumes nothing.
use Rattle.std.specs.Prelude.{◌≡◌, ◌++◌, ◌/◌, ◌%◌}
use Rattle.laws.specs.Usual.{refl, List, ℕ, length}
use Rattle.frame_writing.specs.Parts.{front}
use Rattle.frame_writing.specs.Writing.{four, long, words}
use Rattle.message.specs.declared.Letter.{Letter}
use Rattle.message_frames.specs.Frames.{whole_length, control_of, header_of}

-- H_TYPE, TFL, SNA, DNA
unfoldable pub front_of : Letter → List ℕ
front_of letter = front (whole_length letter) letter.source letter.message.destination

-- V_SEQ, SEQ, M_CTL, ULS, M_SZ, M_ADD, MFT, M_RLT and two octets unused
unfoldable pub middle_of : Letter → List ℕ
middle_of letter =
    long letter.version
    ++ long letter.number
    ++ four (control_of letter) 0 0 0
    ++ words 0 letter.message.size
    ++ long letter.message.address
    ++ four 0 letter.message.result 0 0

-- TCD, VER, the areas, MODE, P_TYPE, PRI, CBN, TBN, BSIZE, LKS, TW, RCT
unfoldable pub back_of : Letter → List ℕ
back_of letter =
    words letter.message.code 0
    ++ words 0 0
    ++ words 0 0
    ++ four 0 0 0x80 0
    ++ four 1 1 (letter.octets / 256) (letter.octets % 256)
    ++ four 0 0 0 0

pub in_parts : (letter : Letter) → (front_of letter ++ middle_of letter) ++ back_of letter ≡ header_of letter
unfolding front_of middle_of back_of header_of
in_parts letter = refl

pub length_header : (letter : Letter) → length (header_of letter) ≡ 64
unfolding header_of
length_header letter = refl

pub length_front : (letter : Letter) → length (front_of letter) ≡ 16
unfolding front_of
length_front letter = refl

pub length_middle : (letter : Letter) → length (middle_of letter) ≡ 24
unfolding middle_of
length_middle letter = refl
