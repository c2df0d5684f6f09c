-- E2 of paper 02, with Tables 20 and 24 to 26 of JEM 1479: the frame that a message goes in.
use Rattle.std.specs.Prelude.{◌&&◌, ◌++◌, ◌+◌, ◌-◌, ◌/◌, ◌%◌}
use Rattle.laws.specs.Usual.{Bool, cond, List, ℕ, take, drop, leb}
use Rattle.frame.specs.Octets.{octet_at, word_at, long_at}
use Rattle.frame.specs.Positions.{header_length, SNA, DNA, TCD, BSIZE}
use Rattle.frame_reading.specs.Reading.{is_station}
use Rattle.frame_writing.specs.Writing.{four, long, words}
use Rattle.message.specs.Codes.{to_all}
use Rattle.message.specs.declared.Letter.{Letter}
use Rattle.message_frames.specs.Places.{V_SEQ, SEQ, M_SZ, M_ADD, M_RLT, BCT, PPT}

-- "up to 1024 octets"
abbrev pub data_most : ℕ
data_most = 1024

-- the fields as they stand in the octets; all other fields are not looked at, so that a message to all is told by its destination alone
unfoldable pub letter_in : List ℕ → Letter
letter_in s = record {
  source = octet_at s SNA;
  version = long_at s V_SEQ;
  number = long_at s SEQ;
  message = record {
    destination = octet_at s DNA;
    code = word_at s TCD;
    size = word_at s M_SZ;
    address = long_at s M_ADD;
    result = octet_at s M_RLT;
  };
  octets = word_at s BSIZE;
}

-- 5: "source not 1 to 254"; the destination isn't looked at
abbrev pub addressed : Letter → Bool
addressed letter = is_station letter.source

-- 8 "covers a message whose last BSIZE octets, its data, are over 1024 or stand after other than 64 to 96", of so many octets given
abbrev pub measured : ℕ → Letter → Bool
measured given letter =
    leb letter.octets data_most
    && (leb 64 (given - letter.octets) && leb (given - letter.octets) 96)

-- the octets of the frame that we write
abbrev pub whole_length : Letter → ℕ
whole_length letter = header_length + letter.octets

-- BCT for a message to all, else PPT
abbrev pub control_of : Letter → ℕ
control_of letter = cond (to_all letter.message.destination) BCT PPT

-- the header of 64 octets, in rows of four. What Tables 24 to 26 don't have, and what no rule sets, is 0.
unfoldable pub header_of : Letter → List ℕ
header_of letter =
    four 0x46 0x41 0x43 0x4e  -- H_TYPE, "FACN"
    ++ long (whole_length letter)  -- TFL
    ++ four 0 0 0 letter.source  -- SNA
    ++ four 0 0 0 letter.message.destination  -- DNA
    ++ long letter.version  -- V_SEQ
    ++ long letter.number  -- SEQ
    ++ four (control_of letter) 0 0 0  -- M_CTL
    ++ words 0 letter.message.size  -- ULS, M_SZ
    ++ long letter.message.address  -- M_ADD
    ++ four 0 letter.message.result 0 0  -- MFT, M_RLT and two octets unused
    ++ words letter.message.code 0  -- TCD, VER
    ++ words 0 0  -- C_AD1, C_SZ1
    ++ words 0 0  -- C_AD2, C_SZ2
    ++ four 0 0 0x80 0  -- MODE, P_TYPE fixed to 16#80, PRI
    ++ four 1 1 (letter.octets / 256) (letter.octets % 256)  -- CBN and TBN fixed to 1, BSIZE
    ++ four 0 0 0 0  -- LKS, TW, RCT

-- the frame: the header, then the first octets of what is lent, as many as the message has
abbrev pub frame_of : Letter → List ℕ → List ℕ
frame_of letter mail = header_of letter ++ take letter.octets mail

-- the output afterwards: the frame in front and the rest as it was
abbrev pub output_of : Letter → List ℕ → List ℕ → List ℕ
output_of letter mail output = frame_of letter mail ++ drop (whole_length letter) output
