-- Clause 10.2 of JEM 1479: a confirmation in a cyclic frame. "Receipt is confirmed in the cyclic frames."
use Rattle.std.specs.Prelude.{◌&&◌, ◌∷◌, ◌++◌, ◌+◌, ◌-◌, ◌/◌, ◌%◌}
use Rattle.laws.specs.Usual.{Bool, List, [], ℕ, length, take, drop, eqb, leb}
use Rattle.copying.specs.Pasted.{pasted}
use Rattle.frame.specs.Octets.{octet_at, word_at, long_at}
use Rattle.frame.specs.Positions.{header_length, TFL, BSIZE}
use Rattle.frame_writing.specs.Writing.{four, long}
use Rattle.message.specs.declared.Confirmation.{Confirmation}
use Rattle.message_frames.specs.Places.{M_CTL, RPL, A_NUM, R_STS, R_TCD, R_NA, R_VSEQ, R_SEQ, confirmation_length, confirmation_end}

-- the 20 octets of a confirmation, in rows of four
abbrev pub confirmation_octets : Confirmation → List ℕ
confirmation_octets confirmation =
    four 0 1 0 0  -- A_VER, A_NUM
    ++ four confirmation.status 0 (confirmation.code / 256) (confirmation.code % 256)  -- R_STS, R_TCD
    ++ four 0 0 0 confirmation.source  -- R_NA
    ++ long confirmation.version  -- R_VSEQ
    ++ long confirmation.number  -- R_SEQ

-- a frame with other octets put in behind its header of 64
abbrev pub inserted : List ℕ → List ℕ → List ℕ
inserted octets frame = take header_length frame ++ (octets ++ drop header_length frame)

-- A cyclic frame of ours with a confirmation in it: TFL is 20 more, RPL is set, and the 20 octets stand between header and data. (The first octet of
-- M_CTL is 0 in every cyclic frame that we write.)
abbrev pub raised : List ℕ → List ℕ
raised frame = long (length frame + confirmation_length)

abbrev pub flag : List ℕ
flag = RPL ∷ []

abbrev pub lengthened : List ℕ → List ℕ
lengthened frame = pasted frame TFL (raised frame)

abbrev pub flagged : List ℕ → List ℕ
flagged frame = pasted frame M_CTL flag

abbrev pub carrying : Confirmation → List ℕ → List ℕ
carrying confirmation frame = inserted (confirmation_octets confirmation) (flagged (lengthened frame))

-- whether a cyclic frame has a confirmation: RPL is set, the 20 octets stand before the data, and A_NUM is 1. A_VER isn't looked at.
abbrev pub is_set : ℕ → ℕ → Bool
is_set bit octet = eqb (octet / bit % 2) 1

abbrev pub confirms : List ℕ → Bool
confirms s =
    is_set RPL (octet_at s M_CTL)
    && (leb confirmation_end (length s - word_at s BSIZE) && eqb (octet_at s A_NUM) 1)

-- what it says
abbrev pub confirmation_in : List ℕ → Confirmation
confirmation_in s = record {
  status = octet_at s R_STS;
  source = octet_at s R_NA;
  code = word_at s R_TCD;
  version = long_at s R_VSEQ;
  number = long_at s R_SEQ;
}
