-- Clause 10.1 of JEM 1479, Table 20: where the fields that the paper names stand in the header, the first octet of each counted from 0.
use Rattle.std.specs.Prelude.{ℕ}

-- the octets of a header that we write, and the least that a frame has
abbrev pub header_length : ℕ
header_length = 64

-- whole frame length, four octets
abbrev pub TFL : ℕ
TFL = 4

-- source and destination node, an octet each
abbrev pub SNA : ℕ
SNA = 11

abbrev pub DNA : ℕ
DNA = 15

-- transaction code, two octets
abbrev pub TCD : ℕ
TCD = 40

-- area addresses and sizes in words, two octets each
abbrev pub C_AD1 : ℕ
C_AD1 = 44

abbrev pub C_SZ1 : ℕ
C_SZ1 = 46

abbrev pub C_AD2 : ℕ
C_AD2 = 48

abbrev pub C_SZ2 : ℕ
C_SZ2 = 50

-- block number and total, an octet each
abbrev pub CBN : ℕ
CBN = 56

abbrev pub TBN : ℕ
TBN = 57

-- block length in octets, two octets
abbrev pub BSIZE : ℕ
BSIZE = 58

-- watch time in milliseconds, an octet
abbrev pub TW : ℕ
TW = 61
