-- Clause 10.1 of JEM 1479, Table 20: where the fields stand that only messages have, the first octet of each counted from 0.
use Rattle.std.specs.Prelude.{ℕ}

-- version of sequence numbers, four octets
abbrev pub V_SEQ : ℕ
V_SEQ = 16

-- sequence number, four octets
abbrev pub SEQ : ℕ
SEQ = 20

-- message control, four octets. BCT, PPT and RPL are its first three bits "in the order to flow in the network": 16#80, 16#40 and 16#20 of
-- its first octet.
abbrev pub M_CTL : ℕ
M_CTL = 24

abbrev pub BCT : ℕ
BCT = 0x80

abbrev pub PPT : ℕ
PPT = 0x40

abbrev pub RPL : ℕ
RPL = 0x20

-- message size, two octets
abbrev pub M_SZ : ℕ
M_SZ = 30

-- message address, four octets
abbrev pub M_ADD : ℕ
M_ADD = 32

-- message result, an octet
abbrev pub M_RLT : ℕ
M_RLT = 37

-- Clause 10.2, Table 28: where a confirmation stands behind a header of 64 octets. How many there are, an octet
abbrev pub A_NUM : ℕ
A_NUM = 65

-- status, an octet
abbrev pub R_STS : ℕ
R_STS = 68

-- code, two octets
abbrev pub R_TCD : ℕ
R_TCD = 70

-- the message's source, an octet
abbrev pub R_NA : ℕ
R_NA = 75

-- its version and its number, four octets each
abbrev pub R_VSEQ : ℕ
R_VSEQ = 76

abbrev pub R_SEQ : ℕ
R_SEQ = 80

-- the octets that one confirmation takes, and the octets up to its end
abbrev pub confirmation_length : ℕ
confirmation_length = 20

abbrev pub confirmation_end : ℕ
confirmation_end = 84
