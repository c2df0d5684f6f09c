-- Paper 01, "Frame fields used" and "Numbers the station answers with": reading a frame.
use Rattle.std.specs.Prelude.{Result, Ok, Err, ◌&&◌, ◌||◌, ◌-◌}
use Rattle.laws.specs.Usual.{Bool, true, false, cond, not, List, ℕ, length, drop, eqb, leb}
use Rattle.area.specs.Areas.{in_range}
use Rattle.block.specs.Blocks.{blocks_of, length_of}
use Rattle.frame.specs.Codes.{code_of, is_known, code_from, is_token, is_cyclic, carries_areas}
use Rattle.frame.specs.Octets.{octet_at, word_at, long_at}
use Rattle.frame.specs.Positions.{TFL, SNA, DNA, TCD, C_AD1, C_SZ1, C_AD2, C_SZ2, CBN, TBN, BSIZE, TW}
use Rattle.frame.specs.declared.Fields.{Fields}
use Rattle.frame.specs.declared.Code.{Code}
use Rattle.frame.specs.declared.Refusal.{Refusal}
use Rattle.frame.specs.declared.Refusal.TheVariants as refusals

-- what reading gives: the fields, or the refusal
abbrev pub Read : Type 0
Read = Result Fields Refusal

-- the refusal where the test fails, else what comes after it: "the first that applies"
abbrev pub need : Bool → Refusal → Read → Read
need true refusal rest = rest
need false refusal rest = Err refusal

-- what comes after a frame that is not refused so far
abbrev pub and_then : Read → (Fields → Read) → Read
and_then (Ok fields) rest = rest fields
and_then (Err refusal) rest = Err refusal

-- 1: "fewer than 64 or more than 1120 octets given"
abbrev pub whole : List ℕ → Bool
whole s = leb 64 (length s) && leb (length s) 1120

-- 2: "not the frame type mark of clause 10.1", which is the octets "FACN"
abbrev pub marked : List ℕ → Bool
marked s = eqb (octet_at s 0) 70 && (eqb (octet_at s 1) 65 && (eqb (octet_at s 2) 67 && eqb (octet_at s 3) 78))

-- 3: "TFL is not the octets given"
abbrev pub long : List ℕ → Bool
long s = eqb (long_at s TFL) (length s)

-- 4: "TCD not one of the four"
abbrev pub coded : List ℕ → Bool
coded s = is_known (code_of (word_at s TCD))

-- the code of a frame that passed 4
abbrev pub code_in : List ℕ → Code
code_in s = code_from (code_of (word_at s TCD))

-- the fields as they stand in the octets. "On reading, fields not named here are not looked at, the frame type mark aside."
unfoldable pub fields_of : Code → List ℕ → Fields
fields_of code s = record {
  length = long_at s TFL;
  source = octet_at s SNA;
  destination = octet_at s DNA;
  code = code;
  areas = record {
    one = record { address = word_at s C_AD1; size = word_at s C_SZ1 };
    two = record { address = word_at s C_AD2; size = word_at s C_SZ2 };
  };
  block = octet_at s CBN;
  blocks = octet_at s TBN;
  size = word_at s BSIZE;
  watch = record { 0 = octet_at s TW };
}

-- a station's number
abbrev pub is_station : ℕ → Bool
is_station number = leb 1 number && leb number 254

-- 5: "source not 1 to 254; or code 65000 and destination not 1 to 254"
abbrev pub addressed : Fields → Bool
addressed fields = is_station fields.source && (not (is_token fields.code) || is_station fields.destination)

-- 7: "an area leaves its range"; "7 looks at cyclic frames and requests"
abbrev pub ranged : Fields → Bool
ranged fields = not (carries_areas fields.code) || in_range fields.areas

-- 14 (E5 of paper 02): "TBN not as the areas give". As 8 did, 14 and 15 look "at cyclic frames only".
abbrev pub totalled : Fields → Bool
totalled fields = eqb fields.blocks (blocks_of fields.areas)

-- 15 (E5): "CBN not 1 to TBN"
abbrev pub numbered : Fields → Bool
numbered fields = leb 1 fields.block && leb fields.block fields.blocks

-- 8: "BSIZE not that block's length; header part not 64 to 96"; E5: "8 stays for the block's length and the header part". The header part
-- is what stands before the last BSIZE of the octets given.
abbrev pub measured : ℕ → Fields → Bool
measured given fields =
    eqb fields.size (length_of fields.areas fields.block)
    && (leb 64 (given - fields.size) && leb (given - fields.size) 96)

-- none of the three
abbrev pub blocked : ℕ → Fields → Bool
blocked given fields = totalled fields && (numbered fields && measured given fields)

-- refusals 1 to 5, in this order
abbrev pub read_header_of : List ℕ → Read
read_header_of s =
    need (whole s) refusals.Cut
    (need (marked s) refusals.Mark
    (need (long s) refusals.Length
    (need (coded s) refusals.Code
    (need (addressed (fields_of (code_in s) s)) refusals.Address
    (Ok (fields_of (code_in s) s))))))

-- refusals 7, 14, 15 and 8, in this order, of a frame of so many octets given
abbrev pub read_body_of : ℕ → Fields → Read
read_body_of given fields =
    need (ranged fields) refusals.Area
    (need (not (is_cyclic fields.code) || totalled fields) refusals.Total
    (need (not (is_cyclic fields.code) || numbered fields) refusals.Number
    (need (not (is_cyclic fields.code) || measured given fields) refusals.Block
    (Ok fields))))

-- the fields, or the first of refusals 1 to 5, 7, 14, 15 and 8 that applies. A station asks 6 between the two parts, and 9 after them.
unfoldable pub read_of : List ℕ → Read
read_of s = and_then (read_header_of s) (read_body_of (length s))

-- "On reading a cyclic frame, the data are the last BSIZE octets": the other frames have none
abbrev pub data_size : Fields → ℕ
data_size fields = cond (is_cyclic fields.code) fields.size 0

abbrev pub data_of : List ℕ → Fields → List ℕ
data_of s fields = drop (length s - data_size fields) s
