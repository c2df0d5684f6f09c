-- Paper 01, "Frame fields used": writing a frame. "We write 64-octet headers. .. A field that no rule here sets, and the destination outside
-- code 65000, gets the value that clause 10.1 fixes for that frame, else 0."
use Rattle.std.specs.Prelude.{Result, Ok, Err, ◌&&◌, ◌∷◌, ◌++◌, ◌+◌, ◌/◌, ◌%◌}
use Rattle.laws.specs.Usual.{Bool, cond, List, [], ℕ, length, take, drop, replicate, leb}
use Rattle.area.specs.declared.Areas.{Areas}
use Rattle.units.specs.declared.Milliseconds.{Milliseconds}
use Rattle.frame.specs.Codes.{code_number, is_cyclic, carries_areas}
use Rattle.frame.specs.Positions.{header_length}
use Rattle.frame.specs.declared.Code.{Code}
use Rattle.frame.specs.declared.Fields.{Fields}
use Rattle.frame.specs.declared.Refusal.{Refusal}
use Rattle.frame.specs.declared.Refusal.TheVariants.{Buffer}
use Rattle.frame_reading.specs.Reading.{data_size}

-- the octets of the frame that we write
abbrev pub whole_length : Fields → ℕ
whole_length fields = header_length + data_size fields

-- Table 27: DNA of a request and a trigger is 16#FF, their BSIZE is 16#0060
abbrev pub everyone : ℕ
everyone = 0xff

abbrev pub request_size : ℕ
request_size = 0x60

-- "A cyclic frame or request carries our areas and watch time.": a trigger has none
abbrev pub no_areas : Areas
no_areas = record { one = record { address = 0; size = 0 }; two = record { address = 0; size = 0 } }

abbrev pub no_watch : Milliseconds
no_watch = record { 0 = 0 }

-- the fields with the values that the paper or clause 10.1 fixes for a code. TFL is the octets of our frame. A cyclic frame has its own
-- destination, also in code 65001: clause 10.1.1 h gives DNA there the node to pass the token to.
unfoldable pub fixed_for : Code → Fields → Fields
fixed_for code fields = record {
  length = whole_length fields;
  source = fields.source;
  destination = cond (is_cyclic code) fields.destination everyone;
  code = fields.code;
  areas = cond (carries_areas code) fields.areas no_areas;
  block = cond (is_cyclic code) fields.block 0;
  blocks = cond (is_cyclic code) fields.blocks 0;
  size = cond (is_cyclic code) fields.size request_size;
  watch = cond (carries_areas code) fields.watch no_watch;
}

abbrev pub fixed : Fields → Fields
fixed fields = fixed_for fields.code fields

-- four octets of the header: as they are; one number of four octets; two numbers of two
abbrev pub four : ℕ → ℕ → ℕ → ℕ → List ℕ
four a b c d = a ∷ b ∷ c ∷ d ∷ []

abbrev pub long : ℕ → List ℕ
long n = four (n / 16777216) (n / 65536 % 256) (n / 256 % 256) (n % 256)

abbrev pub words : ℕ → ℕ → List ℕ
words a b = four (a / 256) (a % 256) (b / 256) (b % 256)

-- clause 10.1, Table 20: the header in rows of four octets, for fields that have their fixed values
unfoldable pub front_of : Fields → List ℕ
front_of fields =
    four 0x46 0x41 0x43 0x4e  -- H_TYPE, "FACN"
    ++ long fields.length  -- TFL
    ++ four 0 0 0 fields.source  -- SNA
    ++ four 0 0 0 fields.destination  -- DNA

-- V_SEQ, SEQ, M_CTL with BCT, PPT and RPL, ULS, M_SZ, M_ADD, MFT, M_RLT and two octets unused: no rule sets them and clause 10.1 fixes none
abbrev pub between : List ℕ
between = replicate 24 0

unfoldable pub back_of : Fields → List ℕ
back_of fields =
    words (code_number fields.code) 0  -- TCD, VER fixed to 16#0000
    ++ words fields.areas.one.address fields.areas.one.size  -- C_AD1, C_SZ1
    ++ words fields.areas.two.address fields.areas.two.size  -- C_AD2, C_SZ2
    ++ four 0 0 0x80 0  -- MODE, P_TYPE fixed to 16#80, PRI fixed to 16#00
    ++ four fields.block fields.blocks (fields.size / 256) (fields.size % 256)  -- CBN, TBN, BSIZE
    ++ four 0 fields.watch.0 0 0  -- LKS, TW, RCT

-- the 64 octets of the header
unfoldable pub header_of : Fields → List ℕ
unfolding front_of back_of
header_of fields = front_of fields ++ between ++ back_of fields

-- the frame: the header, then the first octets of the data lent, as many as the frame carries
abbrev pub frame_of : Fields → List ℕ → List ℕ
frame_of fields block = header_of (fixed fields) ++ take (data_size fields) block

-- the data lent are enough for the frame, and so is the output
abbrev pub fits : Fields → List ℕ → List ℕ → Bool
fits fields block output = leb (data_size fields) (length block) && leb (whole_length fields) (length output)

-- what writing answers: the number of octets of the frame, which stands in front in the output, or the refusal
abbrev pub Written : Type 0
Written = Result ℕ Refusal

-- the answer: the number of octets written, or 11
abbrev pub written_of : Fields → List ℕ → List ℕ → Written
written_of fields block output = cond (fits fields block output) (Ok (whole_length fields)) (Err Buffer)

-- the output afterwards: the frame in front and the rest as it was, or all of it as it was
abbrev pub output_of : Fields → List ℕ → List ℕ → List ℕ
output_of fields block output =
    cond (fits fields block output)
    (frame_of fields block ++ drop (whole_length fields) output)
    output
