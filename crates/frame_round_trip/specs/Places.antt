-- Where the fields that the paper names stand in a frame, octet by octet, and what stands at the other places and where a code fixes it.
use Rattle.laws.specs.Usual.{[], Bool, false, cond, List, map, ℕ, suc, eqb}
use Rattle.std.specs.Prelude.{◌||◌, ◌∷◌, ◌++◌, ◌+◌, zero}
use Rattle.frame.specs.Octets.{octet_at}
use Rattle.frame.specs.Positions.{TFL, SNA, DNA, TCD, C_AD1, C_SZ1, C_AD2, C_SZ2, CBN, TBN, BSIZE, TW}
use Rattle.frame.specs.declared.Code.{Code}
use Rattle.frame.specs.declared.Code.TheVariants.{Token, Cyclic, Request, Trigger}

-- the places of a field of so many octets
abbrev pub run : ℕ → ℕ → List ℕ
run zero at = []
run (suc n) at = at ∷ run n (at + 1)

abbrev pub length_places : List ℕ
length_places = run 4 TFL

abbrev pub area_places : List ℕ
area_places = run 2 C_AD1 ++ run 2 C_SZ1 ++ run 2 C_AD2 ++ run 2 C_SZ2

abbrev pub block_places : List ℕ
block_places = run 1 CBN ++ run 1 TBN ++ run 2 BSIZE

-- the places of all the fields that the paper names but TFL
abbrev pub field_places : List ℕ
field_places = run 1 SNA ++ run 1 DNA ++ run 2 TCD ++ area_places ++ block_places ++ run 1 TW

-- octets, each with its place
abbrev pub Table : Type 0
Table = List (ℕ × ℕ)

abbrev pub places_in : Table → List ℕ
places_in table = map (λ (entry : ℕ × ℕ). entry.0) table

abbrev pub octets_in : Table → List ℕ
octets_in table = map (λ (entry : ℕ × ℕ). entry.1) table

-- "A field that no rule here sets, and the destination outside code 65000, gets the value that clause 10.1 fixes for that frame, else 0."
-- Of a request and a trigger clause 10.1.1 h fixes DNA to 16#FF, Table 27 BSIZE to 16#0060, and nothing CBN and TBN.
abbrev pub request_octets : Table
request_octets = (DNA, 0xff) ∷ (CBN, 0x00) ∷ (TBN, 0x00) ∷ (BSIZE, 0x00) ∷ (BSIZE + 1, 0x60) ∷ []

-- "A cyclic frame or request carries our areas and watch time.": a trigger has neither
abbrev pub no_area_octets : Table
no_area_octets =
    (C_AD1, 0x00) ∷ (C_AD1 + 1, 0x00) ∷ (C_SZ1, 0x00) ∷ (C_SZ1 + 1, 0x00)
    ∷ (C_AD2, 0x00) ∷ (C_AD2 + 1, 0x00) ∷ (C_SZ2, 0x00) ∷ (C_SZ2 + 1, 0x00)
    ∷ []

abbrev pub no_watch_octets : Table
no_watch_octets = (TW, 0x00) ∷ []

-- the octets that clause 10.1 or the paper fixes for a code. Of a cyclic frame the paper's rules set every field that it names, and clause
-- 10.1.1 h gives DNA of code 65001 the station that the token will go to.
abbrev pub fixed_octets : Code → Table
fixed_octets Token = []
fixed_octets Cyclic = []
fixed_octets Request = request_octets
fixed_octets Trigger = request_octets ++ no_area_octets ++ no_watch_octets

abbrev pub among : ℕ → List ℕ → Bool
among place [] = false
among place (other ∷ rest) = eqb place other || among place rest

-- the list without what is among the others
abbrev pub without : List ℕ → List ℕ → List ℕ
without others [] = []
without others (place ∷ rest) = cond (among place others) (without others rest) (place ∷ without others rest)

-- every place of a field but TFL that the code does not fix
abbrev pub free_places : Code → List ℕ
free_places code = without (places_in (fixed_octets code)) field_places

abbrev pub zeros : ℕ → ℕ → Table
zeros zero at = []
zeros (suc n) at = (at, 0x00) ∷ zeros n (at + 1)

-- the octets of a header that are of no field that the paper names: clause 10.1 fixes H_TYPE, VER, P_TYPE and PRI, and nothing the rest
abbrev pub other_octets : Table
other_octets =
    ((0, 0x46) ∷ (1, 0x41) ∷ (2, 0x43) ∷ (3, 0x4e) ∷ [])  -- H_TYPE, "FACN"
    ++ zeros 3 8  -- before SNA
    ++ zeros 3 12  -- before DNA
    ++ zeros 24 16  -- V_SEQ, SEQ, M_CTL, ULS, M_SZ, M_ADD, MFT, M_RLT and two octets unused
    ++ zeros 2 42  -- VER
    ++ zeros 2 52  -- MODE
    ++ ((54, 0x80) ∷ (55, 0x00) ∷ [])  -- P_TYPE, PRI
    ++ zeros 1 60  -- LKS
    ++ zeros 2 62  -- RCT

-- the octets at some places
abbrev pub octets_at : List ℕ → List ℕ → List ℕ
octets_at places s = map (octet_at s) places
