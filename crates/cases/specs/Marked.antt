-- Paper 01, "Marked cases (*) and others": the marked cases are one table, held against the rules by one check.
use Rattle.std.specs.Prelude.{Ok, Err, ◌≡◌, ◌&&◌, ◌∷◌, ◌-◌}
use Rattle.laws.specs.Usual.{refl, Bool, true, false, cond, List, [], ℕ, min, replicate, eqb}
use Rattle.block.specs.Blocks.{blocks_of, length_of}
use Rattle.frame_refusals.specs.Refusals.{number_of}
use Rattle.frame.specs.declared.Code.TheVariants.{Token, Cyclic, Request}
use Rattle.members.specs.Listing.{listing}
use Rattle.members.specs.Members.{no_members, next_after}
use Rattle.frame_reading.specs.Reading.{fields_of, read_of}
use Rattle.settle_input.specs.Input.{lines_of, entry_of, forms_from}
use Rattle.settle_rest.specs.Whole.{step_lines, output_of}
use Rattle.settle_run.specs.Run.{run_from}
use Rattle.station.specs.Rules.Starting.{Switching, start_of}
use Rattle.station.specs.Rules.State.{never}
use Rattle.station.specs.Rules.Token.{view_after}
use Rattle.station.specs.Types.{Areas, Part, Code, Read, Members}
use Rattle.station.specs.declared.Settings.{Settings}
use Rattle.station.specs.declared.Station.{Station}
use Rattle.station.specs.Types.{Switched}
use Rattle.text.specs.Decimal.{decimal_at}
use Rattle.frame_writing.specs.Writing.{no_areas, no_watch, fixed_for, header_of, frame_of}

-- a marked case, with what the paper says of it
pub data Case : Type 0 where
  -- "View, frame, new view": the view, the source and the destination of a token frame, and the view after it
  moves : (view source destination after : ℕ) → Case
  -- "Blocks": the words of a turn, its blocks, and the octets of the last one
  cuts : (words blocks last : ℕ) → Case
  -- "Area 1": an address and a size that fit, or that are answered a number
  fits : (address size : ℕ) → Case
  refused : (address size number : ℕ) → Case
  -- "Next after .. in ..": a number, the list with ours, and the next
  follows : (number : ℕ) → List ℕ → (after : ℕ) → Case
  -- a `settle` run: the input, and the whole output
  settles : (input output : List ℕ) → Case

-- "1,3", "2,3", "3,1"
abbrev example : List ℕ
example = 0x31 ∷ 0x2c ∷ 0x33 ∷ 0x0a ∷ 0x32 ∷ 0x2c ∷ 0x33 ∷ 0x0a ∷ 0x33 ∷ 0x2c ∷ 0x31 ∷ 0x0a ∷ []

-- "what,from,to,views", "S,0,0,2", "P,1,2,1", "E,1,1,1"
abbrev shown : List ℕ
shown =
    0x77 ∷ 0x68 ∷ 0x61 ∷ 0x74 ∷ 0x2c ∷ 0x66 ∷ 0x72 ∷ 0x6f ∷ 0x6d ∷ 0x2c ∷ 0x74 ∷ 0x6f ∷ 0x2c ∷ 0x76 ∷ 0x69 ∷ 0x65 ∷ 0x77 ∷ 0x73 ∷ 0x0a
    ∷ 0x53 ∷ 0x2c ∷ 0x30 ∷ 0x2c ∷ 0x30 ∷ 0x2c ∷ 0x32 ∷ 0x0a
    ∷ 0x50 ∷ 0x2c ∷ 0x31 ∷ 0x2c ∷ 0x32 ∷ 0x2c ∷ 0x31 ∷ 0x0a
    ∷ 0x45 ∷ 0x2c ∷ 0x31 ∷ 0x2c ∷ 0x31 ∷ 0x2c ∷ 0x31 ∷ 0x0a
    ∷ []

pub marked : List Case
marked =
    moves 5 5 9 9
    ∷ moves 5 7 9 5
    ∷ moves 9 2 5 5
    ∷ moves 254 254 1 1
    ∷ cuts 0 1 0
    ∷ cuts 512 1 1024
    ∷ cuts 513 2 2
    ∷ cuts 8704 17 1024
    ∷ fits 511 1
    ∷ refused 511 2 7
    ∷ fits 512 0
    ∷ follows 254 (3 ∷ 9 ∷ 254 ∷ []) 3
    ∷ settles example shown
    ∷ []

-- what the cases are asked of
pub record Rules : Type 0 where
  -- a view after a token frame: the view, the source, the destination
  pub view : ℕ → ℕ → ℕ → ℕ
  -- the blocks of a turn, and the octets of one of them
  pub blocks : Areas → ℕ
  pub octets : Areas → ℕ → ℕ
  -- a start, and reading a frame
  pub start : Station → Settings → Switching
  pub read : List ℕ → Read
  -- next after a number in the list with ours
  pub next : ℕ → Members → ℕ → ℕ
  -- what `settle` prints
  pub output : List ℕ → List ℕ

-- the definitions that the contracts cite, and for `settle`, which prints, that of its whole output
abbrev pub rules : Rules
rules = record {
  view = view_after;
  blocks = blocks_of;
  octets = length_of;
  start = start_of;
  read = read_of;
  next = next_after;
  output = output_of;
}

abbrev pub every : {A : Type 0} → (A → Bool) → List A → Bool
every test [] = true
every test (a ∷ rest) = test a && every test rest

abbrev same : List ℕ → List ℕ → Bool
same [] [] = true
same [] (b ∷ other) = false
same (a ∷ one) [] = false
same (a ∷ one) (b ∷ other) = eqb a b && same one other

-- areas of so many words, area 1 filled first
abbrev areas_of : ℕ → Areas
areas_of words = record { one = record { address = 0; size = min 512 words }; two = record { address = 0; size = words - 512 } }

-- areas of one part of area 1
abbrev area_one : ℕ → ℕ → Areas
area_one address size = record { one = record { address = address; size = size }; two = record { address = 0; size = 0 } }

abbrev same_part : Part → Part → Bool
same_part one other = eqb one.address other.address && eqb one.size other.size

-- a station that was never started is started with these areas
abbrev started : Rules → Areas → Switching
started by areas = by.start never (record { number = 1; areas = areas; watch = record { 0 = 1 } })

-- a frame with these areas is read, for a cyclic one the first block of its turn
abbrev heard : Rules → Areas → Code → Read
heard by areas code =
    by.read
    (frame_of
    (record {
      length = 0;
      source = 1;
      destination = 2;
      code = code;
      areas = areas;
      block = 1;
      blocks = blocks_of areas;
      size = length_of areas 1;
      watch = record { 0 = 1 };
    })
    (replicate 1024 0))

-- "7 looks at cyclic frames and requests"
abbrev codes : List Code
codes = Token ∷ Cyclic ∷ Request ∷ []

-- done, with these areas
abbrev starts_with : Areas → Switched → Station → Bool
starts_with areas (Ok tt) station = same_part station.own.areas.one areas.one
starts_with areas (Err refusal) station = false

abbrev start_refused : ℕ → Switched → Bool
start_refused number (Ok tt) = false
start_refused number (Err refusal) = eqb (number_of refusal) number

abbrev reads_with : Areas → Read → Bool
reads_with areas (Ok fields) = same_part fields.areas.one areas.one
reads_with areas (Err refusal) = false

abbrev read_refused : ℕ → Read → Bool
read_refused number (Ok fields) = false
read_refused number (Err refusal) = eqb (number_of refusal) number

-- the list of a station of the ring: all the others
abbrev list_of : ℕ → List ℕ → Members
list_of ours [] = no_members
list_of ours (number ∷ ring) = cond (eqb number ours) (list_of ours ring) (listing (list_of ours ring) number no_areas no_watch no_areas)

-- what the rules say of a case is what the paper says: of areas both start and reading, of next each station of the ring
pub holds : Rules → Case → Bool
unfolding decimal_at run_from lines_of entry_of forms_from step_lines read_of fields_of header_of fixed_for
holds by (moves view source destination after) = eqb (by.view view source destination) after
holds by (cuts words blocks last) = eqb (by.blocks (areas_of words)) blocks && eqb (by.octets (areas_of words) blocks) last
holds by (fits address size) =
    starts_with (area_one address size) (started by (area_one address size)).answer (started by (area_one address size)).station
    && every (λ (code : Code). reads_with (area_one address size) (heard by (area_one address size) code)) codes
holds by (refused address size number) =
    start_refused number (started by (area_one address size)).answer
    && every (λ (code : Code). read_refused number (heard by (area_one address size) code)) codes
holds by (follows number ring after) = every (λ (ours : ℕ). eqb (by.next ours (list_of ours ring) number) after) ring
holds by (settles input output) = same (by.output input) output

-- every marked case holds of the rules
pub marked_hold : every (holds rules) marked ≡ true
unfolding holds marked
marked_hold = refl
