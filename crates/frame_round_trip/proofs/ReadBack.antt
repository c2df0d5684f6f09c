-- What is written reads back to the same fields and the same data. Assumes nothing.
use Rattle.std.specs.Prelude.{Some, Ok, ◌≡◌, ◌&&◌, ◌||◌, ◌++◌, ◌+◌, ◌-◌, ◌≤◌}
use Rattle.laws.specs.Usual.{refl, sym, ap, ◌∙◌, Bool, true, false, cond, not, List, ℕ, arith, length, take, drop}
use Rattle.std.proofs.Common.{drop_at}
use borrow.Author.Tests.{le-leb, eq-eqb}
use Rattle.area.specs.Areas.{in_range}
use Rattle.block.specs.Blocks.{blocks_of, length_of}
use Rattle.block.specs.Cut.{at_most}
use Rattle.area.specs.declared.Areas.{Areas}
use Rattle.frame.specs.Codes.{code_of, code_number, is_token, is_cyclic, carries_areas}
use Rattle.frame.specs.Octets.{word_at, long_at}
use Rattle.frame.specs.Positions.{TFL, TCD}
use Rattle.frame.specs.declared.Code.{Code}
use Rattle.frame.specs.declared.Code.TheVariants.{Token, Cyclic, Request, Trigger}
use Rattle.frame.specs.declared.Fields.{Fields}
use Rattle.frame_round_trip.proofs.Accepted.{reads}
use Rattle.frame_round_trip.specs.Accepted.{Accepted}
use Rattle.frame_reading.specs.Reading.{whole, marked, fields_of, is_station, blocked, read_of, data_size, data_of}
use Rattle.frame_round_trip.proofs.Digits.{word_back, long_back}
use Rattle.frame_writing.specs.Lengths.{length_header, length_frame}
use Rattle.frame_writing.specs.Writing.{fixed_for, fixed, header_of, frame_of, everyone, no_areas}
use Rattle.frame_round_trip.specs.ReadBack.{Sendable}

-- the fields of a header stand in it again, whatever comes behind
fields_back : (fields : Fields) (rest : List ℕ) → fields_of fields.code (header_of fields ++ rest) ≡ fields
unfolding fields_of header_of
fields_back fields rest = simp (long_back, word_back)

code_back : (code : Code) → code_of (code_number code) ≡ Some code
code_back Token = refl
code_back Cyclic = refl
code_back Request = refl
code_back Trigger = refl

coded_back : (fields : Fields) (rest : List ℕ) → code_of (word_at (header_of fields ++ rest) TCD) ≡ Some fields.code
unfolding header_of
coded_back fields rest = ap code_of (word_back (code_number fields.code)) ∙ code_back fields.code

long_header : (fields : Fields) (rest : List ℕ) → long_at (header_of fields ++ rest) TFL ≡ fields.length
unfolding header_of
long_header fields rest = long_back fields.length

marked_header : (fields : Fields) (rest : List ℕ) → marked (header_of fields ++ rest) ≡ true
unfolding header_of
marked_header fields rest = refl

-- each test of the reading, at the fields as they are fixed for the code
addressed_for : (code : Code) (source destination : ℕ) → is_station source ≡ true → (is_token code ≡ true → is_station destination ≡ true) →
    (is_station source && (not (is_token code) || is_station (cond (is_cyclic code) destination everyone))) ≡ true
addressed_for Token source destination p q = simp (p, q refl)
addressed_for Cyclic source destination p q = simp p
addressed_for Request source destination p q = simp p
addressed_for Trigger source destination p q = simp p

ranged_for : (code : Code) (areas : Areas) → (carries_areas code ≡ true → in_range areas ≡ true) →
    (not (carries_areas code) || in_range (cond (carries_areas code) areas no_areas)) ≡ true
ranged_for Token areas p = p refl
ranged_for Cyclic areas p = p refl
ranged_for Request areas p = p refl
ranged_for Trigger areas p = refl

-- of a block that the areas have, behind a header of 64 octets
blocked_so : (fields : Fields) → fields.blocks ≡ blocks_of fields.areas → 1 ≤ fields.block → fields.block ≤ fields.blocks →
    fields.size ≡ length_of fields.areas fields.block → blocked (64 + fields.size) fields ≡ true
blocked_so fields total first last size =
    let part : 64 + fields.size - fields.size ≡ 64 = omega arith in
    simp (eq-eqb _ _ total, le-leb _ _ first, le-leb _ _ last, eq-eqb _ _ size, part)

blocked_for : (code : Code) (fields : Fields) → (is_cyclic code ≡ true → blocked (64 + fields.size) fields ≡ true) →
    (not (is_cyclic code) || blocked (64 + cond (is_cyclic code) fields.size 0) (fixed_for code fields)) ≡ true
unfolding fixed_for
blocked_for Token fields p = p refl
blocked_for Cyclic fields p = p refl
blocked_for Request fields p = refl
blocked_for Trigger fields p = refl

-- a block has at most 1024 octets, and the other frames have no data
small : (test : Bool) (n : ℕ) → (test ≡ true → n ≤ 1024) → cond test n 0 ≤ 1024
small true n p = p refl
small false n p = omega arith

pub data_small : (fields : Fields) → Sendable fields → data_size fields ≤ 1024
data_small fields ok = small (is_cyclic fields.code) fields.size (λ e. rw (ok.size e) (at_most fields.areas fields.block))

-- fixing the fields does not change how much data the frame carries
same_size : (test : Bool) (n m : ℕ) → cond test (cond test n m) 0 ≡ cond test n 0
same_size true n m = refl
same_size false n m = refl

data_fixed : (fields : Fields) → data_size (fixed fields) ≡ data_size fields
unfolding fixed_for
data_fixed fields = same_size (is_cyclic fields.code) fields.size 0x60

module _ (fields : Fields) (block : List ℕ) (ok : Sendable fields) (enough : data_size fields ≤ length block) where
  long : length (frame_of fields block) ≡ 64 + data_size fields
  long = length_frame fields block enough

  within : whole (frame_of fields block) ≡ true
  within =
      let small = data_small fields ok in
      let low : 64 ≤ length (frame_of fields block) = rw long (omega arith) in
      let high : length (frame_of fields block) ≤ 1120 = rw long (omega arith) in
      simp (le-leb _ _ low, le-leb _ _ high)

  -- the frame passes every test of the reading, and holds the fields as they are fixed for its code
  pub accepted_back : Accepted (frame_of fields block) (fixed fields)
  unfolding fixed_for
  accepted_back = record {
    is_whole = within;
    is_marked = marked_header (fixed fields) (take (data_size fields) block);
    is_long = eq-eqb _ _ (long_header (fixed fields) (take (data_size fields) block) ∙ sym long);
    is_coded = coded_back (fixed fields) (take (data_size fields) block);
    holds = fields_back (fixed fields) (take (data_size fields) block);
    is_addressed = addressed_for fields.code fields.source fields.destination ok.source ok.destination;
    is_ranged = ranged_for fields.code fields.areas ok.areas;
    is_blocked =
        ap (λ (n : ℕ). not (is_cyclic fields.code) || blocked n (fixed fields)) long
        ∙ blocked_for fields.code fields (λ e. blocked_so fields (ok.total e) (ok.first e) (ok.last e) (ok.size e));
  }

  pub fields_read : read_of (frame_of fields block) ≡ Ok (fixed fields)
  fields_read = reads accepted_back

  pub data_read : data_of (frame_of fields block) (fixed fields) ≡ take (data_size fields) block
  data_read =
      let front : length (frame_of fields block) - data_size (fixed fields) ≡ 64 = rw (data_fixed fields, long) (omega arith) in
      ap (λ (n : ℕ). drop n (frame_of fields block)) front
      ∙ drop_at (header_of (fixed fields)) (take (data_size fields) block) 64 (length_header (fixed fields))
