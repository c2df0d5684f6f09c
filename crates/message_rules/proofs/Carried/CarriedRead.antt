-- The base reads a cyclic frame with a confirmation in it as it reads it without, but for its length. Assumes nothing.
use Rattle.std.specs.Prelude.{Ok, ◌≡◌, ◌&&◌, ◌||◌, ◌+◌, ◌-◌, ◌*◌, ◌≤◌}
use Rattle.laws.specs.Usual.{refl, sym, ap, ap₂, ◌∙◌, Bool, true, cond, not, List, ℕ, arith, length, drop, eqb, leb}
use Rattle.std.proofs.Math.Bool.{or-true}
use Rattle.std.proofs.Common.{le-leb, eq-eqb, eqb-true}
use Rattle.block.specs.Blocks.{length_of}
use Rattle.block.specs.Cut.{at_most}
use Rattle.frame.specs.Codes.{code_of, is_cyclic}
use Rattle.frame.specs.Octets.{octet_at, word_at, long_at}
use Rattle.frame.specs.Positions.{TFL, SNA, DNA, TCD, C_AD1, C_SZ1, C_AD2, C_SZ2, CBN, TBN, BSIZE, TW}
use Rattle.frame.specs.declared.Code.{Code}
use Rattle.frame.specs.declared.Fields.{Fields}
use Rattle.frame_reading.specs.Reading.{marked, fields_of, totalled, numbered, measured, blocked, read_of, data_size, data_of}
use Rattle.frame_round_trip.specs.Accepted.{Accepted}
use Rattle.frame_round_trip.proofs.Accepted.{accepted as passed}
use Rattle.laws.specs.Tests.{both, first, second, implied}
use Rattle.message.specs.declared.Confirmation.{Confirmation}
use Rattle.message_frames.proofs.Carrying.{is_elsewhere, elsewhere, word_elsewhere, length_carrying, length_read, behind}
use Rattle.message_frames.specs.Confirmations.{carrying}
use Rattle.message_frames.specs.Places.{confirmation_length}

-- the fields with another length
abbrev pub relength : ℕ → Fields → Fields
relength count fields = record {
  length = count;
  source = fields.source;
  destination = fields.destination;
  code = fields.code;
  areas = fields.areas;
  block = fields.block;
  blocks = fields.blocks;
  size = fields.size;
  watch = fields.watch;
}

-- octets that are the same wherever neither TFL nor M_CTL stands hold the same fields, but for the length
module _ (t s : List ℕ) (same : (at : ℕ) → is_elsewhere at ≡ true → octet_at t at ≡ octet_at s at) where
  word_same : (at : ℕ) → is_elsewhere at ≡ true → is_elsewhere (at + 1) ≡ true → word_at t at ≡ word_at s at
  word_same at e f = ap₂ (λ (a b : ℕ). a * 256 + b) (same at e) (same (at + 1) f)

  marked_same : marked t ≡ marked s
  marked_same = rw (same 0 refl, same 1 refl, same 2 refl, same 3 refl)

  fields_same : (code : Code) (count : ℕ) → long_at t TFL ≡ count → fields_of code t ≡ relength count (fields_of code s)
  unfolding fields_of
  fields_same code count long =
      simp (
        long,
        same SNA refl,
        same DNA refl,
        word_same C_AD1 refl refl,
        word_same C_SZ1 refl refl,
        word_same C_AD2 refl refl,
        word_same C_SZ2 refl refl,
        same CBN refl,
        same TBN refl,
        word_same BSIZE refl refl,
        same TW refl,
      )

-- a cyclic frame with a header of 64 octets
pub record Plain (s : List ℕ) (fields : Fields) : Type 0 where
  pub accepted : Accepted s fields
  pub cyclic : is_cyclic fields.code ≡ true
  pub header : 64 + fields.size ≡ length s

-- a cyclic frame that is read, whose length is that of its block and 64
pub plain_of : (s : List ℕ) (fields : Fields) → read_of s ≡ Ok fields → is_cyclic fields.code ≡ true → fields.length ≡ 64 + fields.size → Plain s fields
unfolding fields_of
plain_of s fields read cyclic long =
    let passes = passed s fields read in
    record {
      accepted = passes;
      cyclic = cyclic;
      header =
          sym long ∙ sym (ap (λ (f : Fields). f.length) passes.holds) ∙ eqb-true (long_at s TFL) (length s) passes.is_long;
    }

-- its BSIZE is where the reading looks for it
pub plain_size : {s : List ℕ} {fields : Fields} → Plain s fields → 64 + word_at s BSIZE ≡ length s
unfolding fields_of
plain_size plain = ap (λ (n : ℕ). 64 + n) (ap (λ (f : Fields). f.size) plain.accepted.holds) ∙ plain.header

module _ (confirmation : Confirmation) (s : List ℕ) (fields : Fields) (plain : Plain s fields) where
  abbrev with_it : List ℕ
  with_it = carrying confirmation s

  abbrev longer : Fields
  longer = relength (length s + confirmation_length) fields

  least : 64 ≤ length s
  least = omega (arith, plain.header)

  length_with : length with_it ≡ length s + confirmation_length
  length_with = length_carrying confirmation s least

  tests : blocked (length s) fields ≡ true
  tests = implied (is_cyclic fields.code) (blocked (length s) fields) plain.accepted.is_blocked plain.cyclic

  few : fields.size ≤ 1024
  few =
      let rest = second (totalled fields) (numbered fields && measured (length s) fields) tests in
      let third = second (numbered fields) (measured (length s) fields) rest in
      let size = eqb-true fields.size (length_of fields.areas fields.block) (first (eqb fields.size (length_of fields.areas fields.block)) _ third) in
      rw size (at_most fields.areas fields.block)

  measured_with : measured (length with_it) longer ≡ true
  measured_with =
      let rest = second (totalled fields) (numbered fields && measured (length s) fields) tests in
      let third = second (numbered fields) (measured (length s) fields) rest in
      let header = plain.header in
      let part : length with_it - fields.size ≡ 84 = rw length_with (omega arith) in
      both (first (eqb fields.size (length_of fields.areas fields.block)) _ third) (ap (λ (n : ℕ). leb 64 n && leb n 96) part)

  fields_with : fields_of fields.code with_it ≡ longer
  fields_with =
      fields_same with_it s (elsewhere confirmation s least) fields.code (length s + confirmation_length) (length_read confirmation s least)
      ∙ ap (relength (length s + confirmation_length)) plain.accepted.holds

  -- it passes every test of the reading,
  pub accepted_with : Accepted with_it longer
  accepted_with =
      let header = plain.header in
      let size = few in
      let low : 64 ≤ length with_it = rw length_with (omega arith) in
      let high : length with_it ≤ 1120 = rw length_with (omega arith) in
      let same = elsewhere confirmation s least in
      let first_tests = first (totalled fields) (numbered fields && measured (length s) fields) tests in
      let rest = second (totalled fields) (numbered fields && measured (length s) fields) tests in
      record {
        is_whole = both (le-leb _ _ low) (le-leb _ _ high);
        is_marked = marked_same with_it s same ∙ plain.accepted.is_marked;
        is_long = eq-eqb _ _ (length_read confirmation s least ∙ sym length_with);
        is_coded = ap code_of (word_elsewhere confirmation s least TCD refl refl) ∙ plain.accepted.is_coded;
        holds = fields_with;
        is_addressed = plain.accepted.is_addressed;
        is_ranged = plain.accepted.is_ranged;
        is_blocked =
            ap (λ (t : Bool). not (is_cyclic fields.code) || t)
            (both first_tests (both (first (numbered fields) (measured (length s) fields) rest) measured_with))
            ∙ or-true (not (is_cyclic fields.code));
      }

  -- and its data are the same
  pub data_with : data_of with_it longer ≡ data_of s fields
  data_with =
      let header = plain.header in
      let size : data_size fields ≡ fields.size = ap (λ (t : Bool). cond t fields.size 0) plain.cyclic in
      let front : length with_it - data_size longer ≡ 84 = rw (length_with, size) (omega arith) in
      let plain_front : 64 ≡ length s - data_size fields = rw size (omega arith) in
      ap (λ (n : ℕ). drop n with_it) front ∙ behind confirmation s least ∙ ap (λ (n : ℕ). drop n s) plain_front
