-- What is proved of the definitions in specs/WriteBack.antt.
use Rattle.std.specs.Prelude.{Some, None, Ok, ◌≡◌, ◌∷◌, ◌++◌, ◌+◌, ◌-◌, ◌/◌, ◌%◌, ◌<◌, ◌≤◌}
use Rattle.laws.specs.Usual.{[], refl, sym, ap, ◌∙◌, Bool, true, false, cond, List, ℕ, arith, length, take, eqb, leb}
use mathlib.Core.List.{head-eq_of_cons-eq, tail-eq_of_cons-eq}
use Rattle.std.proofs.Common.{length-drop, take_all, le_of_eq, eqb-true, leb-true}
use Rattle.laws.specs.Tests.{first}
use Rattle.frame.specs.Codes.{code_of, code_number, is_cyclic}
use Rattle.frame.specs.Octets.{octet_at, word_at, long_at}
use Rattle.frame.specs.Positions.{header_length, TFL, TCD}
use Rattle.frame.specs.declared.Code.{Code}
use Rattle.frame.specs.declared.Code.TheVariants.{Token, Cyclic, Request, Trigger}
use Rattle.frame.specs.declared.Fields.{Fields}
use Rattle.frame_round_trip.proofs.Accepted.{accepted}
use Rattle.frame_round_trip.specs.Accepted.{Accepted}
use Rattle.frame_round_trip.proofs.Shown.{source_is, destination_is, areas_are, block_is, length_is}
use Rattle.frame_reading.specs.Reading.{fields_of, read_of, data_size, data_of}
use Rattle.frame_round_trip.proofs.Digits.{high_back, low_back, first_back, second_back, third_back, fourth_back}
use Rattle.frame_round_trip.specs.Places.{run, length_places, field_places, free_places, fixed_octets, other_octets, places_in, octets_in, without, among, octets_at}
use Rattle.frame_round_trip.proofs.ReadBack.{data_small, data_read}
use Rattle.frame_round_trip.specs.ReadBack.{Sendable}
use Rattle.frame_writing.specs.Lengths.{length_frame}
use Rattle.frame_writing.specs.Writing.{fixed_for, fixed, header_of, whole_length}
use Rattle.frame_round_trip.specs.WriteBack.{Octets, rewritten, WrittenBack}

-- places where two lists agree, and fewer of them
fewer : (others places w s : List ℕ) → octets_at places w ≡ octets_at places s → octets_at (without others places) w ≡ octets_at (without others places) s
fewer others [] w s e = refl
fewer others (place ∷ rest) w s e = by (among place others) (fewer others rest w s (tail-eq_of_cons-eq e))
  where
    by : (test : Bool) → octets_at (without others rest) w ≡ octets_at (without others rest) s →
        octets_at (cond test (without others rest) (place ∷ without others rest)) w ≡ octets_at (cond test (without others rest) (place ∷ without others rest)) s
    by true more = more
    by false more = cc (head-eq_of_cons-eq e)

-- a header made of the fields that stand in a list has the list's octets at their places
module _ (s : List ℕ) (small : Octets s) where
  high : (at : ℕ) → word_at s at / 256 ≡ octet_at s at
  high at = high_back (octet_at s at) (octet_at s (at + 1)) (small (at + 1))

  low : (at : ℕ) → word_at s at % 256 ≡ octet_at s (at + 1)
  low at = low_back (octet_at s at) (octet_at s (at + 1)) (small (at + 1))

  same_places : (code : Code) (rest : List ℕ) → code_number code ≡ word_at s TCD → octets_at field_places (header_of (fields_of code s) ++ rest) ≡ octets_at field_places s
  unfolding header_of fields_of
  same_places code rest e =
      simp (e, high 40, low 40, high 44, low 44, high 46, low 46, high 48, low 48, high 50, low 50, high 58, low 58)

  same_length : (fields : Fields) (rest : List ℕ) → fields.length ≡ long_at s TFL → octets_at length_places (header_of fields ++ rest) ≡ octets_at length_places s
  unfolding header_of
  same_length fields rest e =
      let a = octet_at s 4 in
      let b = octet_at s 5 in
      let c = octet_at s 6 in
      let d = octet_at s 7 in
      simp (e, first_back a b c d (small 5) (small 6) (small 7), second_back a b c d (small 5) (small 6) (small 7), third_back a b c d (small 5) (small 6) (small 7), fourth_back a b c d (small 5) (small 6) (small 7))

-- fixing the fields for a code leaves the octets at the places that it does not fix
free_places_lem : (code : Code) (fields : Fields) (rest : List ℕ) → octets_at (free_places code) (header_of (fixed_for code fields) ++ rest) ≡ octets_at (free_places code) (header_of fields ++ rest)
unfolding header_of fixed_for
free_places_lem Token fields rest = refl
free_places_lem Cyclic fields rest = refl
free_places_lem Request fields rest = refl
free_places_lem Trigger fields rest = refl

-- at the places that it does fix, and at those of no field that the paper names, stand the octets of the tables
fixed_places : (code : Code) (fields : Fields) (rest : List ℕ) →
    octets_at (places_in (fixed_octets code)) (header_of (fixed_for code fields) ++ rest) ≡ octets_in (fixed_octets code)
unfolding header_of fixed_for
fixed_places Token fields rest = refl
fixed_places Cyclic fields rest = refl
fixed_places Request fields rest = refl
fixed_places Trigger fields rest = refl

other_places : (fields : Fields) (rest : List ℕ) → octets_at (places_in other_octets) (header_of fields ++ rest) ≡ octets_in other_octets
unfolding header_of
other_places fields rest = refl

-- no place of the header is left out: each is of a field, of TFL, or of the second table
pub all_placed : without (field_places ++ length_places ++ places_in other_octets) (run header_length 0) ≡ []
all_placed = refl

-- a length below 65,536 stands in the last two octets of TFL
short_length : (fields : Fields) (rest : List ℕ) → fields.length < 65536 →
    octets_at length_places (header_of fields ++ rest) ≡ 0 ∷ 0 ∷ fields.length / 256 ∷ fields.length % 256 ∷ []
unfolding header_of
short_length fields rest h =
    let n = fields.length in
    let a : n / 16777216 ≡ 0 = omega arith in
    let b : n / 65536 % 256 ≡ 0 = omega arith in
    let c : n / 256 % 256 ≡ n / 256 = omega arith in
    simp (a, b, c)

-- a number that is read as a code is that code's number
pub code_number_lem : (number : ℕ) (code : Code) → code_of number ≡ Some code → code_number code ≡ number
code_number_lem number code e = by (eqb number 65000) refl (eqb number 65001) refl (eqb number 65002) refl (eqb number 65012) refl e
  where
    same : {a b : Code} → Some a ≡ Some b → a ≡ b
    same p = cc

    by : (a : Bool) → eqb number 65000 ≡ a → (b : Bool) → eqb number 65001 ≡ b → (c : Bool) → eqb number 65002 ≡ c → (d : Bool) → eqb number 65012 ≡ d →
        cond a (Some Token) (cond b (Some Cyclic) (cond c (Some Request) (cond d (Some Trigger) None))) ≡ Some code → code_number code ≡ number
    by true p b q c r d t e = ap code_number (sym (same e)) ∙ sym (eqb-true number 65000 p)
    by false p true q c r d t e = ap code_number (sym (same e)) ∙ sym (eqb-true number 65001 q)
    by false p false q true r d t e = ap code_number (sym (same e)) ∙ sym (eqb-true number 65002 r)
    by false p false q false r true t e = ap code_number (sym (same e)) ∙ sym (eqb-true number 65012 t)
    by false p false q false r false t e = let z : ◌≡◌ {A = ℕ} 0 1 = cc in absurd (omega arith)

-- fields that were read can be sent
read_sendable : {s : List ℕ} {fields : Fields} → Accepted s fields → Sendable fields
read_sendable a = record {
  source = source_is a;
  destination = destination_is a;
  areas = areas_are a;
  total = λ e. (block_is a e).total;
  first = λ e. (block_is a e).from;
  last = λ e. (block_is a e).to;
  size = λ e. (block_is a e).size;
}

-- a frame that was read holds our header and its data
whole_given : {s : List ℕ} {fields : Fields} → Accepted s fields → whole_length fields ≤ length s
whole_given {s} {fields} a = by (is_cyclic fields.code) (λ e. (block_is a e).least)
  where
    by : (test : Bool) → (test ≡ true → 64 ≤ length s - fields.size) → 64 + cond test fields.size 0 ≤ length s
    by true h = let part = h refl in omega arith
    by false h = leb-true 64 (length s) (first (leb 64 (length s)) (leb (length s) 1120) a.is_whole)

pub written_back : (s : List ℕ) (fields : Fields) → Octets s → read_of s ≡ Ok fields → WrittenBack s fields
unfolding fixed_for
written_back s fields small e =
    let a = accepted s fields e in
    let given = whole_given a in
    let size : length (data_of s fields) ≡ data_size fields = rw length-drop (omega arith) in
    let ours : length (rewritten s fields) ≡ whole_length fields = length_frame fields (data_of s fields) (le_of_eq (sym size)) in
    let within = data_small fields (read_sendable a) in
    let rest = take (data_size fields) (data_of s fields) in
    record {
      octets = data_read fields (data_of s fields) (read_sendable a) (le_of_eq (sym size)) ∙ take_all (data_size fields) (data_of s fields) (le_of_eq size);
      places =
          free_places_lem fields.code fields rest
          ∙ fewer (places_in (fixed_octets fields.code)) field_places (header_of fields ++ rest) s
          (ap (λ (f : Fields). octets_at field_places (header_of f ++ rest)) (sym a.holds)
          ∙ same_places s small fields.code rest (code_number_lem (word_at s TCD) fields.code a.is_coded));
      fixed_octets_lem = fixed_places fields.code fields rest;
      other_octets_lem = other_places (fixed fields) rest;
      header_and_data = omega arith;
      no_longer = omega arith;
      lengths = λ most. same_length s small (fixed fields) rest (let same : whole_length fields ≡ length s = omega arith in same ∙ sym (length_is a));
      own_length = rw ours (short_length (fixed fields) rest (omega arith));
    }
