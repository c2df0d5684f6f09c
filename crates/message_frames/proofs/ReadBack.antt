-- A message frame that we write reads back to the same fields and the same data. Assumes nothing.
use Rattle.std.specs.Prelude.{◌≡◌, ◌&&◌, ◌++◌, ◌+◌, ◌-◌, ◌≤◌}
use Rattle.laws.specs.Usual.{refl, sym, ap, ◌∙◌, true, List, ℕ, arith, length, take, drop, leb}
use Rattle.std.proofs.Common.{length-append, drop_at, length-take-le, take_at, le-leb, eq-eqb}
use Rattle.frame.specs.Octets.{word_at, long_at}
use Rattle.frame.specs.Positions.{TFL, TCD}
use Rattle.frame_reading.specs.Reading.{whole, marked, long}
use Rattle.frame_round_trip.proofs.Digits.{word_back, long_back}
use Rattle.laws.specs.Tests.{both}
use Rattle.message.specs.declared.Letter.{Letter}
use Rattle.message_frames.specs.Frames.{letter_in, measured, whole_length, header_of, frame_of, output_of}

pub length_header : (letter : Letter) → length (header_of letter) ≡ 64
unfolding header_of
length_header letter = refl

letter_header : (letter : Letter) (rest : List ℕ) → letter_in (header_of letter ++ rest) ≡ letter
unfolding letter_in header_of
letter_header letter rest = simp (long_back, word_back)

code_header : (letter : Letter) (rest : List ℕ) → word_at (header_of letter ++ rest) TCD ≡ letter.message.code
unfolding header_of
code_header letter rest = word_back letter.message.code

long_header : (letter : Letter) (rest : List ℕ) → long_at (header_of letter ++ rest) TFL ≡ whole_length letter
unfolding header_of
long_header letter rest = long_back (whole_length letter)

marked_header : (letter : Letter) (rest : List ℕ) → marked (header_of letter ++ rest) ≡ true
unfolding header_of
marked_header letter rest = refl

module _ (letter : Letter) (mail : List ℕ) (enough : letter.octets ≤ length mail) where
  pub length_frame : length (frame_of letter mail) ≡ whole_length letter
  length_frame =
      rw (length-append (header_of letter) (take letter.octets mail), length_header letter, length-take-le letter.octets mail enough)

  -- the frame stands in front of the output
  pub frame_written : (output : List ℕ) → take (whole_length letter) (output_of letter mail output) ≡ frame_of letter mail
  frame_written output = take_at (frame_of letter mail) (drop (whole_length letter) output) (whole_length letter) length_frame

  -- its fields and its data
  pub letter_read : letter_in (frame_of letter mail) ≡ letter
  letter_read = letter_header letter (take letter.octets mail)

  pub code_read : word_at (frame_of letter mail) TCD ≡ letter.message.code
  code_read = code_header letter (take letter.octets mail)

  pub letter_data : drop (length (frame_of letter mail) - letter.octets) (frame_of letter mail) ≡ take letter.octets mail
  letter_data =
      let front : length (frame_of letter mail) - letter.octets ≡ 64 = rw length_frame (omega arith) in
      ap (λ (n : ℕ). drop n (frame_of letter mail)) front
      ∙ drop_at (header_of letter) (take letter.octets mail) 64 (length_header letter)

  -- 1, 2, 3 and 8 let it through
  pub is_marked : marked (frame_of letter mail) ≡ true
  is_marked = marked_header letter (take letter.octets mail)

  pub is_long : long (frame_of letter mail) ≡ true
  is_long = eq-eqb _ _ (long_header letter (take letter.octets mail) ∙ sym length_frame)

  module _ (few : letter.octets ≤ 1024) where
    pub is_whole : whole (frame_of letter mail) ≡ true
    is_whole =
        let low : 64 ≤ length (frame_of letter mail) = rw length_frame (omega arith) in
        let high : length (frame_of letter mail) ≤ 1120 = rw length_frame (omega arith) in
        both (le-leb _ _ low) (le-leb _ _ high)

    pub is_measured : measured (length (frame_of letter mail)) letter ≡ true
    is_measured =
        let front : length (frame_of letter mail) - letter.octets ≡ 64 = rw length_frame (omega arith) in
        both (le-leb _ _ few) (ap (λ (n : ℕ). leb 64 n && leb n 96) front)
