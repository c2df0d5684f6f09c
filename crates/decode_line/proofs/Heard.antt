-- A line that came octet by octet, into a buffer of 1121 octets or more, is answered as the whole line is: a frame of more octets than the
-- buffer has is refused like one that just does not fit. Assumes nothing.
use Rattle.std.specs.Prelude.{Option, Some, None, Err, ◌≡◌, ◌∷◌, ◌++◌, ◌+◌, ◌*◌, ◌<◌, ◌≤◌}
use Rattle.laws.specs.Usual.{refl, sym, ap, ◌∙◌, List, [], ℕ, arith, length, take, set}
use Rattle.std.proofs.Common.{append-nil, append_assoc, add-one, length-set, length-take-le, take_all, take-suc-set, lt-ltb, le-ltb, le-leb}
use Rattle.std.proofs.Math.Decide.{dec_le, dec_lt}
use Rattle.std.proofs.lemmas.List.{take-append-le}
use Rattle.std.proofs.Math.Seq.{set_out}
use Rattle.std.proofs.lemmas.Bool.{lt-leb}
use Rattle.frame.specs.declared.Refusal.TheVariants.{Cut}
use Rattle.frame_reading.specs.Reading.{read_of}
use Rattle.text_hexadecimal.specs.Digits.{Below, digit_below}
use Rattle.decode_line.specs.Gathering.{fresh, octet_of, count_after, pushed_by, buffer_by, answer_by, answered}
use Rattle.text_hexadecimal.specs.Hexadecimal.{Spelled, octets, neither, joined, spelled, digit_of}
use Rattle.decode_line.specs.Line.{answer_for, line_answer, pushed_all, buffer_all}
use Rattle.decode_line.specs.declared.Answer.{Answer}
use Rattle.decode_line.specs.declared.Gathered.{Gathered}
use Rattle.decode_line.specs.declared.Pending.TheVariants.{Nothing, Bad}
use Rattle.decode_line.specs.declared.Answer.TheVariants as answers

-- so many octets stored, and nothing pending; or a bad line
abbrev even : ℕ → Gathered
even count = record { count = count; pending = Nothing }

abbrev spoilt : ℕ → Gathered
spoilt count = record { count = count; pending = Bad }

-- a bad line stays bad
bad_stays : (room count : ℕ) (line : List ℕ) → (pushed_all room (spoilt count) line).pending ≡ Bad
bad_stays room count [] = refl
bad_stays room count (octet ∷ line) = by (digit_of octet) (bad_stays room count line)
  where
    by : (digit : Option ℕ) → (pushed_all room (spoilt count) line).pending ≡ Bad → (pushed_all room (pushed_by room (spoilt count) digit) line).pending ≡ Bad
    by (Some d) more = more
    by None more = more

bad_answer : (gathered : Gathered) (buffer : List ℕ) → gathered.pending ≡ Bad → answered gathered buffer ≡ answers.Bad
bad_answer gathered buffer e = ap (answer_by gathered.count buffer) e

-- the answer to the octets of a line behind others that are stored, in a buffer of so many
abbrev answer_behind : ℕ → List ℕ → Spelled → Answer
answer_behind room before (octets frame) = answers.Heard (read_of (take room (before ++ frame)))
answer_behind room before neither = answers.Bad

-- one octet more, stored where there is room
store_one : (room count octet : ℕ) (buffer frame : List ℕ) → length buffer ≡ room → count ≤ room →
    take room (take (count_after room count) (set buffer count octet) ++ frame) ≡ take room (take count buffer ++ (octet ∷ frame))
store_one room count octet buffer frame full h = by (dec_lt count room)
  where
    by : Dec (count < room) → take room (take (count_after room count) (set buffer count octet) ++ frame) ≡ take room (take count buffer ++ (octet ∷ frame))
    by (yes inside) =
        let more : take (count + 1) (set buffer count octet) ≡ take count buffer ++ (octet ∷ []) = rw (add-one count) (take-suc-set buffer count octet (omega arith)) in
        rw (lt-ltb count room inside, more, append_assoc (take count buffer) (octet ∷ []) frame)
    by (no outside) =
        let here : room ≤ length (take count buffer) = rw (length-take-le count buffer (omega arith)) (omega arith) in
        rw (le-ltb count room (omega arith), set_out buffer count octet (omega arith), take-append-le room (take count buffer) frame here, take-append-le room (take count buffer) (octet ∷ frame) here)

octet_of_lem : (high low : ℕ) → high < 16 → low < 16 → octet_of high low ≡ high * 16 + low
octet_of_lem high low p q = omega arith

-- one octet alone spells nothing
alone : (room count : ℕ) (buffer : List ℕ) (digit : Option ℕ) → answered (pushed_by room (even count) digit) (buffer_by (even count) buffer digit) ≡ answers.Bad
alone room count buffer (Some d) = refl
alone room count buffer None = refl

-- a pair of digits spells one octet more
paired : (room count : ℕ) (buffer : List ℕ) (high low : ℕ) (rest : Spelled) → length buffer ≡ room → count ≤ room → high < 16 → low < 16 →
    answer_behind room (take (count_after room count) (set buffer count (octet_of high low))) rest ≡ answer_behind room (take count buffer) (joined (Some high) (Some low) rest)
paired room count buffer high low (octets frame) full h p q =
    ap (λ (s : List ℕ). answers.Heard (read_of s))
    (store_one room count (octet_of high low) buffer frame full h
    ∙ ap (λ (octet : ℕ). take room (take count buffer ++ (octet ∷ frame))) (octet_of_lem high low p q))
paired room count buffer high low neither full h p q = refl

count_within : (room count : ℕ) → count ≤ room → count_after room count ≤ room
count_within room count h = by (dec_lt count room)
  where
    by : Dec (count < room) → count_after room count ≤ room
    by (yes inside) = rw (lt-ltb count room inside) (omega arith)
    by (no outside) = rw (le-ltb count room (omega arith)) h

-- the claim of `gather` for a line that two octets begin, by what these stand for
abbrev After : ℕ → ℕ → List ℕ → List ℕ → Option ℕ → Option ℕ → Type 0
After room count buffer line a b =
    answered (pushed_all room (pushed_by room (pushed_by room (even count) a) b) line)
    (buffer_all room (pushed_by room (pushed_by room (even count) a) b) (buffer_by (pushed_by room (even count) a) (buffer_by (even count) buffer a) b) line)
    ≡ answer_behind room (take count buffer) (joined a b (spelled line))

gather : (line : List ℕ) (room count : ℕ) (buffer : List ℕ) → length buffer ≡ room → count ≤ room →
    answered (pushed_all room (even count) line) (buffer_all room (even count) buffer line) ≡ answer_behind room (take count buffer) (spelled line)
gather [] room count buffer full h =
    ap (λ (s : List ℕ). answers.Heard (read_of s))
    (sym (take_all room (take count buffer) (rw (length-take-le count buffer (omega arith)) h)) ∙ ap (take room) (sym (append-nil (take count buffer))))
gather (octet ∷ []) room count buffer full h = alone room count buffer (digit_of octet)
gather (first ∷ second ∷ line) room count buffer full h =
    by (digit_of first) (digit_below first) (digit_of second) (digit_below second) (λ octet.
    gather line room (count_after room count) (set buffer count octet) (length-set buffer count octet ∙ full) (count_within room count h))
  where
    by : (a : Option ℕ) → Below a → (b : Option ℕ) → Below b →
        ((octet : ℕ) → answered (pushed_all room (even (count_after room count)) line) (buffer_all room (even (count_after room count)) (set buffer count octet) line)
        ≡ answer_behind room (take (count_after room count) (set buffer count octet)) (spelled line)) → After room count buffer line a b
    by (Some x) p (Some y) q more = more (octet_of x y) ∙ paired room count buffer x y (spelled line) full h p q
    by (Some x) p None q more = bad_answer _ _ (bad_stays room count line)
    by None p (Some y) q more = bad_answer _ _ (bad_stays room count line)
    by None p None q more = bad_answer _ _ (bad_stays room count line)

-- a list of more than 1120 octets is refused by number 1
cut_off : (s : List ℕ) → 1120 < length s → read_of s ≡ Err Cut
unfolding read_of
cut_off s h = simp (le-leb 64 (length s) (omega arith), lt-leb (length s) 1120 h)

-- so cutting it there or later does not matter
read_cut : (room : ℕ) (s : List ℕ) → 1121 ≤ room → read_of (take room s) ≡ read_of s
read_cut room s h = by (dec_le (length s) room)
  where
    by : Dec (length s ≤ room) → read_of (take room s) ≡ read_of s
    by (yes all) = ap read_of (take_all room s all)
    by (no more) =
        let long : length (take room s) ≡ room = length-take-le room s (omega arith) in
        cut_off (take room s) (rw long (omega arith)) ∙ sym (cut_off s (omega arith))

pub line_heard : (line buffer : List ℕ) → 1121 ≤ length buffer →
    answered (pushed_all (length buffer) fresh line) (buffer_all (length buffer) fresh buffer line) ≡ line_answer line
line_heard line buffer h = gather line (length buffer) 0 buffer refl (omega arith) ∙ by (spelled line)
  where
    by : (s : Spelled) → answer_behind (length buffer) [] s ≡ answer_for s
    by (octets frame) = ap answers.Heard (read_cut (length buffer) frame h)
    by neither = refl
