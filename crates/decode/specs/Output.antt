-- What is printed for an input: the answer to each of its lines as a whole, in their order, and `bad` for a last line without its line feed.
-- Assumes nothing.
use Rattle.std.specs.Prelude.{Option, Some, None, ◌≡◌, ◌∷◌, ◌++◌}
use Rattle.laws.specs.Usual.{refl, sym, ap, ap₂, ◌∙◌, Bool, cond, List, [], ℕ, arith, length, replicate}
use Rattle.std.proofs.Common.{length-set}
use Rattle.decode_answers.specs.Answers.{text_of}
use Rattle.decode_line.proofs.Begun.{begun_line}
use Rattle.decode_line.specs.Gathering.{fresh, pushed, buffer_by, buffer_after, answered}
use Rattle.decode_line.proofs.Heard.{line_heard}
use Rattle.text_hexadecimal.specs.Hexadecimal.{digit_of}
use Rattle.decode_line.specs.Line.{line_answer, pushed_all, buffer_all}
use Rattle.text_scanning.specs.Scanning.{NoFeed}
use Rattle.decode_line.specs.declared.Gathered.{Gathered}
use Rattle.decode_line.specs.declared.Pending.{Pending}
use Rattle.decode_line.specs.declared.Pending.TheVariants.{Nothing, Half, Bad}
use Rattle.text_feeding.specs.Lines.{parted, Meaning, replies_to}
use Rattle.text_feeding.proofs.Lines.{Meant, text_came}
use Rattle.decode.specs.Capture.{Carried, carried, decode, answer_to_rest, output_of}
use Rattle.decode.specs.Scanned.{pushed_both}
use Rattle.decode_line.specs.declared.Answer.TheVariants as answers
use Rattle.text_feeding.specs.Feeding as feeding

-- each line is answered by itself, as `line_answer` says of the whole line
abbrev pub by_line : Meaning (Unit {0})
by_line = record { after = λ _ _. tt; reply = λ _ line. text_of (line_answer line) }

-- and a rest, if there is one
abbrev pub bad_rest : List ℕ → List ℕ
bad_rest [] = []
bad_rest (octet ∷ rest) = text_of answers.Bad

-- no octet of a line makes the buffer longer or shorter
length_after : (line : Gathered) (frame : List ℕ) (digit : Option ℕ) → length (buffer_by line frame digit) ≡ length frame
length_after line frame (Some digit) = by line.pending
  where
    by : (pending : Pending) → length (buffer_by (record { count = line.count; pending = pending }) frame (Some digit)) ≡ length frame
    by Nothing = refl
    by (Half high) = length-set frame line.count _
    by Bad = refl
length_after line frame None = refl

length_all : (room : ℕ) (octets : List ℕ) (line : Gathered) (frame : List ℕ) → length (buffer_all room line frame octets) ≡ length frame
length_all room [] line frame = refl
length_all room (octet ∷ octets) line frame =
    length_all room octets (pushed room line octet) (buffer_after line frame octet) ∙ length_after line frame (digit_of octet)

-- before a line
abbrev Ready : Carried → Type 0
Ready before = (before.line ≡ fresh) × (length before.frame ≡ 1121)

-- a line that comes to a program that is ready for it
pushed_line : (before : Carried) (line : List ℕ) → Ready before →
    feeding.pushed_all (decode 1121) before line ≡ carried (pushed_all 1121 fresh line) (buffer_all 1121 fresh before.frame line)
pushed_line before line ready =
    ap (λ (l : Gathered). feeding.pushed_all (decode 1121) (carried l before.frame) line) ready.0 ∙ pushed_both 1121 line fresh before.frame

each : (before : Carried) (line : List ℕ) → Ready before → NoFeed line → Meant (decode 1121) by_line (λ _. tt) Ready before line
each before line ready none =
    let come = pushed_line before line ready in
    let room = ready.1 in
    record {
      ready = (refl, ap (λ (s : Carried). length s.frame) come ∙ length_all 1121 line fresh before.frame ∙ room);
      kept_after = refl;
      replied =
          ap (λ (s : Carried). text_of (answered s.line s.frame)) come
          ∙ ap (λ (n : ℕ). text_of (answered (pushed_all n fresh line) (buffer_all n fresh before.frame line))) (sym room)
          ∙ ap text_of (line_heard line before.frame (omega arith));
    }

rest_said : (rest : List ℕ) → answer_to_rest (pushed_all 1121 fresh rest) ≡ bad_rest rest
rest_said [] = refl
rest_said (octet ∷ rest) = ap (λ (t : Bool). cond t (text_of answers.Bad) []) (begun_line 1121 (omega arith) octet rest fresh)

pub output_lines : (input : List ℕ) → output_of input ≡ replies_to by_line tt (parted input).lines ++ bad_rest (parted input).rest
output_lines input =
    let done = text_came (decode 1121) by_line (λ _. tt) Ready each input (carried fresh (replicate 1121 0)) (refl, refl) in
    ap₂ (λ (first last : List ℕ). first ++ last) done.all_replied
    (ap (λ (s : Carried). answer_to_rest s.line) (done.rest_behind ∙ pushed_line done.before (parted input).rest done.ready) ∙ rest_said (parted input).rest)
