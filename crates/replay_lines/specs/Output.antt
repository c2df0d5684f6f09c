-- What an input does: each of its lines does what the whole line means, in their order, and a last line without its line feed is `bad` and
-- does nothing. Assumes nothing.
use Rattle.std.specs.Prelude.{◌≡◌, ◌&&◌, ◌∷◌, ◌++◌, ◌+◌, ◌<◌}
use Rattle.laws.specs.Usual.{refl, ap, ap₂, ◌∙◌, Bool, true, false, cond, not, List, [], ℕ, arith, length, set, leb, ltb}
use Rattle.std.proofs.Common.{length-set, lt-ltb}
use Rattle.replay_commands.specs.Commands.{command_of}
use Rattle.text_scanning.specs.Scanning.{NoFeed}
use Rattle.text_feeding.specs.Lines.{parted, Meaning, after_all, replies_to}
use Rattle.text_feeding.proofs.Lines.{Meant, Came, text_came}
use Rattle.replay_input.specs.Gathering.{longest, fresh, pushed, pushed_all, buffer_all}
use Rattle.replay_input.specs.declared.Line.{Line}
use Rattle.replay_performing.proofs.Lines.{line_performed}
use Rattle.replay_performing.specs.Replaying.{Performed, performed}
use Rattle.replay_performing.specs.declared.Kept.{Kept}
use Rattle.replay_reply_words.specs.Answers.{bad_text}
use Rattle.text_hexadecimal.specs.Octets.{is_hexadecimal}
use Rattle.replay_end.specs.End.{answer_to_rest}
use Rattle.replay_lines.specs.declared.Carried.{Carried}
use Rattle.replay_lines.specs.Replay.{carried, line_done, replay, after, start, output_of}
use Rattle.replay_lines.specs.Scanned.{pushed_both}
use Rattle.text_feeding.specs.Feeding as feeding

-- each line meets what the one before it left, and does what `performed` says of the command that the whole line means
abbrev pub by_line : Meaning Kept
by_line = record {
  after = λ kept line. (performed (command_of line) line kept).kept;
  reply = λ kept line. (performed (command_of line) line kept).line;
}

-- and a rest, if there is one
abbrev pub bad_rest : List ℕ → List ℕ
bad_rest [] = []
bad_rest (octet ∷ rest) = bad_text

-- no octet of a line makes the buffer longer or shorter
length_all : (octets : List ℕ) (line : Line) (stored : List ℕ) → length (buffer_all line stored octets) ≡ length stored
length_all [] line stored = refl
length_all (octet ∷ octets) line stored =
    length_all octets (pushed line octet) (set stored line.count octet) ∙ length-set stored line.count octet

-- a line of which something has come is not forgotten
count_some : (octets : List ℕ) (line : Line) → 0 < line.count → 0 < (pushed_all line octets).count
count_some [] line some = some
count_some (octet ∷ octets) line some =
    count_some octets (pushed line octet)
    (by (ltb line.count 5) (leb line.count longest) (line.digits && is_hexadecimal octet) (not line.odd))
  where
    by : (short low digits odd : Bool) →
        0 < (cond {A = Line} short
        (record { count = line.count + 1; digits = line.digits; odd = line.odd })
        (record { count = cond low (line.count + 1) line.count; digits = digits; odd = odd })).count
    by true low digits odd = omega arith
    by false true digits odd = omega arith
    by false false digits odd = some

-- before a line
abbrev Ready : Carried → Type 0
Ready before = (before.line ≡ fresh) × (length before.stored ≡ longest)

-- a line that comes to a program that is ready for it
pushed_line : (before : Carried) (line : List ℕ) → Ready before →
    feeding.pushed_all replay before line ≡ carried before.kept (pushed_all fresh line) (buffer_all fresh before.stored line)
pushed_line before line ready =
    ap (λ (l : Line). feeding.pushed_all replay (carried before.kept l before.stored) line) ready.0 ∙ pushed_both line before.kept fresh before.stored

line_done_lem : (before : Carried) (line : List ℕ) → Ready before → line_done (feeding.pushed_all replay before line) ≡ performed (command_of line) line before.kept
unfolding line_done
line_done_lem before line ready = ap line_done (pushed_line before line ready) ∙ line_performed line before.stored before.kept ready.1

each : (before : Carried) (line : List ℕ) → Ready before → NoFeed line → Meant replay by_line (λ s. s.kept) Ready before line
each before line ready none = record {
  ready = (refl, ap (λ (s : Carried). length s.stored) (pushed_line before line ready) ∙ length_all line fresh before.stored ∙ ready.1);
  kept_after = ap (λ (p : Performed). p.kept) (line_done_lem before line ready);
  replied = ap (λ (p : Performed). p.line) (line_done_lem before line ready);
}

rest_said : (rest : List ℕ) → answer_to_rest (pushed_all fresh rest) ≡ bad_rest rest
rest_said [] = refl
rest_said (octet ∷ rest) =
    ap (λ (t : Bool). cond t bad_text [])
    (lt-ltb 0 (pushed_all (pushed fresh octet) rest).count (count_some rest (pushed fresh octet) (omega arith)))

module _ (input : List ℕ) where
  lines : Came replay by_line (λ s. s.kept) Ready start (parted input) input
  lines = text_came replay by_line (λ s. s.kept) Ready each input start (refl, refl)

  rest_behind : after start input ≡ carried lines.before.kept (pushed_all fresh (parted input).rest) (buffer_all fresh lines.before.stored (parted input).rest)
  rest_behind = lines.rest_behind ∙ pushed_line lines.before (parted input).rest lines.ready

  -- the station and its buffers after an input
  pub input_performed : (after start input).kept ≡ after_all by_line start.kept (parted input).lines
  input_performed = ap (λ (s : Carried). s.kept) rest_behind ∙ lines.kept_before

  -- and all that is printed
  pub output_lines : output_of input ≡ replies_to by_line start.kept (parted input).lines ++ bad_rest (parted input).rest
  output_lines =
      ap₂ (λ (first last : List ℕ). first ++ last) lines.all_replied (ap (λ (s : Carried). answer_to_rest s.line) rest_behind ∙ rest_said (parted input).rest)
