-- A line that came octet by octet, into a buffer of 34,823 octets, does what the whole line says, whatever its length. Assumes nothing.
use Rattle.std.specs.Prelude.{Option, Some, None, ◌≡◌, ◌&&◌, ◌+◌, ◌*◌, ◌<◌, ◌≤◌}
use Rattle.laws.specs.Usual.{refl, sym, ap, ◌∙◌, Bool, true, false, cond, List, [], ℕ, arith, length, get_or, take, drop, leb, ltb}
use Rattle.std.proofs.Math.Decide.{dec_le, dec_lt}
use Rattle.std.proofs.Common.{length-drop, take_all, leb-true, le-leb}
use Rattle.std.proofs.lemmas.Bool.{lt-leb}
use Rattle.replay_commands.specs.Commands.{stop, ask, panel, state, hear, hear_space, start_space, tick_space, poke_space, peek_space, with_number, start_by, start_with, start_of, tick_of, peek_of, poke_by, poke_of, kept as kept_of, hear_of as hear_command, short_of, command_of, command_in}
use Rattle.replay_commands.proofs.Kept.{part_stored, heard_kept}
use Rattle.text_hexadecimal.specs.OctetLaws.{octets_most, octets_first}
use Rattle.text_hexadecimal.specs.Octets.{octets_of}
use Rattle.replay_commands.proofs.Whole.{line_read}
use Rattle.text_reading.proofs.MarkLaws.{before_most}
use Rattle.text_reading.proofs.PartLaws.{part_at, part_length, no_parts, end_place}
use Rattle.text_reading.specs.Parts.{end_of}
use Rattle.text.specs.Lines.{space}
use Rattle.comparing.specs.Same.{same}
use Rattle.replay_words.specs.Words.{begins, words_behind, number_in}
use Rattle.replay_commands.specs.declared.Command.{Command}
use Rattle.replay_commands.specs.declared.Command.TheVariants.{Start, Stop, Tick, Hear, Ask, Panel, Peek, State, Bad}
use Rattle.replay_input.specs.Gathering.{longest, fresh, pushed_all, buffer_all}
use Rattle.station.specs.Rules.Hearing.{hear_of}
use Rattle.replay_performing.proofs.Cut.{hear_cut}
use Rattle.replay_performing.specs.declared.Kept.{Kept}
use Rattle.replay_performing.specs.Replaying.{heard, poked, digits_in, performed}

-- the digits of a `hear` line spell the first 1121 of its octets
first_octets : (line : List ℕ) → octets_of (digits_in line 5 (kept_of (length (octets_of (drop 5 line))))) ≡ take 1121 (octets_of (drop 5 line))
first_octets line = by (dec_le (length (octets_of (drop 5 line))) 1121)
  where
    by : Dec (length (octets_of (drop 5 line)) ≤ 1121) → octets_of (digits_in line 5 (kept_of (length (octets_of (drop 5 line))))) ≡ take 1121 (octets_of (drop 5 line))
    by (yes low) =
        let size = length (octets_of (drop 5 line)) in
        ap (λ (t : Bool). octets_of (digits_in line 5 (cond t size 1121))) (le-leb size 1121 low)
        ∙ octets_first (drop 5 line) size (omega arith)
        ∙ take_all size (octets_of (drop 5 line)) (omega arith)
        ∙ sym (take_all 1121 (octets_of (drop 5 line)) low)
    by (no high) =
        let size = length (octets_of (drop 5 line)) in
        ap (λ (t : Bool). octets_of (digits_in line 5 (cond t size 1121))) (lt-leb size 1121 (omega arith))
        ∙ octets_first (drop 5 line) 1121 (omega arith)

-- so it is answered as all of its octets are
pub heard_whole : (line : List ℕ) (kept : Kept) →
    performed (Hear (record { digits = 5; count = kept_of (length (octets_of (drop 5 line))) })) line kept
    ≡ heard kept (hear_of kept.station (octets_of (drop 5 line)) kept.memory kept.assembly)
heard_whole line kept =
    ap (heard kept)
    (ap (λ (o : List ℕ). hear_of kept.station o kept.memory kept.assembly) (first_octets line)
    ∙ hear_cut kept.station (octets_of (drop 5 line)) kept.memory kept.assembly)

-- where the digits of a `poke` line stand, and how many octets they spell
abbrev digits_at : List ℕ → ℕ
digits_at line = 6 + length (get_or (words_behind line 4) 0 [])

abbrev count_in : List ℕ → ℕ
count_in line = length (octets_of (get_or (words_behind line 4) 1 []))

-- they are a word of the line
poke_room : (line : List ℕ) → 0 < count_in line → digits_at line + 2 * count_in line ≤ length line
poke_room line some = by (dec_lt 4 (length line)) (dec_lt (end_of space line 4) (length line))
  where
    second : length (get_or (words_behind line (end_of space line 4)) 0 []) ≡ length (get_or (words_behind line 4) 1 [])
    second = ap length (part_at space line 4 1)

    by : Dec (4 < length line) → Dec (end_of space line 4 < length line) → digits_at line + 2 * count_in line ≤ length line
    by (yes h) (yes more) =
        omega (
          arith,
          end_place space line 4 h,
          part_length space line 4 h,
          part_length space line (end_of space line 4) more,
          before_most space (drop (end_of space line 4 + 1) line),
          length-drop (end_of space line 4 + 1) line,
          octets_most (get_or (words_behind line 4) 1 []),
          second,
        )
    by (yes h) (no all) =
        let none = ap (λ (words : List (List ℕ)). length (get_or words 0 [])) (no_parts space line (end_of space line 4) (omega arith)) in
        absurd (omega (arith, octets_most (get_or (words_behind line 4) 1 []), second))
    by (no short) more =
        let none = ap (λ (words : List (List ℕ)). length (get_or words 1 [])) (no_parts space line 4 (omega arith)) in
        absurd (omega (arith, octets_most (get_or (words_behind line 4) 1 [])))

module _ (line buffer : List ℕ) (kept : Kept) (full : length buffer ≡ longest) where
  abbrev after : List ℕ
  after = buffer_all fresh buffer line

  -- a command does the same with what is stored of the line as with the line
  record Same (command : Command) : Type 0 where
    same_done : performed command after kept ≡ performed command line kept

  either : (t : Bool) {a b : Command} → Same a → Same b → Same (cond t a b)
  either true p q = p
  either false p q = q

  -- those that have no digits
  bare : (command : Command) → performed command after kept ≡ performed command line kept → Same command
  bare command e = record { same_done = e }

  -- a command with a number, whatever the number
  numbered : (number : Option ℕ) (says : ℕ → Command) → ((n : ℕ) → Same (says n)) → Same (with_number number says)
  numbered (Some n) says p = p n
  numbered None says p = bare Bad refl

  same_hear : Same (hear_command (length (octets_of (drop 5 line))))
  same_hear =
      either (ltb 0 (length (octets_of (drop 5 line))))
      (record {
        same_done = ap (λ (o : List ℕ). heard kept (hear_of kept.station o kept.memory kept.assembly)) (heard_kept line buffer full ∙ sym (first_octets line));
      })
      (record { same_done = refl })

  poke_digits : length line ≤ 34823 → digits_in after (digits_at line) (count_in line) ≡ digits_in line (digits_at line) (count_in line)
  poke_digits short = by (dec_lt 0 (count_in line))
    where
      by : Dec (0 < count_in line) → digits_in after (digits_at line) (count_in line) ≡ digits_in line (digits_at line) (count_in line)
      by (yes some) = let room = poke_room line some in part_stored line buffer full (digits_at line) (2 * count_in line) room (omega arith)
      by (no nothing) =
          let zero : 2 * count_in line ≡ 0 = omega arith in
          ap (λ (n : ℕ). take n (drop (digits_at line) after)) zero ∙ sym (ap (λ (n : ℕ). take n (drop (digits_at line) line)) zero)

  same_poke : length line ≤ 34823 → Same (poke_of (words_behind line 4))
  same_poke short =
      either (leb (length (words_behind line 4)) 2)
      (numbered (number_in (words_behind line 4) 0) (λ at. poke_by at (digits_at line) (count_in line)) by)
      (bare Bad refl)
    where
      by : (at : ℕ) → Same (poke_by at (digits_at line) (count_in line))
      by at =
          either (leb (at + count_in line) 17408 && ltb 0 (count_in line))
          (record { same_done = ap (λ (digits : List ℕ). poked kept at (octets_of digits)) (poke_digits short) })
          (bare Bad refl)

  same_start : (words : List (List ℕ)) → Same (start_of words)
  same_start words =
      either (leb (length words) 6)
      (numbered (number_in words 0) _ (λ n. numbered (number_in words 1) _ (λ ad1. numbered (number_in words 2) _ (λ sz1.
      numbered (number_in words 3) _ (λ ad2. numbered (number_in words 4) _ (λ sz2. numbered (number_in words 5) _ (λ w. by n ad1 sz1 ad2 sz2 w)))))))
      (bare Bad refl)
    where
      by : (n ad1 sz1 ad2 sz2 w : ℕ) → Same (start_by n ad1 sz1 ad2 sz2 w)
      by n ad1 sz1 ad2 sz2 w =
          either (leb n 255 && leb ad1 65535 && leb sz1 65535 && leb ad2 65535 && leb sz2 65535 && leb w 255) (bare (Start _) refl) (bare Bad refl)

  same_tick : (words : List (List ℕ)) → Same (tick_of words)
  same_tick words =
      numbered (number_in words 0) (λ k. cond (leb (length words) 1 && leb 1 k && leb k 1000000) (Tick k) Bad)
      (λ k. either (leb (length words) 1 && leb 1 k && leb k 1000000) (bare (Tick k) refl) (bare Bad refl))

  same_peek : (words : List (List ℕ)) → Same (peek_of words)
  same_peek words =
      numbered (number_in words 0) _ (λ at. numbered (number_in words 1) _ (λ len. either (leb (length words) 2 && leb (at + len) 17408) (bare (Peek _) refl) (bare Bad refl)))

  same_short : length line ≤ 34823 → Same (short_of line)
  same_short short =
      either (same line stop) (bare Stop refl)
      (either (same line ask) (bare Ask refl)
      (either (same line panel) (bare Panel refl)
      (either (same line state) (bare State refl)
      (either (same line hear) (bare (Hear (record { digits = 5; count = 0 })) refl)
      (either (begins start_space line) (same_start (words_behind line 5))
      (either (begins tick_space line) (same_tick (words_behind line 4))
      (either (begins poke_space line) (same_poke short)
      (either (begins peek_space line) (same_peek (words_behind line 4)) (bare Bad refl)))))))))

  line_same : Same (command_of line)
  line_same = either (begins hear_space line) same_hear (by (leb (length line) longest) refl)
    where
      by : (t : Bool) → leb (length line) longest ≡ t → Same (cond t (short_of line) Bad)
      by true e = same_short (leb-true (length line) longest e)
      by false e = bare Bad refl

  pub line_performed : performed (command_in (pushed_all fresh line) after) after kept ≡ performed (command_of line) line kept
  line_performed = ap (λ (command : Command). performed command after kept) (line_read line buffer full) ∙ line_same.same_done
