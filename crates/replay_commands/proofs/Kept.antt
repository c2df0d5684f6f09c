-- What is kept of a `hear` line, whatever its length, spells the first of its octets. Assumes nothing.
use Rattle.std.specs.Prelude.{◌≡◌, ◌+◌, ◌*◌, ◌≤◌}
use Rattle.laws.specs.Usual.{sym, ap, ◌∙◌, Bool, cond, List, [], ℕ, arith, length, take, drop}
use Rattle.std.proofs.Math.Decide.{dec_le}
use Rattle.std.proofs.Common.{length-take, length-drop, drop_of_length-le, take_all, take-take, take-add, drop_at, length-take-le, le-leb}
use Rattle.std.proofs.lemmas.Bool.{lt-leb}
use Rattle.replay_input.specs.Gathering.{longest, fresh, buffer_all}
use Rattle.text_hexadecimal.specs.OctetLaws.{octets_most, octets_first}
use Rattle.text_hexadecimal.specs.Octets.{octets_of}
use Rattle.replay_commands.specs.Commands.{kept}
use Rattle.replay_commands.proofs.Whole.{counted, counted_least, line_stored}

take_behind : (list : List ℕ) (at n : ℕ) → at ≤ length list → take n (drop at list) ≡ drop at (take (at + n) list)
take_behind list at n h = sym (ap (drop at) (take-add at n list) ∙ drop_at (take at list) (take n (drop at list)) at (length-take-le at list h))

-- a part of a line within its first 34,823 octets is in the buffer
pub part_stored : (line buffer : List ℕ) → length buffer ≡ longest → (at n : ℕ) → at + n ≤ length line → at + n ≤ 34823 →
    take n (drop at (buffer_all fresh buffer line)) ≡ take n (drop at line)
part_stored line buffer full at n h most =
    let after = buffer_all fresh buffer line in
    let stored = line_stored line buffer full in
    let inside : at ≤ length after =
    omega (arith, length-take (counted (length line)) after, ap length stored, length-take longest line) in
    let same : take (at + n) after ≡ take (at + n) line =
    sym (take-take (at + n) (counted (length line)) after (counted_least (length line) (at + n) h (omega arith)))
    ∙ ap (take (at + n)) stored
    ∙ take-take (at + n) longest line most in
    take_behind after at n inside ∙ ap (drop at) same ∙ sym (take_behind line at n (omega arith))

-- as many octets as a `hear` line's digits spell, and at most 1121, are spelled by what is kept of them
pub heard_kept : (line buffer : List ℕ) → length buffer ≡ longest →
    octets_of (take (2 * kept (length (octets_of (drop 5 line)))) (drop 5 (buffer_all fresh buffer line))) ≡ take 1121 (octets_of (drop 5 line))
heard_kept line buffer full = by (dec_le 5 (length line)) (dec_le (length (octets_of (drop 5 line))) 1121)
  where
    of : (n : ℕ) → 5 ≤ length line → n ≤ length (octets_of (drop 5 line)) → n ≤ 1121 → octets_of (take (2 * n) (drop 5 (buffer_all fresh buffer line))) ≡ take n (octets_of (drop 5 line))
    of n h p q =
        let within : 5 + 2 * n ≤ length line = omega (arith, octets_most (drop 5 line), length-drop 5 line) in
        ap octets_of (part_stored line buffer full 5 (2 * n) within (omega arith)) ∙ octets_first (drop 5 line) n p

    by : Dec (5 ≤ length line) → Dec (length (octets_of (drop 5 line)) ≤ 1121) →
        octets_of (take (2 * kept (length (octets_of (drop 5 line)))) (drop 5 (buffer_all fresh buffer line))) ≡ take 1121 (octets_of (drop 5 line))
    by (no short) all =
        let none : drop 5 line ≡ [] = drop_of_length-le line {i = 5} (omega arith) in
        ap (λ (digits : List ℕ). octets_of (take (2 * kept (length (octets_of digits))) (drop 5 (buffer_all fresh buffer line)))) none
        ∙ sym (ap (λ (digits : List ℕ). take 1121 (octets_of digits)) none)
    by (yes h) (yes low) =
        let size = length (octets_of (drop 5 line)) in
        let all : kept size ≡ size = ap (λ (t : Bool). cond t size 1121) (le-leb size 1121 low) in
        ap (λ (n : ℕ). octets_of (take (2 * n) (drop 5 (buffer_all fresh buffer line)))) all
        ∙ of size h (omega arith) low
        ∙ take_all size (octets_of (drop 5 line)) (omega arith)
        ∙ sym (take_all 1121 (octets_of (drop 5 line)) low)
    by (yes h) (no high) =
        let size = length (octets_of (drop 5 line)) in
        let some : kept size ≡ 1121 = ap (λ (t : Bool). cond t size 1121) (lt-leb size 1121 (omega arith)) in
        ap (λ (n : ℕ). octets_of (take (2 * n) (drop 5 (buffer_all fresh buffer line)))) some ∙ of 1121 h (omega arith) (omega arith)
