-- A line that has an entry is short: at most 8 octets, the last of them its line feed. Assumes nothing.
use Rattle.std.specs.Prelude.{Option, Some, None, ◌≡◌, ◌+◌, ◌<◌, ◌≤◌}
use Rattle.laws.specs.Usual.{refl, ap, Bool, true, false, List, ℕ, suc, arith, length, ltb}
use Rattle.std.proofs.Math.Decide.{dec_le}
use Rattle.std.proofs.Common.{ltb-true, length-take, length-drop}
use Rattle.std.specs.Option.{option_and_then}
use Rattle.std.proofs.lemmas.Option.{cond_some}
use Rattle.text.specs.Lines.{comma, line_feed}
use Rattle.text_reading.proofs.MarkLaws.{before_most, before_behind, before_front}
use Rattle.text_reading.specs.Marks.{before, up_to, behind, has}
use Rattle.text_reading.proofs.Told.{number_most, number_told, few_digits}
use Rattle.text_reading.specs.Values.{decimal_in}
use Rattle.settle_input.specs.Input.{from_one, number_in, entry_of, station_in, view_in, first_line}

-- octets that are read as a number of 1 to 254 are just that number, and at most three
pub number_in_lem : (octets : List ℕ) (n : ℕ) → number_in octets ≡ Some n → (decimal_in 254 octets ≡ Some n) × (1 ≤ n)
number_in_lem octets n e = go (decimal_in 254 octets) e
  where
    go : (read : Option ℕ) → option_and_then from_one read ≡ Some n → (read ≡ Some n) × (1 ≤ n)
    go None e = absurd (cc)
    go (Some m) e = let (some, same) = cond_some (ltb 0 m) m n e in (ap Some same, omega (arith, ltb-true 0 m some))

number_short : (octets : List ℕ) (n : ℕ) → number_in octets ≡ Some n → length octets ≤ 3
number_short octets n e =
    let (read, some) = number_in_lem octets n e in
    let told = number_told 254 n octets (omega arith) read in
    let short = few_digits 10 n 2 (omega (arith, number_most 254 n octets read)) in
    omega (arith, ap length told)

-- what a line with an entry has
pub record Formed (line : List ℕ) : Type 0 where
  pub comma_in : before comma line < length line
  pub end_in : before line_feed (behind comma line) < length (behind comma line)
  pub station_is : number_in (up_to comma line) ≡ Some (station_in line)
  pub view_is : number_in (up_to line_feed (behind comma line)) ≡ Some (view_in line)

pub formed : (line : List ℕ) → ¬ (station_in line ≡ 0) → Formed line
unfolding entry_of
formed line n = go (has comma line) (has line_feed (behind comma line)) (number_in (up_to comma line)) (number_in (up_to line_feed (behind comma line))) refl refl refl refl
  where
    go : (s t : Bool) (station view : Option ℕ) → has comma line ≡ s → has line_feed (behind comma line) ≡ t
        → number_in (up_to comma line) ≡ station → number_in (up_to line_feed (behind comma line)) ≡ view → Formed line
    go true true (Some station) (Some view) a b c d =
        record {
          comma_in = ltb-true _ _ a;
          end_in = ltb-true _ _ b;
          station_is = rw (a, b, c, d);
          view_is = rw (a, b, c, d);
        }
    go true true (Some station) None a b c d = absurd (n (rw (a, b, c, d)))
    go true true None view a b c d = absurd (n (rw (a, b, c)))
    go true false station view a b c d = absurd (n (rw (a, b)))
    go false t station view a b c d = absurd (n (rw a))

pub station_most : (line : List ℕ) → station_in line ≤ 254
station_most line = go (dec_le (station_in line) 0)
  where
    go : Dec (station_in line ≤ 0) → station_in line ≤ 254
    go (yes h) = omega arith
    go (no h) =
        let f = formed line (λ z. omega arith) in
        number_most 254 (station_in line) (up_to comma line) (number_in_lem (up_to comma line) (station_in line) f.station_is).0

-- the first line of octets, where it has an entry, ends within 8 octets
pub short_line : (octets : List ℕ) → ¬ (station_in (first_line octets) ≡ 0)
    → (before line_feed octets < length octets) × (before line_feed octets ≤ 7)
short_line octets n =
    let line = first_line octets in
    let f = formed line n in
    let p = before comma line in
    let rest = behind comma line in
    let same = before_front line_feed (suc (before line_feed octets)) octets (omega arith) in
    let far = before_behind line_feed (p + 1) line in
    let station : p ≤ 3 = omega (arith, number_short (up_to comma line) _ f.station_is, length-take p line, before_most comma line) in
    let view : before line_feed rest ≤ 3 = omega (arith, number_short (up_to line_feed rest) _ f.view_is, length-take (before line_feed rest) rest, before_most line_feed rest) in
    (omega (arith, f.end_in, f.comma_in, length-drop (p + 1) line, length-take (suc (before line_feed octets)) octets), omega arith)
