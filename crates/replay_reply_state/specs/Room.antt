-- How long the parts of a state's line can be. Assumes nothing.
use Rattle.std.specs.Prelude.{◌∷◌, ◌++◌, ◌*◌, ◌≤◌}
use Rattle.laws.specs.Usual.{Bool, true, false, cond, List, [], ℕ, suc, arith, length}
use Rattle.std.proofs.Common.{length-append}
use Rattle.members.specs.declared.Entry.{Entry}
use Rattle.station.specs.declared.Phase.{Phase}
use Rattle.station.specs.declared.Phase.TheVariants.{Off, Listening, Startup, Joining, Participating}
use Rattle.text.specs.Decimal.{decimal_of}
use Rattle.text.specs.Digits.{at_most}
use Rattle.text.specs.Lines.{space, comma}
use Rattle.replay_reply_state.specs.State.{colon, phase_word, pair_text, listed_text, entry_text, entries_from}

pub phase_length : (phase : Phase) → length (phase_word phase) ≤ 13
phase_length Off = omega arith
phase_length Listening = omega arith
phase_length Startup = omega arith
phase_length Joining = omega arith
phase_length Participating = omega arith

pub pair_length : (mark first second : ℕ) → length (pair_text mark first second) ≤ 22
pair_length mark first second =
    rw (length-append (mark ∷ decimal_of first) (comma ∷ decimal_of second)) (omega (arith, at_most 10 first, at_most 10 second))

-- seven numbers, each with a mark in front
pub listed_length : (number : ℕ) (entry : Entry) → length (listed_text number entry) ≤ 77
listed_length number entry =
    let one = pair_text colon entry.areas.one.address entry.areas.one.size in
    let two = pair_text comma entry.areas.two.address entry.areas.two.size in
    let rest = pair_text comma entry.watch.0 entry.misses in
    let name = space ∷ decimal_of number in
    omega (
      arith,
      length-append ((name ++ one) ++ two) rest,
      length-append (name ++ one) two,
      length-append name one,
      at_most 10 number,
      pair_length colon entry.areas.one.address entry.areas.one.size,
      pair_length comma entry.areas.two.address entry.areas.two.size,
      pair_length comma entry.watch.0 entry.misses,
    )

pub entry_length : (number : ℕ) (entry : Entry) → length (entry_text number entry) ≤ 77
entry_length number entry = by entry.listed
  where
    by : (listed : Bool) → length (cond listed (listed_text number entry) []) ≤ 77
    by true = listed_length number entry
    by false = omega arith

pub entries_length : (number : ℕ) (entries : List Entry) → length (entries_from number entries) ≤ 77 * length entries
entries_length number [] = omega arith
entries_length number (entry ∷ rest) =
    rw (length-append (entry_text number entry) (entries_from (suc number) rest)) (omega (arith, entry_length number entry, entries_length (suc number) rest))
