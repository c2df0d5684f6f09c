-- A line has begun as soon as one octet of it has come. Assumes nothing.
use Rattle.std.specs.Prelude.{Option, Some, None, ◌≡◌, ◌∷◌, ◌<◌}
use Rattle.laws.specs.Usual.{refl, true, List, [], ℕ, arith}
use Rattle.std.proofs.Math.Decide.{dec_lt}
use Rattle.std.proofs.Common.{lt-ltb, le-ltb}
use Rattle.decode_line.specs.Gathering.{count_after, pushed_by, pushed, begun}
use Rattle.text_hexadecimal.specs.Hexadecimal.{digit_of}
use Rattle.decode_line.specs.Line.{pushed_all}
use Rattle.decode_line.specs.declared.Gathered.{Gathered}
use Rattle.decode_line.specs.declared.Pending.{Pending}
use Rattle.decode_line.specs.declared.Pending.TheVariants.{Nothing, Half, Bad}

module _ (room : ℕ) (some : 0 < room) where
  -- an octet that is stored, or finds the buffer full, leaves one there
  count_some : (count : ℕ) → 0 < count_after room count
  count_some count = by (dec_lt count room)
    where
      by : Dec (count < room) → 0 < count_after room count
      by (yes inside) = rw (lt-ltb count room inside) (omega arith)
      by (no outside) = rw (le-ltb count room (omega arith)) (omega arith)

  one : (count : ℕ) (pending : Pending) (digit : Option ℕ) → begun (pushed_by room (record { count = count; pending = pending }) digit) ≡ true
  one count Nothing (Some d) = refl
  one count (Half high) (Some d) = lt-ltb 0 (count_after room count) (count_some count)
  one count Bad (Some d) = refl
  one count Nothing None = refl
  one count (Half high) None = refl
  one count Bad None = refl

  -- whatever has come before, one octet more leaves a line that has begun
  pub begun_line : (octet : ℕ) (line : List ℕ) (gathered : Gathered) → begun (pushed_all room gathered (octet ∷ line)) ≡ true
  begun_line octet [] gathered = one gathered.count gathered.pending (digit_of octet)
  begun_line octet (next ∷ line) gathered = begun_line next line (pushed room gathered octet)
