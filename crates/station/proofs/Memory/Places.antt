-- The common memory octet by octet, where a turn is written; and our own areas, which no frame writes. Assumes nothing.
use Rattle.std.specs.Prelude.{◌≡◌, ◌+◌, ◌*◌, ◌<◌, ◌≤◌}
use Rattle.laws.specs.Usual.{◌∙◌, true, List, ℕ, min, arith, length, get_or, take, drop}
use Rattle.std.proofs.Common.{length-take, length-drop, get_or-take, get_or-drop, leb-true}
use Rattle.laws.specs.Tests.{first, second}
use Rattle.area.specs.Areas.{in_area, in_range, span_of, memory_octets}
use Rattle.area.specs.declared.Areas.{Areas}
use Rattle.area.specs.declared.Area.TheVariants.{One, Two}
use Rattle.area.specs.declared.Span.{Span}
use Rattle.copying.specs.Laws.{length_pasted}
use Rattle.copying.specs.Pasted.{pasted}
use Rattle.copying.specs.Places.{paste_before, paste_in, paste_outside}
use Rattle.station.specs.Rules.Data.{turn_written}

-- the place is in the span
pub record In (span : Span) (at : ℕ) : Type 0 where
  pub from : span.start ≤ at
  pub before : at < span.start + span.length

-- a turn written to areas in range
module _ (areas : Areas) (turn memory : List ℕ) (ranged : in_range areas ≡ true) (long : length memory ≡ memory_octets) where
  one : areas.one.address + areas.one.size ≤ 512
  one = leb-true (areas.one.address + areas.one.size) 512 (first (in_area One areas.one) (in_area Two areas.two) ranged)

  two : areas.two.address + areas.two.size ≤ 8192
  two = leb-true (areas.two.address + areas.two.size) 8192 (second (in_area One areas.one) (in_area Two areas.two) ranged)

  abbrev one_octets : List ℕ
  one_octets = take (2 * areas.one.size) turn

  abbrev two_octets : List ℕ
  two_octets = take (2 * areas.two.size) (drop (2 * areas.one.size) turn)

  one_short : length one_octets ≤ 2 * areas.one.size
  one_short = let l : length one_octets ≡ min (2 * areas.one.size) (length turn) = length-take (2 * areas.one.size) turn in omega arith

  two_short : length two_octets ≤ 2 * areas.two.size
  two_short = let l : length two_octets ≡ min (2 * areas.two.size) (length (drop (2 * areas.one.size) turn)) =
      length-take (2 * areas.two.size) (drop (2 * areas.one.size) turn) in omega arith

  one_long : memory_octets ≤ length turn → 2 * areas.one.size ≤ length one_octets
  one_long whole =
      let a = one in
      let l : length one_octets ≡ min (2 * areas.one.size) (length turn) = length-take (2 * areas.one.size) turn in
      omega arith

  two_long : memory_octets ≤ length turn → 2 * areas.two.size ≤ length two_octets
  two_long whole =
      let a = one in
      let b = two in
      let rest = length-drop (2 * areas.one.size) turn in
      let l : length two_octets ≡ min (2 * areas.two.size) (length (drop (2 * areas.one.size) turn)) =
      length-take (2 * areas.two.size) (drop (2 * areas.one.size) turn) in
      omega arith

  abbrev first_written : List ℕ
  first_written = pasted memory (span_of One areas.one).start one_octets

  one_fits : (span_of One areas.one).start + length one_octets ≤ length memory
  one_fits = let a = one in let l = one_short in omega arith

  first_long : length first_written ≡ length memory
  first_long = length_pasted memory one_octets (span_of One areas.one).start one_fits

  two_fits : (span_of Two areas.two).start + length two_octets ≤ length first_written
  two_fits = let b = two in let l = two_short in let m = first_long in omega arith

  -- it stays as long
  pub written_length : length (turn_written areas turn memory) ≡ length memory
  written_length = length_pasted first_written two_octets (span_of Two areas.two).start two_fits ∙ first_long

  -- an octet outside both spans is the same
  pub written_outside : (at : ℕ) → (In (span_of One areas.one) at → ⊥) → (In (span_of Two areas.two) at → ⊥)
      → get_or (turn_written areas turn memory) at 0 ≡ get_or memory at 0
  written_outside at not_one not_two =
      let l = one_short in
      let m = two_short in
      paste_outside first_written two_octets (span_of Two areas.two).start two_fits at
      (λ f b. not_two (record { from = f; before = omega arith }))
      ∙ paste_outside memory one_octets (span_of One areas.one).start one_fits at
      (λ f b. not_one (record { from = f; before = omega arith }))

  -- an octet of the span in area 1 is the turn's at that place
  pub written_one : memory_octets ≤ length turn → (i : ℕ) → i < 2 * areas.one.size
      → get_or (turn_written areas turn memory) ((span_of One areas.one).start + i) 0 ≡ get_or turn i 0
  written_one whole i h =
      let a = one in
      let l = one_long whole in
      paste_before first_written two_octets (span_of Two areas.two).start two_fits ((span_of One areas.one).start + i) (omega arith)
      ∙ paste_in memory one_octets (span_of One areas.one).start one_fits i (omega arith)
      ∙ get_or-take (2 * areas.one.size) turn i 0 h

  -- an octet of the span in area 2 is the turn's behind those of area 1
  pub written_two : memory_octets ≤ length turn → (i : ℕ) → i < 2 * areas.two.size
      → get_or (turn_written areas turn memory) ((span_of Two areas.two).start + i) 0 ≡ get_or turn (2 * areas.one.size + i) 0
  written_two whole i h =
      let m = two_long whole in
      paste_in first_written two_octets (span_of Two areas.two).start two_fits i (omega arith)
      ∙ get_or-take (2 * areas.two.size) (drop (2 * areas.one.size) turn) i 0 h
      ∙ get_or-drop (2 * areas.one.size) turn i 0
