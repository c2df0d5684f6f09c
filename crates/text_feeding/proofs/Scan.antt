-- A part of a text that is scanned from a place on, up to its next line feed or its end, was taken octet by octet. Assumes nothing.
use Rattle.laws.specs.Usual.{[], refl, sym, ap, ◌∙◌, Bool, true, false, cond, List, ℕ, suc, arith, length, get_or, take, drop, eqb, ltb}
use Rattle.std.proofs.Math.Bool.{and-false}
use Rattle.std.proofs.Common.{true≢false, append-nil, length-append, length-take, length-drop, take_all, take-add, take-take, get_or-drop, lt-ltb, le-ltb}
use Rattle.std.specs.Prelude.{◌≡◌, ◌&&◌, ◌∷◌, ◌++◌, ◌+◌, ◌-◌, ◌<◌, ◌≤◌, zero}
use Rattle.std.proofs.Math.Decide.{dec_lt}
use Rattle.std.proofs.Math.Nat.{sub-zero}
use Rattle.std.proofs.Math.Seq.{take-append-add, get_or-append_seam}
use Rattle.laws.specs.Tests.{both, second}
use Rattle.text.specs.Lines.{line_feed}
use Rattle.text_scanning.specs.Scanning.{NoFeed}
use Rattle.text_feeding.specs.Feeding.{Program, fed_all, answered_all, pushed_all, between, ended, Forward, Onward, Taken, Arrived}
use Rattle.text_feeding.proofs.Fed.{fed_parts, fed_part, answered_part, fed_line, answered_line}

-- an octet among those that are no line feed is none
clean_at : (line : List ℕ) (i : ℕ) → NoFeed line → i < length line → eqb (get_or line i 0) line_feed ≡ false
clean_at [] i none h = absurd (omega arith)
clean_at (octet ∷ line) zero none h = none.0
clean_at (octet ∷ line) (suc i) none h = clean_at line i none.1 (omega arith)

module _ {part : List ℕ} {from to : ℕ} where
  -- behind the end of a line it is free whether the program goes on
  pub ended_onward : Forward part from to → ended part from to ≡ true → (on : Bool) → Onward part from to on
  ended_onward forward e on = record { forward = forward; behind = λ _. e }

  -- elsewhere it does
  pub open_onward : Forward part from to → Onward part from to true
  open_onward forward = record { forward = forward; behind = λ h. absurd (true≢false h) }

  -- what goes on from a place goes on from the start
  pub onward_all : {on : Bool} → Onward part from to on → Onward part 0 to on
  onward_all onward =
      let further : 0 < to = omega (arith, onward.forward) in
      record {
        forward = record { further = further; within = onward.forward.within };
        behind = λ h. both (lt-ltb 0 to further) (second (ltb from to) (eqb (get_or part (to - 1) 0) line_feed) (onward.behind h));
      }

-- what was taken of a part up to a place, and from there on, was taken up to the end of both
pub taken_on : {State : Type 0} (program : Program State) (part : List ℕ) (first : State) {before after : State} (at to : ℕ) → at ≤ to →
    before ≡ fed_all program first (take at part) → after ≡ fed_all program before (between at to part) → after ≡ fed_all program first (take to part)
taken_on program part first at to h same more =
    let end : at + (to - at) ≡ to = omega arith in
    more
    ∙ ap (λ (state : _). fed_all program state (between at to part)) same
    ∙ sym (fed_parts program (take at part) (between at to part) first)
    ∙ ap (fed_all program first) (sym (take-add at (to - at) part))
    ∙ ap (λ (n : ℕ). fed_all program first (take n part)) end

module _ {State : Type 0} (program : Program State) (state : State) (part : List ℕ) (at : ℕ) where
  -- the state behind the octets that are no line feed, the place behind what was taken, and whether that ends in a line feed
  pub record Scan (after : State) (next : ℕ) (end : Bool) : Type 0 where
    pub forward : at < length part → Forward part at next
    pub ends : end ≡ ended part at next
    pub taken : fed_all program state (between at next part) ≡ cond end (program.ended after) after
    pub said : answered_all program state (between at next part) ≡ cond end (program.answer after) []

  pub scan_feed : (line rest : List ℕ) → NoFeed line → drop at part ≡ line ++ (line_feed ∷ rest) →
      Scan (pushed_all program state line) (at + length line + 1) true
  scan_feed line rest none same =
      let size : length (drop at part) ≡ length line + length (line_feed ∷ rest) = ap length same ∙ length-append line (line_feed ∷ rest) in
      let count : at + length line + 1 - at ≡ length line + 1 = omega arith in
      let front : between at (at + length line + 1) part ≡ line ++ (line_feed ∷ []) =
      ap (λ (n : ℕ). take n (drop at part)) count ∙ ap (take (length line + 1)) same ∙ take-append-add line (line_feed ∷ rest) 1 in
      let last : at + length line + 1 - 1 ≡ at + length line = omega arith in
      let feed : get_or part (at + length line + 1 - 1) 0 ≡ line_feed =
      ap (λ (n : ℕ). get_or part n 0) last
      ∙ sym (get_or-drop at part (length line) 0)
      ∙ ap (λ (l : List ℕ). get_or l (length line) 0) same
      ∙ get_or-append_seam line line_feed rest 0 in
      record {
        forward = λ inside. record { further = omega arith; within = omega (arith, size, length-drop at part) };
        ends = sym (both (lt-ltb at (at + length line + 1) (omega arith)) (ap (λ (n : ℕ). eqb n line_feed) feed));
        taken = ap (fed_all program state) front ∙ fed_line program line [] state none;
        said =
            ap (answered_all program state) front ∙ answered_line program line [] state none ∙ append-nil (program.answer (pushed_all program state line));
      }

  -- the last of octets that are no line feed ends no line
  clean_end : NoFeed (drop at part) → Dec (at < length part) → ended part at (at + length (drop at part)) ≡ false
  clean_end none (yes inside) =
      let size = length-drop at part in
      let last : at + length (drop at part) - 1 ≡ at + (length (drop at part) - 1) = omega arith in
      let other : eqb (get_or part (at + length (drop at part) - 1) 0) line_feed ≡ false =
      ap (λ (n : ℕ). eqb (get_or part n 0) line_feed) last
      ∙ ap (λ (n : ℕ). eqb n line_feed) (sym (get_or-drop at part (length (drop at part) - 1) 0))
      ∙ clean_at (drop at part) (length (drop at part) - 1) none (omega arith) in
      ap (λ (t : Bool). ltb at (at + length (drop at part)) && t) other ∙ and-false (ltb at (at + length (drop at part)))
  clean_end none (no outside) =
      let size = length-drop at part in
      ap (λ (t : Bool). t && eqb (get_or part (at + length (drop at part) - 1) 0) line_feed) (le-ltb at (at + length (drop at part)) (omega arith))

  pub scan_clean : NoFeed (drop at part) → Scan (pushed_all program state (drop at part)) (at + length (drop at part)) false
  scan_clean none =
      let size = length-drop at part in
      let all : between at (at + length (drop at part)) part ≡ drop at part = take_all (at + length (drop at part) - at) (drop at part) (omega arith) in
      record {
        forward = λ inside. record { further = omega arith; within = omega arith };
        ends = sym (clean_end none (dec_lt at (length part)));
        taken = ap (fed_all program state) all ∙ fed_part program (drop at part) state none;
        said = ap (answered_all program state) all ∙ answered_part program (drop at part) state none;
      }

-- what a scan that ended in a line feed did, and one that did not
module _
    {State : Type 0}
    {program : Program State}
    {state : State}
    {part : List ℕ}
    {at : ℕ}
    {after : State}
    {next : ℕ}
    {end : Bool}
    (scan : Scan program state part at after next end) where
  pub ended_taken : end ≡ true → program.ended after ≡ fed_all program state (between at next part)
  ended_taken e = sym (scan.taken ∙ ap (λ (t : Bool). cond t (program.ended after) after) e)

  pub ended_said : end ≡ true → program.answer after ≡ answered_all program state (between at next part)
  ended_said e = sym (scan.said ∙ ap (λ (t : Bool). cond t (program.answer after) []) e)

  pub open_taken : end ≡ false → after ≡ fed_all program state (between at next part)
  open_taken e = sym (scan.taken ∙ ap (λ (t : Bool). cond t (program.ended after) after) e)

  pub open_said : end ≡ false → [] ≡ answered_all program state (between at next part)
  open_said e = sym (scan.said ∙ ap (λ (t : Bool). cond t (program.answer after) []) e)

-- what was taken of octets that came to the front of a part was taken of the part
module _ (part : List ℕ) (read to : ℕ) (wrote : Bool) (h : read ≤ length part) (taken : Taken (take (read - 0) part) to wrote) where
  pub read_arrived : Arrived part to (wrote && ltb 0 read)
  read_arrived = record { read = read; within = h; wrote = wrote; taken = rw (sub-zero read) at taken; goes_on = refl }

  pub read_taken : take to (take (read - 0) part) ≡ take to part
  read_taken = take-take to (read - 0) part (by wrote taken)
    where
      by : (on : Bool) → Taken (take (read - 0) part) to on → to ≤ read - 0
      by true t = omega (arith, t.all refl, length-take (read - 0) part)
      by false t = omega (arith, (t.some refl).forward.within, length-take (read - 0) part)
