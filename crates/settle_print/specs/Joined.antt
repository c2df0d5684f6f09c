-- What `settle` prints, part by part, is `output_of` of its input. Assumes nothing.
use Rattle.laws.specs.Usual.{refl, sym, ap, ◌∙◌, Bool, true, false, List, [], ℕ, suc, arith, length, take}
use Rattle.std.proofs.Common.{append_assoc, append-nil}
use Rattle.std.specs.Prelude.{◌≡◌, ◌++◌, ◌≤◌, zero}
use Rattle.copying.specs.Laws.{front_read, length_pasted}
use Rattle.settle_output.specs.Output.{room}
use Rattle.settle_rest.proofs.Begun.{begun}
use Rattle.settle_rest.specs.Rest.{rest_of, is_over, printing_of}
use Rattle.settle_rest.specs.Whole.{output_of}
use Rattle.settle_rest.specs.declared.Printing.{Printing}
use Rattle.settle_print.specs.Parts.{lines_left, filled_of, part_of, buffer_after}
use Rattle.settle_print.specs.Lines.{none_over, none_left, rest_over}
use Rattle.settle_print.specs.Filling.{filled, fill_no_more, fill_less}

module _ (size : ℕ) (p : Printing) where
  -- a part, and what is still to be printed behind it, are what was to be printed
  pub part_joined : part_of size p ++ rest_of (filled_of size p).printing ≡ rest_of p
  part_joined = (filled size p).joined

  pub part_length : length (part_of size p) ≡ (filled_of size p).length
  part_length = (filled size p).count

module _ (p : Printing) (buffer : List ℕ) where
  -- the front of the buffer is the part
  pub front_part : take (filled_of (length buffer) p).length (buffer_after p buffer) ≡ part_of (length buffer) p
  front_part = front_read buffer (part_of (length buffer) p) (filled_of (length buffer) p).length (sym (part_length (length buffer) p))

  pub buffer_kept : length (buffer_after p buffer) ≡ length buffer
  buffer_kept = length_pasted buffer (part_of (length buffer) p) 0 (omega (arith, part_length (length buffer) p, (filled (length buffer) p).inside))

-- What a program hands on that fills a buffer so many times, and hands on its front each time.
unfoldable pub handed : ℕ → List ℕ → Printing → List ℕ
handed zero buffer p = []
handed (suc fills) buffer p =
    take (filled_of (length buffer) p).length (buffer_after p buffer)
    ++ handed fills (buffer_after p buffer) (filled_of (length buffer) p).printing

-- and what is still to be printed then
unfoldable pub after_fills : ℕ → ℕ → Printing → Printing
after_fills zero size p = p
after_fills (suc fills) size p = after_fills fills size (filled_of size p).printing

-- what was handed on and what is still to be printed are what was to be printed
pub handed_joined : (fills : ℕ) (buffer : List ℕ) (p : Printing) → handed fills buffer p ++ rest_of (after_fills fills (length buffer) p) ≡ rest_of p
unfolding handed after_fills
handed_joined zero buffer p = refl
handed_joined (suc fills) buffer p =
    let size = length buffer in
    let next = (filled_of size p).printing in
    let after = buffer_after p buffer in
    let rest : handed fills after next ++ rest_of (after_fills fills size next) ≡ rest_of next =
    ap (λ (k : ℕ). handed fills after next ++ rest_of (after_fills fills k next)) (sym (buffer_kept p buffer)) ∙ handed_joined fills after next in
    append_assoc (take (filled_of size p).length after) (handed fills after next) (rest_of (after_fills fills size next))
    ∙ ap (λ (l : List ℕ). take (filled_of size p).length after ++ l) rest
    ∙ ap (λ (l : List ℕ). l ++ rest_of next) (front_part p buffer)
    ∙ part_joined size p

-- Once nothing is left to print, all that was handed on is the output of the input, octet by octet.
pub handed_whole : (fills : ℕ) (buffer octets : List ℕ) → is_over (after_fills fills (length buffer) (printing_of octets)) ≡ true
    → handed fills buffer (printing_of octets) ≡ output_of octets
handed_whole fills buffer octets over =
    let all = handed fills buffer (printing_of octets) in
    sym (append-nil all)
    ∙ ap (λ (l : List ℕ). all ++ l) (sym (rest_over (after_fills fills (length buffer) (printing_of octets)) over))
    ∙ handed_joined fills buffer (printing_of octets)
    ∙ begun octets

-- And it comes to that: with room for a line, each fill leaves fewer lines (`fill_less`).
pub handed_ends : (fills size : ℕ) (p : Printing) → room ≤ size → lines_left p ≤ fills → is_over (after_fills fills size p) ≡ true
unfolding after_fills
handed_ends zero size p enough few = none_left p (omega arith)
handed_ends (suc fills) size p enough few = handed_ends fills size (filled_of size p).printing enough (by (is_over p) refl)
  where
    by : (t : Bool) → is_over p ≡ t → lines_left (filled_of size p).printing ≤ fills
    by true e = omega (arith, none_over p e, fill_no_more size p)
    by false e = omega (arith, fill_less size p enough e)

-- So a program that fills a buffer of 35 octets or more and hands on its front until nothing is left to print ends, and hands on the output.
pub printed_whole : (buffer octets : List ℕ) → room ≤ length buffer
    → (fills : ℕ) × (is_over (after_fills fills (length buffer) (printing_of octets)) ≡ true) × (handed fills buffer (printing_of octets) ≡ output_of octets)
printed_whole buffer octets enough =
    let fills = lines_left (printing_of octets) in
    let over = handed_ends fills (length buffer) (printing_of octets) enough (omega arith) in
    (fills, over, handed_whole fills buffer octets over)
