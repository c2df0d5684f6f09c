-- `hearing_gathering::write_turn` meets its contract.
use Rattle.std.specs.Prelude.{◌≡◌, ◌+◌, ◌-◌, ◌*◌, ◌≤◌}
use Rattle.laws.specs.Usual.{ap, ◌∙◌, true, List, ℕ, arith, length, take, drop, rules}
use lib.ListN.{length-take}
use borrow.Author.Tests.{leb-true}
use Rattle.area.specs.Areas.{in_area, in_range, span_of}
use Rattle.area.specs.declared.Area.TheVariants.{One, Two}
use Rattle.area.specs.declared.Areas.{Areas}
use Rattle.area.specs.declared.Span.{Span}
use Rattle.block.specs.Cut.{fits}
use Rattle.copying.specs.Pasted.{pasted}
use Rattle.laws.specs.Tests.{first, second}
use Rattle.station.specs.Rules.Data.{turn_written}
use Rattle.hearing_gathering.proofs.write_turn.Goals as goal

one_in : (areas : Areas) → in_range areas ≡ true → areas.one.address + areas.one.size ≤ 512
one_in areas e = leb-true (areas.one.address + areas.one.size) 512 (first (in_area One areas.one) (in_area Two areas.two) e)

two_in : (areas : Areas) → in_range areas ≡ true → areas.two.address + areas.two.size ≤ 8192
two_in areas e = leb-true (areas.two.address + areas.two.size) 8192 (second (in_area One areas.one) (in_area Two areas.two) e)

-- what the two copies leave, in the words of the definition
written : (areas : Areas) (one two : Span) (turn memory first second : List ℕ) → one ≡ span_of One areas.one → two ≡ span_of Two areas.two →
    first ≡ pasted memory one.start (take (one.length - 0) turn) →
    second ≡ pasted first two.start (take (one.length + two.length - one.length) (drop one.length turn)) →
    second ≡ turn_written areas turn memory
written areas one two turn memory first second p q e f =
    let whole : 2 * areas.one.size - 0 ≡ 2 * areas.one.size = omega arith in
    let rest : 2 * areas.one.size + 2 * areas.two.size - 2 * areas.one.size ≡ 2 * areas.two.size = omega arith in
    f ∙ rw (e, p, q, whole, rest)
