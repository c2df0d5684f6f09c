-- `hearing_gathering::gather` meets its contract.
use Rattle.std.specs.Prelude.{◌≡◌, ◌&&◌}
use Rattle.laws.specs.Usual.{refl, sym, ap, ◌∙◌, Bool, true, false, cond, not, List, ℕ, arith, eqb, rules}
use borrow.Author.Tests.{eqb-true, not-false}
use Rattle.area.specs.Areas.{in_range}
use Rattle.block.specs.Blocks.{start_of}
use Rattle.copying.specs.Pasted.{pasted}
use Rattle.laws.specs.Tests.{first, second}
use Rattle.station.specs.Rules.Data.{Gathered, same_areas, is_repeat, is_next, turn_written, storing, gathered_from}
use Rattle.station.specs.Rules.State.{nothing}
use Rattle.station.specs.Types.{Areas, Fields}
use Rattle.station.specs.declared.Gathering.{Gathering}
use Rattle.station.specs.declared.Data.TheVariants.{Kept, Written}
use Rattle.hearing_gathering.proofs.gather.Goals as goal

-- areas that are the same are in range alike
same_range : (a b : Areas) → same_areas a b ≡ true → in_range a ≡ true → in_range b ≡ true
same_range a b e ranged =
    let ones = first (eqb a.one.address b.one.address && eqb a.one.size b.one.size) (eqb a.two.address b.two.address && eqb a.two.size b.two.size) e in
    let twos = second (eqb a.one.address b.one.address && eqb a.one.size b.one.size) (eqb a.two.address b.two.address && eqb a.two.size b.two.size) e in
    let p = eqb-true a.one.address b.one.address (first _ (eqb a.one.size b.one.size) ones) in
    let q = eqb-true a.one.size b.one.size (second (eqb a.one.address b.one.address) _ ones) in
    let r = eqb-true a.two.address b.two.address (first _ (eqb a.two.size b.two.size) twos) in
    let s = eqb-true a.two.size b.two.size (second (eqb a.two.address b.two.address) _ twos) in
    rw (← p, ← q, ← r, ← s) ranged

-- a block that is stored, the last one too, leaves the assembly buffer as it was then
same_assembly : (listed : Areas) (frame : Fields) (assembly memory : List ℕ) → (storing listed frame assembly memory).assembly ≡ assembly
same_assembly listed frame assembly memory = by (eqb frame.block frame.blocks)
  where
    by : (last : Bool) →
        (cond {A = Gathered} last
        (record { gathering = nothing; assembly = assembly; memory = turn_written listed assembly memory; outcome = Written })
        (record { gathering = record { source = frame.source; blocks = frame.block }; assembly = assembly; memory = memory; outcome = Kept })
        ).assembly
        ≡ assembly
    by true = refl
    by false = refl

-- a block that is no repeat and follows is stored
stores : (gathering : Gathering) (listed : Areas) (frame : Fields) (octets assembly memory : List ℕ) → not (same_areas frame.areas listed) ≡ false
    → is_repeat gathering frame octets assembly ≡ false → is_next gathering frame ≡ true
    → storing listed frame (pasted assembly (start_of frame.block) octets) memory ≡ gathered_from gathering listed frame octets assembly memory
stores gathering listed frame octets assembly memory alike new next = rw (alike, new, next)

pub returns-then-not-same_areas : goal.returns-then-not-same_areas
returns-then-not-same_areas c =
    let other = rw c.same_areas.ensures at c.if-not-same_areas.true in
    record { gathering_value = c.drop_both.ensures.gathering_value ∙ rw other; outcome_value = c.drop_both.ensures.outcome_value ∙ rw other; assembly_after = rw other; memory_after = rw other }

pub returns-then-is_repeat : goal.returns-then-is_repeat
returns-then-is_repeat c =
    let alike = rw c.same_areas.ensures at c.if-not-same_areas.false in
    let again = rw c.is_repeat.ensures at c.if-is_repeat.true in
    record { gathering_value = rw (alike, again); outcome_value = rw (alike, again); assembly_after = rw (alike, again); memory_after = rw (alike, again) }

pub returns : goal.returns
returns c =
    let alike = rw c.same_areas.ensures at c.if-not-same_areas.false in
    let new = rw c.is_repeat.ensures at c.if-is_repeat.false in
    let later = rw c.is_next.ensures at c.if-is_next.false in
    record { gathering_value = c.drop_both-2.ensures.gathering_value ∙ rw (alike, new, later); outcome_value = c.drop_both-2.ensures.outcome_value ∙ rw (alike, new, later); assembly_after = rw (alike, new, later); memory_after = rw (alike, new, later) }
