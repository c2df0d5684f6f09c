-- `boundary_overlap::overlaps_other` meets its contract.
use Rattle.std.specs.Prelude.{◌≡◌, ◌&&◌, ◌+◌, ◌-◌}
use Rattle.laws.specs.Usual.{sym, ap, ◌∙◌, not, arith, length, drop, eqb, rules}
use Rattle.area.specs.Overlap.{areas_overlap}
use Rattle.boundary_lists.specs.Laws.{length_in}
use Rattle.boundary_lists.specs.Lists.{members_in}
use Rattle.members.specs.Listing.{overlap_from}
use Rattle.members.specs.Loops.{overlap_end, overlap_more}
use Rattle.members.specs.declared.Entry.{Entry}
use Rattle.boundary_overlap.specs.Skipping.{overlap_at, passed_over}
use Rattle.boundary_overlap.proofs.overlaps_other.Goals as goal

pub loop-other-init : goal.loop-other-init
loop-other-init c =
    let a = c.args in
    ap (overlap_at a.listed.now a.areas.now a.watch.now a.misses.now a.number a.parts) c.first_listed-other.ensures
    ∙ sym (passed_over a.listed.now a.areas.now a.watch.now a.misses.now a.number a.parts 0 (omega arith)).0

pub returns-then-overlaps_entry : goal.returns-then-overlaps_entry
returns-then-overlaps_entry c =
    let a = c.args in
    let loop = c.loop-other in
    let members = members_in a.listed.now a.areas.now a.watch.now a.misses.now in
    let all : length members.entries ≡ 256 = length_in a.listed.now a.areas.now a.watch.now a.misses.now in
    let more = overlap_more members.entries loop.other a.number a.parts (omega arith) in
    let here = c.overlaps_entry.ensures
    ∙ ap (λ (e : Entry). (e.listed && not (eqb loop.other a.number)) && areas_overlap a.parts e.areas) c.entry_at-entry.ensures in
    sym (more ∙ rw (← here, c.if-overlaps_entry.true)) ∙ loop.invariant

pub loop-other-smaller : goal.loop-other-smaller
loop-other-smaller c =
    let a = c.args in
    let passed = passed_over a.listed.now a.areas.now a.watch.now a.misses.now a.number a.parts (c.loop-other.other + 1) (omega arith) in
    omega (arith, passed.1, c.first_listed-other-in-loop-other.ensures)

pub loop-other-preserved : goal.loop-other-preserved
loop-other-preserved c =
    let a = c.args in
    let loop = c.loop-other in
    let members = members_in a.listed.now a.areas.now a.watch.now a.misses.now in
    let all : length members.entries ≡ 256 = length_in a.listed.now a.areas.now a.watch.now a.misses.now in
    let more = overlap_more members.entries loop.other a.number a.parts (omega arith) in
    let here = c.overlaps_entry.ensures
    ∙ ap (λ (e : Entry). (e.listed && not (eqb loop.other a.number)) && areas_overlap a.parts e.areas) c.entry_at-entry.ensures in
    ap (overlap_at a.listed.now a.areas.now a.watch.now a.misses.now a.number a.parts) c.first_listed-other-in-loop-other.ensures
    ∙ sym (passed_over a.listed.now a.areas.now a.watch.now a.misses.now a.number a.parts (loop.other + 1) (omega arith)).0
    ∙ sym (more ∙ rw (← here, c.if-overlaps_entry.false))
    ∙ loop.invariant

pub returns : goal.returns
returns c =
    let a = c.args in
    let members = members_in a.listed.now a.areas.now a.watch.now a.misses.now in
    let all : length members.entries ≡ 256 = length_in a.listed.now a.areas.now a.watch.now a.misses.now in
    sym (overlap_end members.entries c.loop-other.other a.number a.parts (omega arith)) ∙ c.loop-other.invariant
