use Rattle.std.specs.Prelude.{◌≡◌, ◌&&◌, ◌+◌, ◌-◌}
use Rattle.laws.specs.Usual.{sym, ap, ◌∙◌, not, arith, length, drop, eqb, rules}
use Rattle.area.specs.Overlap.{areas_overlap}
use Rattle.boundary_lists.specs.Laws.{length_in}
use Rattle.boundary_lists.specs.Lists.{members_in}
use Rattle.members.specs.Listing.{overlap_from}
use Rattle.members.specs.Loops.{overlap_end, overlap_more}
use Rattle.members.specs.declared.Entry.{Entry}
use Rattle.boundary_overlap.specs.Skipping.{overlap_at, passed_over}
use Rattle.boundary_overlap.proofs.overlaps_other.Given as goal

abbrev pub invariant-loop-other : goal.invariant-loop-other
invariant-loop-other l =
    overlap_from l.other l.number l.parts (drop l.other (members_in l.listed l.areas l.watch l.misses).entries)
    ≡ overlap_from 0 l.number l.parts (members_in l.listed l.areas l.watch l.misses).entries

abbrev pub decreases-loop-other : goal.decreases-loop-other
decreases-loop-other l =
    256 - l.other
