-- `boundary_silence::miss` meets its contract.
use Rattle.laws.specs.Usual.{sym, ap, ◌∙◌}
use Rattle.boundary_lists.specs.Lists.{members_in}
use Rattle.members.specs.Members.{with_entry}
use Rattle.members.specs.declared.Entry.{Entry}
use Rattle.boundary_silence.specs.Silence.{missed_entry, missed_there}
use Rattle.boundary_silence.proofs.miss.Goals as goal

pub returns-then-entry : goal.returns-then-entry
returns-then-entry c =
    let a = c.args in
    let members = members_in a.listed.now a.areas.now a.watch.now a.misses.now in
    let entry = c.entry_at-entry.ensures in
    c.put.ensures
    ∙ ap (with_entry members a.number) (c.missed_entry.ensures ∙ ap missed_entry entry)
    ∙ missed_there members a.number (sym (ap (λ (e : Entry). e.listed) entry) ∙ c.if-entry.true)

pub returns-else-entry : goal.returns-else-entry
returns-else-entry c =
    let here = sym (ap (λ (e : Entry). e.listed) c.entry_at-entry.ensures) ∙ c.if-entry.false in
    rw here
