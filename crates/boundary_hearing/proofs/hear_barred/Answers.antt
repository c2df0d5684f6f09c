-- `boundary_hearing::hear_barred` meets its contract.
use Rattle.std.specs.Prelude.{◌≡◌}
use Rattle.laws.specs.Usual.{refl, sym, ap, ◌∙◌, true, false}
use borrow.Author.Tests.{not-false}
use Rattle.boundary_core.specs.Crossing.{core_of, station_of, is_in, in_phase}
use Rattle.boundary_core.specs.declared.Core.{Core}
use Rattle.boundary_lists.specs.Lists.{members_in}
use Rattle.boundary_places.proofs.Laws.{core_in_back, left_alone, put_in}
use Rattle.boundary_places.specs.Places.{core_in}
use Rattle.boundary_refused.specs.Leaves.{heard_leaves}
use Rattle.boundary_refused.specs.Taken.{is_taken_by, taken_heard, taken_stops}
use Rattle.boundary_refused.specs.Unheard.{unlent}
use Rattle.station.specs.Rules.Hearing.{lent_right, hear_of}
use Rattle.station.specs.Rules.Starting.{Switching, stop_of}
use Rattle.station.specs.declared.Phase.TheVariants.{Participating}
use Rattle.boundary_hearing.proofs.hear_barred.Goals as goal

pub returns-then-not-lent : goal.returns-then-not-lent
returns-then-not-lent c =
    let a = c.args in
    let members = members_in a.listed.now a.areas.now a.watch.now a.misses.now in
    let station = station_of (core_in a.core.now) members in
    let law = unlent station a.octets.now a.memory.now a.assembly.now c.if-not-lent.true in
    let left = heard_leaves station _ a.memory.now a.assembly.now _ law (core_in a.core.now) _ members (sym (core_in_back a.core.now members)) c.refused.ensures refl in
    let numbers = left_alone a.core.now (hear_of station a.octets.now a.memory.now a.assembly.now).station c.core_in-state.ensures.numbers_len left.0 in
    record { core_after = numbers.0; core_after_2 = numbers.1; value = left.1.0; memory_after = left.1.1.0; assembly_after = left.1.1.1.0; misses_after = left.1.1.1.1 }

pub returns-then-is_in : goal.returns-then-is_in
returns-then-is_in c =
    let a = c.args in
    let pre = c.requires in
    let core = c.core_in-state.ensures in
    let state = core_in a.core.now in
    let members = members_in a.listed.now a.areas.now a.watch.now a.misses.now in
    let station = station_of state members in
    let lent : lent_right a.memory.now a.assembly.now ≡ true = c.if-not-lent.false in
    let taken : is_taken_by state a.header ≡ true = not-false _ (rw lent at pre.header_value) in
    let four : state.phase ≡ Participating = in_phase Participating state (ap (is_in Participating) (sym core.value) ∙ sym c.is_in.ensures ∙ c.if-is_in.true) in
    let law = taken_heard state members a.octets.now a.memory.now a.assembly.now a.header lent pre.octets_value four taken in
    let left = heard_leaves station _ a.memory.now a.assembly.now _ law state _ members (sym (core_in_back a.core.now members)) c.refused-then-is_in.ensures refl in
    let numbers = left_alone a.core.now (hear_of station a.octets.now a.memory.now a.assembly.now).station core.numbers_len left.0 in
    record { core_after = numbers.0; core_after_2 = numbers.1; value = left.1.0; memory_after = left.1.1.0; assembly_after = left.1.1.1.0; misses_after = left.1.1.1.1 }

pub returns : goal.returns
returns c =
    let a = c.args in
    let pre = c.requires in
    let core = c.core_in-state.ensures.value in
    let state = core_in a.core.now in
    let members = members_in a.listed.now a.areas.now a.watch.now a.misses.now in
    let station = station_of state members in
    let lent : lent_right a.memory.now a.assembly.now ≡ true = c.if-not-lent.false in
    let taken : is_taken_by state a.header ≡ true = not-false _ (rw lent at pre.header_value) in
    let other : is_in Participating state ≡ false = ap (is_in Participating) (sym core) ∙ sym c.is_in.ensures ∙ c.if-is_in.false in
    let law = taken_stops state members a.octets.now a.memory.now a.assembly.now a.header lent pre.octets_value other taken in
    let done = c.stop-stopped.ensures in
    let call : Core → Switching = λ (k : Core). stop_of (station_of k members) in
    let after = done.core_value ∙ ap (λ (k : Core). core_of (call k).station) core in
    let list = done.misses_after ∙ ap (λ (k : Core). (call k).station.members) core in
    let left = heard_leaves (stop_of station).station _ a.memory.now a.assembly.now _ law _ _ _ after c.refused-2.ensures list in
    let heard = hear_of station a.octets.now a.memory.now a.assembly.now in
    let numbers = put_in _ _ _ heard.station left.0 c.keep.ensures.numbers_after c.keep.ensures.numbers_after_2 in
    record { core_after = numbers.0; core_after_2 = numbers.1; value = left.1.0; memory_after = left.1.1.0; assembly_after = left.1.1.1.0; misses_after = left.1.1.1.1 }
