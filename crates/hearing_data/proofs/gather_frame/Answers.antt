-- `hearing_data::gather_frame` meets its contract.
use Rattle.laws.specs.Usual.{◌∙◌, length, eqb, rules}
use borrow.Author.Tests.{eqb-true}
use Rattle.laws.specs.Tests.{first, second}
use Rattle.hearing_data.specs.Body.{in_range_lem, data_fit}
use Rattle.hearing_data.proofs.gather_frame.Goals as goal

pub gather-requires : goal.gather-requires
gather-requires c =
    let a = c.args in
    let read = c.requires.frame_value in
    let cyclic = c.requires.code_value in
    let whole = eqb-true (length a.memory.now) 17408 (first (eqb (length a.memory.now) 17408) (eqb (length a.assembly.now) 17408) c.requires.assembly_value) in
    let room = eqb-true (length a.assembly.now) 17408 (second (eqb (length a.memory.now) 17408) (eqb (length a.assembly.now) 17408) c.requires.assembly_value) in
    record { areas_value = in_range_lem a.octets.now a.frame read cyclic; octets_bound = rw c.data_of-part.ensures (data_fit a.octets.now a.frame read cyclic); assembly_len = room; memory_len = whole }

pub returns : goal.returns
returns c =
    let done = c.gather.ensures in
    let part = c.data_of-part.ensures in
    record { gathering_value = done.gathering_value ∙ rw part; outcome_value = done.outcome_value ∙ rw part; memory_after = done.memory_after ∙ rw part; assembly_after = done.assembly_after ∙ rw part }
