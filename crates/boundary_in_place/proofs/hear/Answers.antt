-- `boundary_in_place::hear` meets its contract.
use Rattle.std.specs.Prelude.{◌≡◌, ◌||◌, ◌<◌}
use Rattle.laws.specs.Usual.{sym, ap, ◌∙◌, Bool, true, false, not, ℕ, arith, get_or, eqb, rules}
use Rattle.frame.specs.Codes.{is_token}
use Rattle.hearing_token.specs.Parts.{outcome_by}
use Rattle.boundary_lists.specs.Laws.{listed_in, cleared_in}
use Rattle.boundary_lists.specs.Lists.{members_in}
use Rattle.members.specs.Members.{entry_of, is_listed, cleared}
use Rattle.station.specs.Types.{Areas, Entry}
use Rattle.frame_reading.specs.Reading.{data_of}
use Rattle.station.specs.Rules.Data.{gathered_from}
use Rattle.station.specs.Rules.Hearing.{Hearing, hear_of}
use Rattle.station.specs.Rules.Token.{view_heard}
use Rattle.boundary_core.specs.Crossing.{core_of, station_of}
use Rattle.boundary_answers.specs.Numbers.{cyclic_answer, heard_answer}
use Rattle.boundary_told.specs.Routes.{told_read}
use Rattle.boundary_told.specs.Told.{route_of, with_frame}
use Rattle.boundary_participant.specs.Quick.{restarted_core, accepted_parts, whole_body, accepted_heard}
use Rattle.boundary_in_place.proofs.hear.Goals as goal

pub hear_accepted-requires : goal.hear_accepted-requires
hear_accepted-requires c =
    let a = c.args in
    let pre = c.requires in
    let taken = accepted_parts a.core (get_or a.listed.now a.frame.source false) (get_or a.listed.now a.frame.destination false) a.frame pre.frame_value in
    record { assembly_value = pre.assembly_value; frame_value = whole_body a.octets.now a.frame pre.octets_value; code_value = taken.cyclic }

pub returns : goal.returns
returns c =
    let a = c.args in
    let pre = c.requires in
    let core = a.core in
    let frame = a.frame in
    let from = pre.source_value in
    let to = pre.destination_value in
    let members = members_in a.listed.now a.areas.now a.watch.now a.misses.now in
    let flag : ℕ → Bool = λ (n : ℕ). get_or a.listed.now n false in
    let source : a.source < 256 = omega arith in
    let destination : a.destination < 256 = omega arith in
    let taken = accepted_parts core (flag frame.source) (flag frame.destination) frame pre.frame_value in
    let sender : is_listed members frame.source ≡ true =
    ap (is_listed members) (sym from) ∙ listed_in a.listed.now a.areas.now a.watch.now a.misses.now a.source source ∙ ap flag from ∙ taken.listed in
    let taker : is_listed members frame.destination ≡ flag frame.destination =
    ap (is_listed members) (sym to) ∙ listed_in a.listed.now a.areas.now a.watch.now a.misses.now a.destination destination ∙ ap flag to in
    let known : (not (is_token frame.code) || (eqb frame.destination core.own.number || is_listed members frame.destination)) ≡ true =
    ap (λ (b : Bool). not (is_token frame.code) || (eqb frame.destination core.own.number || b)) taker ∙ taken.known in
    let law = accepted_heard core members a.octets.now a.memory.now a.assembly.now frame taken.four taken.cyclic taken.other sender known pre.assembly_value pre.octets_value in
    let done = c.hear_accepted.ensures in
    let parts = ap (λ (e : Entry). e.areas) (c.entry_at-entry.ensures ∙ ap (entry_of members) from) in record {
      core_value = done.core_value
          ∙ ap (λ (p : Areas). restarted_core core (view_heard core.view frame) (gathered_from core.gathering p frame (data_of a.octets.now frame) a.assembly.now a.memory.now).gathering) parts
          ∙ sym (ap (λ (h : Hearing). core_of h.station) law);
      answer_value = done.answer_value
          ∙ ap (λ (p : Areas). with_frame (cyclic_answer (outcome_by core.own.number core.view frame (gathered_from core.gathering p frame (data_of a.octets.now frame) a.assembly.now a.memory.now).outcome)) (route_of frame)) parts
          ∙ sym (ap (λ (h : Hearing). with_frame (heard_answer h.answer) (route_of frame)) law)
          ∙ told_read a.octets.now frame (hear_of (station_of core members) a.octets.now a.memory.now a.assembly.now).answer pre.octets_value;
      memory_after = done.memory_after ∙ ap (λ (p : Areas). (gathered_from core.gathering p frame (data_of a.octets.now frame) a.assembly.now a.memory.now).memory) parts ∙ sym (ap (λ (h : Hearing). h.memory) law);
      assembly_after = done.assembly_after ∙ ap (λ (p : Areas). (gathered_from core.gathering p frame (data_of a.octets.now frame) a.assembly.now a.memory.now).assembly) parts ∙ sym (ap (λ (h : Hearing). h.assembly) law);
      misses_after = ap (members_in a.listed.now a.areas.now a.watch.now) c.clear.ensures
          ∙ cleared_in a.listed.now a.areas.now a.watch.now a.misses.now a.source source
          ∙ ap (cleared members) from
          ∙ sym (ap (λ (h : Hearing). h.station.members) law);
    }
