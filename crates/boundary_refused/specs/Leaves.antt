-- What a frame leaves that alters neither buffer: the core, the answer, both buffers and the list. Assumes nothing.
use Rattle.std.specs.Prelude.{◌≡◌}
use Rattle.laws.specs.Usual.{sym, ap, ◌∙◌, List, ℕ}
use Rattle.boundary_answers.specs.Numbers.{heard_answer}
use Rattle.boundary_answers.specs.declared.Answer.{Answer}
use Rattle.boundary_core.specs.Crossing.{core_of}
use Rattle.boundary_core.specs.declared.Core.{Core}
use Rattle.station.specs.Rules.Hearing.{Hearing}
use Rattle.station.specs.Types.{Members}
use Rattle.station.specs.declared.Heard.{Heard}
use Rattle.station.specs.declared.Station.{Station}

pub heard_leaves : (station : Station) (answer : Heard) (memory assembly : List ℕ) (heard : Hearing)
    → heard ≡ record { station = station; answer = answer; memory = memory; assembly = assembly }
    → (core : Core) (told : Answer) (members : Members) → core ≡ core_of station → told ≡ heard_answer answer → members ≡ station.members
    → (core ≡ core_of heard.station)
    × ((told ≡ heard_answer heard.answer)
    × ((memory ≡ heard.memory) × ((assembly ≡ heard.assembly) × (members ≡ heard.station.members))))
heard_leaves station answer memory assembly heard law core told members same_core same_answer same_members = (
  same_core ∙ sym (ap (λ (h : Hearing). core_of h.station) law),
  (
    same_answer ∙ sym (ap (λ (h : Hearing). heard_answer h.answer) law),
    (
      sym (ap (λ (h : Hearing). h.memory) law),
      (sym (ap (λ (h : Hearing). h.assembly) law), same_members ∙ sym (ap (λ (h : Hearing). h.station.members) law)),
    ),
  ),
)
