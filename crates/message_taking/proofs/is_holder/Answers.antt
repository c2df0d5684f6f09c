-- `message_taking::is_holder` meets its contract.
use Rattle.std.specs.Prelude.{◌&&◌}
use Rattle.laws.specs.Usual.{ap, sym, ◌∙◌, Bool, eqb}
use Rattle.boundary_core.specs.declared.Core.{Core}
use Rattle.boundary_places.specs.Places.{core_in}
use Rattle.boundary_refused.specs.Taken.{participating_in}
use Rattle.station.specs.Rules.Answers.{phase_number}
use Rattle.message_taking.proofs.is_holder.Goals as goal

pub returns : goal.returns
returns c = λ members.
    ap (λ (t : Bool). t && eqb c.core_in-state.result.view c.core_in-state.result.own.number) c.is_in.ensures
    ∙ ap (λ (core : Core). eqb (phase_number core.phase) 4 && eqb core.view core.own.number) c.core_in-state.ensures.value
    ∙ ap (λ (t : Bool). t && eqb held.view held.own.number) (sym (participating_in held.phase))
  where
    held : Core
    held = core_in c.args.core.now
