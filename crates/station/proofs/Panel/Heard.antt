-- What hearing a frame does to the panel. Assumes nothing.
use Rattle.laws.specs.Usual.{refl, false, List, ℕ}
use Rattle.station.proofs.Outcomes.HearCases.{entering}
use Rattle.station.specs.Outcomes.HearCases.{off, begins, joins, passes, reads, lists, ignores, HearCases, refuses, turns_off, gathers, heeds}
use Rattle.station.specs.Rules.Hearing.{Hearing}
use Rattle.station.specs.declared.Station.{Station}
use Rattle.station.proofs.Panel.Moves.{leave, stays, restarts}
use Rattle.station.specs.Panel.Moves.{Moves}

pub hear_moves : {station : Station} {octets memory assembly : List ℕ} {result : Hearing} → HearCases station octets memory assembly result →
    Moves station false false result.station
hear_moves {station} (refuses refusal) = stays station
hear_moves (turns_off out) = leave refl (λ clear. refl)
hear_moves {station} (gathers frame from parts) = restarts station (rw from.participates) _ _ _ false
hear_moves {station} (heeds frame facts entered) =
    entering (λ left answer. Moves station false false left) (λ e. stays station) (λ e c. leave refl (λ clear. refl)) (λ e c. leave refl (λ clear. refl))
    (λ e c. stays station) (λ e c. leave refl (λ clear. clear (rw e)))
    (λ e c. record { inside = λ room p. record { panel = ((stays station).inside room p).panel; room = room p }; outside = λ clear p. clear p })
    (λ e. stays station) entered
