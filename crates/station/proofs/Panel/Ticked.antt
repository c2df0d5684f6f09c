-- What a tick does to the panel. Assumes nothing.
use Rattle.laws.specs.Usual.{refl, true, false}
use Rattle.members.specs.Members.{smallest}
use Rattle.station.specs.Outcomes.TickCases.{TickCases, off, listens, starts, lapses, begins, gives_up, learns, waits, ends, runs}
use Rattle.station.specs.Rules.Ticking.{later, Ticking}
use Rattle.station.specs.Rules.Waits.{longest_watch}
use Rattle.station.specs.declared.Station.{Station}
use Rattle.station.proofs.Panel.Moves.{leave, begin, restarts, only_counts}
use Rattle.station.specs.Panel.Moves.{Moves}

pub tick_moves : {station : Station} {result : Ticking} → TickCases station result → Moves station true false result.station
tick_moves (off e) = leave (rw e) (λ clear. clear (rw e))
tick_moves (listens e) = leave (rw e) (λ clear. clear (rw e))
tick_moves (starts e t) = leave (rw e) (λ clear. clear (rw e))
tick_moves (lapses e t) = leave refl (λ clear. refl)
tick_moves {station} (begins e t) = begin station true station.own station.members (smallest station.own.number station.members) (rw e)
tick_moves (gives_up e t) = leave refl (λ clear. refl)
tick_moves (learns e t r) = leave (rw e) (λ clear. clear (rw e))
tick_moves (waits e t r) = leave (rw e) (λ clear. clear (rw e))
tick_moves {station} (ends e t) = restarts station (rw e) _ _ _ true
tick_moves {station} (runs e t) = only_counts station (rw e) (later longest_watch station.elapsed)
