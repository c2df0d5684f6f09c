-- When a message goes, by the panel and the outgoing side: all that `goes` tests but whether a block is due and none of the turn has been sent.
use Rattle.std.specs.Prelude.{◌≡◌, ◌&&◌}
use Rattle.laws.specs.Usual.{Bool, not, eqb}
use Rattle.std.proofs.Math.Bool.{and_assoc}
use Rattle.message_places.specs.Outgoing.{outgoing_of}
use Rattle.message_places.specs.declared.Outgoing.{Outgoing}
use Rattle.message_rules.specs.Rules.Again.{is_to_go}
use Rattle.message_rules.specs.Rules.Cycle.{is_measured, cycle_lets, is_writable, goes}
use Rattle.message_rules.specs.Rules.State.{Messages}
use Rattle.panel.specs.declared.Panel.{Panel}
use Rattle.station.specs.Rules.Asking.{due_in}
use Rattle.station.specs.Rules.State.{is_participating}
use Rattle.station.specs.declared.Station.{Station}

abbrev pub may_go : Panel → Outgoing → Bool
may_go panel outgoing =
    not outgoing.went.now
    && (is_measured panel
    && (cycle_lets panel.gap.0 outgoing.allowed.0 outgoing.went.last
    && (is_to_go outgoing.slot && is_writable outgoing.slot)))

-- a block is due, and none of this turn has been sent
abbrev pub is_first_due : Station → Bool
is_first_due station = (is_participating station.phase && due_in station.phase station) && eqb station.block 0

pub goes_by : (station : Station) (messages : Messages) → goes station messages ≡ (is_first_due station && may_go station.panel (outgoing_of messages))
goes_by station messages = simp and_assoc
