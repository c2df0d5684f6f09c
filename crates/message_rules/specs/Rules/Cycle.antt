-- E2 of paper 02: when a message goes. "The cycle" is what the panel shows: the ticks from one taking of ours to the next.
use Rattle.std.specs.Prelude.{◌&&◌, ◌||◌, ◌*◌}
use Rattle.laws.specs.Usual.{Bool, not, ℕ, eqb, leb, ltb}
use Rattle.message.specs.Codes.{is_message}
use Rattle.message_frames.specs.Frames.{data_most}
use Rattle.panel.specs.declared.Panel.{Panel}
use Rattle.station.specs.Rules.Asking.{due_in}
use Rattle.station.specs.Rules.State.{is_participating}
use Rattle.station.specs.declared.Station.{Station}
use Rattle.message_rules.specs.Rules.Again.{is_to_go}
use Rattle.message.specs.declared.Slot.{Slot}
use Rattle.message_rules.specs.Rules.State.{Messages}

-- "No message goes before a cycle is measured": the panel has had two takings since we began to participate
abbrev pub is_measured : Panel → Bool
is_measured panel = leb 2 panel.takings

-- "With the cycle .. at most nine tenths of the allowed one .., a message goes. Above that and below the allowed one, it goes only if none went last
-- turn. At or above the allowed one, none goes, also where both are 0." A cycle of more than 65,535 ticks counts as 65,536.
abbrev pub cycle_lets : ℕ → ℕ → Bool → Bool
cycle_lets cycle allowed went_last = ltb cycle allowed && (leb (10 * cycle) (9 * allowed) || not went_last)

-- "at most one message before the cyclic blocks of a turn": a block is due, none of this turn has been sent, and no message went
abbrev pub is_before_blocks : Station → Messages → Bool
is_before_blocks station messages =
    (is_participating station.phase && due_in station.phase station)
    && (eqb station.block 0 && not messages.went_now)

-- its data fit a frame and its code is a message's, which always holds where calls alone made the state (`always_writable`): what could not be sent
-- does not go
abbrev pub is_writable : Slot → Bool
is_writable slot = leb slot.octets data_most && is_message slot.message.code

-- an asking writes a message in the place of the block that is due
abbrev pub goes : Station → Messages → Bool
goes station messages =
    is_before_blocks station messages
    && (is_measured station.panel
    && (cycle_lets station.panel.gap.0 messages.allowed.0 messages.went_last
    && (is_to_go messages.slot && is_writable messages.slot)))
