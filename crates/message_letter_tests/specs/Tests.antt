-- A message that was heard, by the core and what the list says of its source.
use Rattle.std.specs.Prelude.{◌&&◌, ◌||◌}
use Rattle.laws.specs.Usual.{Bool, cond, not, ℕ, eqb}
use Rattle.boundary_core.specs.declared.Core.{Core}
use Rattle.message.specs.Codes.{to_all}
use Rattle.message.specs.declared.Letter.{Letter}
use Rattle.message_frames.specs.Frames.{addressed, measured}
use Rattle.station.specs.Rules.State.{is_off, is_participating}
use Rattle.station.specs.declared.Heard.{Heard}
use Rattle.frame.specs.declared.Refusal.TheVariants as refusals
use Rattle.station.specs.declared.Heard.TheVariants as heard

-- 6
abbrev pub is_taken_by : Core → Letter → Bool
is_taken_by core letter = not (is_off core.phase) && eqb letter.source core.own.number

-- 6 before we participate, where 5 does not apply
abbrev pub turns_off_by : Core → Letter → Bool
turns_off_by core letter = addressed letter && (is_taken_by core letter && not (is_participating core.phase))

-- 9, by whether the source is listed
abbrev pub is_stranger_by : Core → Bool → Bool
is_stranger_by core known = is_participating core.phase && not known

abbrev pub is_for_us_by : Core → Letter → Bool
is_for_us_by core letter =
    is_participating core.phase
    && (eqb letter.message.destination core.own.number || to_all letter.message.destination)

-- no refusal met it and it is for us
abbrev pub is_received_by : Core → Bool → ℕ → Letter → Bool
is_received_by core known given letter =
    addressed letter
    && (not (is_taken_by core letter) && (measured given letter && (not (is_stranger_by core known) && is_for_us_by core letter)))

-- the answer to one that is not received
abbrev pub passed_by : Core → Bool → ℕ → Letter → Heard
passed_by core known given letter =
    cond (not (addressed letter)) (heard.Refused refusals.Address)
    (cond (is_taken_by core letter) (heard.Refused refusals.Taken)
    (cond (not (measured given letter)) (heard.Refused refusals.Block)
    (cond (is_stranger_by core known) (heard.Refused refusals.Stranger)
    (cond (is_off core.phase) heard.Off heard.Done))))
