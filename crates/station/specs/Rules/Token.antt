-- Paper 01, "The token view and the watch". "View", "taking" and "silence" are the paper's own terms: a participant's view is the number it
-- takes to be the holder.
use Rattle.std.specs.Prelude.{◌&&◌}
use Rattle.laws.specs.Usual.{Bool, cond, not, ℕ, min, eqb}
use Rattle.frame.specs.Codes.{is_token}
use Rattle.panel.specs.Panel.{after_taking}
use Rattle.station.specs.Rules.State.{moved}
use Rattle.station.specs.Types.{Fields, Members, Panel, Gathering, Station, Data, Token}
use Rattle.station.specs.declared.Token.TheVariants.{None, PassedOn, OursNow, RivalPassedOver, RivalWon}

-- "On a token frame: if the source is our view, the view becomes the destination. Otherwise the view becomes the smaller of view and
-- destination."
abbrev pub view_after : ℕ → ℕ → ℕ → ℕ
view_after view source destination = cond (eqb source view) destination (min view destination)

-- only a token frame moves the view
abbrev pub view_heard : ℕ → Fields → ℕ
view_heard view frame = cond (is_token frame.code) (view_after view frame.source frame.destination) view

-- "A taking is a step that makes our view our own number when it was another"
abbrev pub takes : ℕ → ℕ → ℕ → Bool
takes own before after = eqb after own && not (eqb before own)

-- a participant whose watch restarts, with another list, view and gathering: "If it loses the token between blocks, the rest isn't sent.", so a
-- station that stops holding forgets how far its turn had come
abbrev pub restarted : Station → Members → ℕ → Gathering → Panel → Station
restarted station members view gathering panel =
    moved station members view
    (cond (eqb view station.own.number) station.block 0)
    gathering
    (cond (takes station.own.number station.view view) (after_taking panel) panel)

-- "None: code 65001, or we don't participate. Ours now: our view became our number. Else passed on: the source was our view. Else rival won:
-- the view changed. Else rival passed over."
abbrev pub outcome_of : Station → Fields → Data → Token
outcome_of station frame outcome =
    cond (not (is_token frame.code)) (None outcome)
    (cond (takes station.own.number station.view (view_heard station.view frame)) (OursNow outcome)
    (cond (eqb frame.source station.view) (PassedOn outcome)
    (cond (not (eqb (view_heard station.view frame) station.view)) (RivalWon outcome)
    (RivalPassedOver outcome))))
