-- Whether a frame is due, told by the core alone, since no rule for it looks at the list, and why an asking is refused. Assumes nothing.
use Rattle.std.specs.Prelude.{◌≡◌, ◌&&◌}
use Rattle.laws.specs.Usual.{refl, sym, Bool, true, false, cond, false≢true, List, ℕ}
use Rattle.boundary_core.specs.Crossing.{station_of}
use Rattle.boundary_core.specs.declared.Core.{Core}
use Rattle.frame.specs.declared.Refusal.TheVariants.{NotDue, Buffer}
use Rattle.members.specs.Members.{no_members}
use Rattle.station.specs.Rules.Asking.{Asking, due_in, turn_after, lent_right, refused, written, ask_of}
use Rattle.station.specs.Types.{Refusal, Members}
use Rattle.station.specs.declared.Phase.{Phase}
use Rattle.station.specs.declared.Phase.TheVariants.{Off, Listening, Startup, Joining, Participating}

abbrev pub due_core : Core → Bool
due_core core = due_in core.phase (station_of core no_members)

-- why an asking is refused: 11 before 10
abbrev pub ask_refusal : Bool → Refusal
ask_refusal lent = cond lent NotDue Buffer

module _ (core : Core) (members : Members) where
  same_due : (phase : Phase) → due_in phase (station_of core members) ≡ due_in phase (station_of core no_members)
  same_due Off = refl
  same_due Listening = refl
  same_due Startup = refl
  same_due Joining = refl
  same_due Participating = refl

  -- an asking of a core with wrong buffers, or with no frame due, is refused
  pub refused_asked : (memory turn output : List ℕ) → (lent_right memory turn output && due_core core) ≡ false
      → ask_of (station_of core members) memory turn output ≡ refused (station_of core members) turn output (ask_refusal (lent_right memory turn output))
  refused_asked memory turn output e = by (lent_right memory turn output) (due_in core.phase (station_of core members)) (rw (same_due core.phase) e)
    where
      result : Bool → Bool → Asking
      result lent due =
          cond lent
          (cond due
          (written (station_of core members) (turn_after core.phase (station_of core members) memory turn) output)
          (refused (station_of core members) turn output NotDue))
          (refused (station_of core members) turn output Buffer)

      by : (lent due : Bool) → (lent && due) ≡ false → result lent due ≡ refused (station_of core members) turn output (ask_refusal lent)
      by true true f = absurd (false≢true (sym f))
      by true false f = refl
      by false due f = refl
