-- The states that calls can leave since off, message part included, and what holds of their ring parts: all that holds of a station of the base. Assumes
-- nothing.
use Rattle.std.specs.Prelude.{◌≡◌, ◌∷◌}
use Rattle.laws.specs.Usual.{[], refl, sym, ap, subst, ◌∙◌, Bool, true, false, cond, List}
use Rattle.message_rules.specs.Ring.OnRing.{own_number_heard, writes_letter, on_ring, all_on_ring}
use Rattle.message_rules.proofs.Ring.RingPart.{ring_part, ring_parts}
use Rattle.message_rules.specs.Rules.Calls.{Both, never_both, Call, start, stop, tick, post, hear, ask, after}
use Rattle.message_rules.specs.Rules.Hearing.{is_letter}
use Rattle.message_rules.specs.Rules.Posting.{mail_right}
use Rattle.settling.specs.Steps.{after_all}
use Rattle.station.specs.Panel.History.{state_after, figure_said}
use Rattle.station.proofs.Panel.PanelIsGap.{panel_is_gap}
use Rattle.station.specs.Rules.Showing.{figure_shown}
use Rattle.station.specs.Rules.State.{never}
use Rattle.station.proofs.States.Apart.{apart}
use Rattle.station.specs.States.Disjoint.{Apart}
use Rattle.station.specs.States.Reachable.{Sound}
use Rattle.station.proofs.States.Reached.{reached_by}
use Rattle.station.specs.States.Reached.{AllTyped}
use Rattle.station.proofs.States.Sound.{sound}
use Rattle.station.specs.declared.Station.{Station}
use Rattle.message_rules.specs.Ring.Reached.{Typed, Reachable, unstarted, called}
use Rattle.station.specs.Rules.Calls as base
use Rattle.station.specs.States.Reachable as states

-- the calls that a call is to the ring part have arguments in range too
typed_on : (both : Both) (call : Call) → Typed call → AllTyped (on_ring both call)
typed_on both (start settings allowance) typed = (typed.0, tt)
typed_on both stop typed = (tt, tt)
typed_on both tick typed = (tt, tt)
typed_on both (post message octets mail) typed = tt
typed_on both (hear octets memory assembly) typed = by (is_letter octets memory assembly) (own_number_heard both.ring octets)
  where
    by : (letter own : Bool) → AllTyped (cond letter (cond own (base.stop ∷ []) []) (base.hear octets memory assembly ∷ []))
    by true true = (tt, tt)
    by true false = tt
    by false own = (typed, tt)
typed_on both (ask memory turn output mail) typed = by (mail_right mail) (writes_letter both memory turn output)
  where
    by : (right letter : Bool) → AllTyped (cond right (cond letter [] (base.ask memory turn output ∷ [])) [])
    by true true = tt
    by true false = (tt, tt)
    by false letter = tt

-- Every state that calls can leave has a ring part that calls of the base can leave,
pub ring_reached : {both : Both} → Reachable both → states.Reachable both.ring
ring_reached unstarted = states.unstarted
ring_reached (called {both} call reached typed) =
    subst states.Reachable (sym (ring_part both call)) (reached_by (on_ring both call) (ring_reached reached) (typed_on both call typed))

-- so that what holds of the base's states holds of it: its list, its numbers, its areas,
pub ring_sound : {both : Both} → Reachable both → Sound both.ring
ring_sound reached = sound _ (ring_reached reached)

pub ring_apart : {both : Both} → Reachable both → Apart both.ring
ring_apart reached = apart _ (ring_reached reached)

-- and its panel, which shows what the history of the calls says.
after_all_lem : (calls : List base.Call) (station : Station) → after_all base.after station calls ≡ state_after station calls
after_all_lem [] station = refl
after_all_lem (call ∷ calls) station = after_all_lem calls (base.after station call)

pub ring_panel : (calls : List Call) → figure_shown (after_all after never_both calls).ring ≡ figure_said (all_on_ring never_both calls)
ring_panel calls =
    ap figure_shown (ring_parts calls never_both ∙ after_all_lem (all_on_ring never_both calls) never) ∙ panel_is_gap (all_on_ring never_both calls)
