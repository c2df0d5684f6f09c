-- What demand 3 leaves out of its lists, a third miss running, is said alike by the list that a station carries and by the history. Assumes
-- nothing.
use Rattle.laws.specs.Usual.{[], refl, sym, ap, subst, ◌∙◌, Bool, true, false, cond, false≢true, List, ℕ, suc, arith, eqb, leb}
use Rattle.std.specs.Prelude.{◌≡◌, ◌&&◌, ◌∷◌, ◌++◌, ◌≤◌, ◌↔◌}
use Rattle.std.proofs.Math.Dec.{eqb-suc-suc}
use Rattle.std.proofs.Common.{leb-true, leb-false, eq-eqb, ne_eqb}
use Rattle.laws.specs.Tests.{both}
use Rattle.members.specs.Members.{is_listed, strikes}
use Rattle.station.specs.Rules.Calls.{Call, tick, after}
use Rattle.station.specs.Panel.History.{history, state_after, participates}
use Rattle.station.specs.States.Reachable.{Typed, Reachable, unstarted, called}
use Rattle.station.specs.States.Reached.{AllTyped}
use Rattle.station.specs.Rules.State.{never}
use Rattle.station.specs.Rules.Ticking.{watch_ends}
use Rattle.station.specs.declared.Station.{Station}
use Rattle.misses.specs.MissHistory.{misses_said, ends, third_in_view, Brought, ThirdRunning}
use Rattle.misses.proofs.MissesTold.{carries}
use Rattle.misses.specs.CoverThird.{strikes_in_view}

-- one call more
state_more : (calls : List Call) (call : Call) (station : Station) → state_after station (calls ++ call ∷ []) ≡ after (state_after station calls) call
state_more [] call station = refl
state_more (first ∷ rest) call station = state_more rest call (after station first)

typed_more : (calls : List Call) (call : Call) → AllTyped calls → Typed call → AllTyped (calls ++ call ∷ [])
typed_more [] call typed t = (t, tt)
typed_more (first ∷ rest) call typed t = (typed.0, typed_more rest call typed.1 t)

pub brought_more : {station : Station} → Brought station → (call : Call) → Brought (after station call)
brought_more brought call = record {
  calls = brought.calls ++ call ∷ [];
  there = state_more brought.calls call never ∙ ap (λ (s : Station). after s call) brought.there;
}

-- a state that can be reached is left by a list of calls
pub calls_of : {station : Station} → Reachable station → (calls : List Call) × AllTyped calls × (state_after never calls ≡ station)
unfolding brought_more
calls_of unstarted = ([], tt, refl)
calls_of (called call reached typed) =
    let before = calls_of reached in
    let more = brought_more (record { calls = before.0; there = before.2 }) call in
    (more.calls, typed_more before.0 call before.1 typed, more.there)

pub reached_brought : {station : Station} → Reachable station → Brought station
reached_brought reached = let found = calls_of reached in record { calls = found.0; there = found.2 }

-- up to two, two or more is two
two_or_more : (n : ℕ) → n ≤ 2 → leb 2 n ≡ eqb n 2
two_or_more n few = by (leb 2 n) refl
  where
    by : (test : Bool) → leb 2 n ≡ test → test ≡ eqb n 2
    by true e = let two = leb-true 2 n e in sym (eq-eqb n 2 (omega arith))
    by false e = let fewer = leb-false 2 n e in sym (ne_eqb n 2 (λ two. omega arith))

-- The next miss of a listed station would strike it just where the history says that it has two.
pub strikes_told : (calls : List Call) (x : ℕ) → is_listed (state_after never calls).members x ≡ true
    → strikes (state_after never calls).members x ≡ eqb (misses_said x (history never calls)) 2
strikes_told calls x listed = let told = carries calls x listed in ap (leb 2) told.misses ∙ two_or_more (misses_said x (history never calls)) told.few

-- a test that is asked only where another holds
where_true : (a : Bool) {b c : Bool} → (a ≡ true → b ≡ c) → (a && b) ≡ (a && c)
where_true true same = same refl
where_true false same = refl

-- a test that does not hold
is_not : (a : Bool) → (a ≡ true → ⊥) → a ≡ false
is_not true none = absurd (none refl)
is_not false none = refl

-- an ending now is the third just after two
after_two : (now : Bool) (said : ℕ) → now ≡ true → eqb said 2 ≡ (now && eqb (cond now (suc said) said) 3)
after_two true said e = sym (eqb-suc-suc said 2)
after_two false said e = absurd (false≢true e)

-- So where a participant's watch ends, its list says that the station in view is struck just where the history says that this is its third miss
-- running.
module _ (calls : List Call) (inside : participates (state_after never calls) ≡ true) (ended : watch_ends (state_after never calls) ≡ true) where
  now : ends (state_after never calls).view (state_after never calls) tick ≡ true
  now = both inside (both ended (eq-eqb (state_after never calls).view (state_after never calls).view refl))

  pub view_told : strikes_in_view (state_after never calls) ≡ third_in_view (state_after never calls) (history never calls)
  view_told =
      where_true (is_listed (state_after never calls).members (state_after never calls).view)
      (λ listed. strikes_told calls (state_after never calls).view listed ∙ after_two _ (misses_said (state_after never calls).view (history never calls)) now)

-- A station that calls have brought there, and whose watch ends in the next tick: what demand 3 asks of its list is that this is no third miss
-- running.
module _ (station : Station) (brought : Brought station) (inside : participates station ≡ true) (ended : watch_ends station ≡ true) where
  said : (by_calls : Brought station) → strikes_in_view station ≡ third_in_view station (history never by_calls.calls)
  said by_calls =
      subst (λ (s : Station). strikes_in_view s ≡ third_in_view s (history never by_calls.calls)) by_calls.there
      (view_told by_calls.calls (ap participates by_calls.there ∙ inside) (ap watch_ends by_calls.there ∙ ended))

  pub cover_third : (strikes_in_view station ≡ false) ↔ ¬ (ThirdRunning station)
  cover_third = (
    λ e running. false≢true (sym e ∙ said running.brought ∙ running.third),
    λ none. is_not (strikes_in_view station) (λ e. none (record { brought = brought; third = sym (said brought) ∙ e })),
  )
