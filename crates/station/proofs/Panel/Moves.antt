-- What a call does to the panel: a participant's tick counts, and then a taking ends the gap. Assumes nothing.
use Rattle.std.specs.Prelude.{◌≡◌, ◌&&◌, ◌||◌, ◌<◌}
use Rattle.laws.specs.Usual.{refl, sym, ◌∙◌, Bool, true, false, cond, not, false≢true, ℕ, arith, eqb}
use Rattle.block.specs.Blocks.{blocks_of}
use Rattle.panel.specs.Panel.{blank, ticked, after_taking}
use Rattle.station.specs.Panel.History.{participates}
use Rattle.station.specs.Rules.State.{holds, begun, counted}
use Rattle.station.specs.Rules.Token.{restarted, takes}
use Rattle.station.specs.Types.{Ticks, Members, Panel, Settings, Gathering, Station}
use Rattle.station.specs.Panel.Moves.{Room, Moved, Moves}

-- a step that leaves us inside, or outside
pub enter : {before left : Station} {ticks passed : Bool} → participates left ≡ true →
    ((participates before ≡ true → Room before) → Moved before ticks passed left) → Moves before ticks passed left
enter into moved = record { inside = λ room e. moved room; outside = λ clear e. absurd (false≢true (sym e ∙ into)) }

pub leave : {before left : Station} {ticks passed : Bool} → participates left ≡ false →
    ((participates before ≡ false → before.panel ≡ blank) → left.panel ≡ blank) → Moves before ticks passed left
leave out clears = record { inside = λ room e. absurd (false≢true (sym out ∙ e)); outside = λ clear e. clears clear }

-- a step that changes nothing
pub stays : (station : Station) → Moves station false false station
stays station = record {
  inside = λ room e. record { panel = by (participates station) (holds station) station.panel e; room = room e };
  outside = λ clear e. clear e;
}
  where
    by : (p h : Bool) (panel : Panel) → p ≡ true → panel ≡
        cond ((((p && p) && (h && not h)) || false) || ((not p && p) && h)) (after_taking (cond p panel blank)) (cond p panel blank)
    by true true panel e = refl
    by true false panel e = refl
    by false h panel e = absurd (false≢true e)

-- we begin to participate
pub begin : (before : Station) (ticks : Bool) (own : Settings) (members : Members) (view : ℕ) →
    participates before ≡ false → Moves before ticks false (begun own members view)
begin before ticks own members view out =
    enter refl (λ room. record { panel = by (participates before) out (eqb view own.number); room = omega arith })
  where
    by : (p : Bool) → p ≡ false → (h : Bool) → cond h (after_taking blank) blank ≡
        cond ((((p && true) && (h && not (holds before))) || false) || ((not p && true) && h))
        (after_taking (cond p (cond ticks (ticked before.panel) before.panel) blank))
        (cond p (cond ticks (ticked before.panel) before.panel) blank)
    by true e h = absurd (false≢true (sym e))
    by false e true = refl
    by false e false = refl

module _ (station : Station) (inside : participates station ≡ true) where
  -- a participant's view changes, or not, and its watch restarts
  pub restarts : (members : Members) (view : ℕ) (gathering : Gathering) (ticks : Bool) →
      Moves station ticks false (restarted station members view gathering (cond ticks (ticked station.panel) station.panel))
  restarts members view gathering ticks = enter refl (λ room. record {
    panel = rw inside (came (takes station.own.number station.view view) (cond ticks (ticked station.panel) station.panel));
    room = kept (eqb view station.own.number) (room inside);
  })
    where
      came : (test : Bool) (panel : Panel) → cond test (after_taking panel) panel ≡ cond ((test || false) || false) (after_taking panel) panel
      came true panel = refl
      came false panel = refl

      kept : (test : Bool) → Room station → cond test station.block 0 < blocks_of station.own.areas
      kept true room = room
      kept false room = omega arith

  -- a participant's tick
  pub only_counts : (elapsed : Ticks) → Moves station true false (counted station station.own elapsed station.waited (ticked station.panel))
  only_counts elapsed = enter inside (λ room. record { panel = rw inside (by (holds station) (ticked station.panel)); room = room inside })
    where
      by : (h : Bool) (panel : Panel) → panel ≡ cond (((h && not h) || false) || false) (after_taking panel) panel
      by true panel = refl
      by false panel = refl
