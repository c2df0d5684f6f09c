-- A run before the first agreement, and a run after it: each goes on as one of its kind after its first event.
use Rattle.laws.specs.Usual.{[], refl, ap, List, ℕ, arith}
use Rattle.std.specs.Prelude.{◌≡◌, ◌∷◌, ◌<◌, ◌⊎◌}
use Rattle.std.proofs.Common.{inl, inr}
use Rattle.std.proofs.Math.Decide.{dec_lt}
use Rattle.settling.specs.Ring.{next, Views, Within, Agreed, Event, pass, silence, view_after_pass, move, Run, views_after}
use Rattle.settling.specs.Next.{NextLaws}
use Rattle.settling.proofs.Moves.{within_stays, top_agrees, bottom_agrees}
use Rattle.settling.specs.Runs.{Differing, Unsettled, Settled}

-- once the views are equal, a run up to the first agreement has ended
pub ended : {ns : List ℕ} {views : Views} (events : List Event) → Differing ns views events → Agreed ns views → events ≡ []
ended [] d a = refl
ended (event ∷ events) d a = absurd (d.0 a)

-- equal views stay equal
pub agreed_stays : {ns : List ℕ} {views : Views} (event : Event) → Agreed ns views → Agreed ns (move ns views event)
agreed_stays {ns} (pass x) a = λ y z m k. ap (view_after_pass ns x) (a y z m k)
agreed_stays {ns} silence a = λ y z m k. ap (next ns) (a y z m k)

pub agreed_after : {ns : List ℕ} {views : Views} (events : List Event) → Agreed ns views → Agreed ns (views_after ns views events)
agreed_after [] a = a
agreed_after {ns = ns} {views = views} (event ∷ events) a = agreed_after {views = move ns views event} events (agreed_stays event a)

module _ {ns : List ℕ} {smallest largest : ℕ} (laws : NextLaws ns (next ns) smallest largest) where
  pub within_after : {views : Views} (events : List Event) → Within ns views → Run ns views events → Within ns (views_after ns views events)
  within_after [] w r = w
  within_after {views} (event ∷ events) w r = within_after {views = move ns views event} events (within_stays laws views event w r.0) r.1

  pub onward : {views : Views} {event : Event} {events : List Event} → Unsettled ns views (event ∷ events)
      → Unsettled ns (move ns views event) events
  onward {views} {event} u = record {
    within = within_stays laws views event u.within u.run.0;
    run = u.run.1;
    differing = u.differing.1;
  }

  -- a pass before the first agreement is the last event, or its sender is neither the smallest nor the largest
  pub last_or_inner : {views : Views} {x : ℕ} {events : List Event} → Unsettled ns views (pass x ∷ events)
      → (events ≡ []) ⊎ ((smallest < x) × (x < largest))
  last_or_inner {views} {x} {events} u = go (dec_lt x largest) (dec_lt smallest x)
    where
      go : Dec (x < largest) → Dec (smallest < x) → (events ≡ []) ⊎ ((smallest < x) × (x < largest))
      go (no h) l = inl (ended events u.differing.1 (top_agrees laws views x u.within u.run.0.0 h))
      go (yes h) (no l) = inl (ended events u.differing.1 (bottom_agrees laws views x u.within (omega arith) h))
      go (yes h) (yes l) = inr (l, h)

  pub settled_onward : {views : Views} {event : Event} {events : List Event} → Settled ns views (event ∷ events)
      → Settled ns (move ns views event) events
  settled_onward {views} {event} u = record {
    within = within_stays laws views event u.within u.run.0;
    run = u.run.1;
    agreed = agreed_stays event u.agreed;
  }
