-- Settling carried over to any machine with stations inside: if each input moves the views by one pass, by one silence or not at all,
-- then all that is proved of the ring of views holds of the machine.
use Rattle.laws.specs.Usual.{[], refl, sym, ap, subst, ◌∙◌, List, ℕ, length}
use Rattle.std.specs.Prelude.{◌≡◌, ◌∷◌, ◌++◌, ◌+◌, ◌-◌, ◌*◌, ◌≤◌, ◌⊎◌}
use Rattle.std.proofs.Common.{inl, inr, append_assoc}
use Rattle.settling.specs.Steps.{after_all, EachFinds}
use Rattle.settling.specs.Ring.{◌∈◌, Stations, Views, Within, Agreed, Event, move, Legal, Run, views_after, passes, silences, given}
use Rattle.settling.specs.First.{FirstAgreement}
use Rattle.settling.proofs.Append.{after_append, finds_front}
use Rattle.settling.specs.Runs.{Differing}
use Rattle.settling.specs.Same.{Same}
use Rattle.settling.proofs.Same.{same_sym, same_agreed, same_run, same_differing, same_after}
use Rattle.settling.specs.Settling.{Settles}
use Rattle.settling.proofs.Settling.{settles}

-- what an input is to the views: one pass or one silence, or nothing
pub data Effect : Type 0 where
  makes : Event → Effect
  nothing : Effect

-- A machine: its states, its inputs, the state after an input, the views that a state shows, and what an input is to the views in the
-- state that it finds.
pub record Machine : Type 1 where
  pub State : Type 0
  pub Input : Type 0
  pub after : State → Input → State
  pub views_of : State → Views
  pub effect : State → Input → Effect

-- the state after a list of inputs
abbrev pub state_after : (machine : Machine) → machine.State → List machine.Input → machine.State
state_after machine = after_all machine.after

-- an effect in front of a list of events
abbrev pub add : Effect → List Event → List Event
add (makes event) events = event ∷ events
add nothing events = events

-- the passes and silences that a list of inputs makes
abbrev pub made : (machine : Machine) → machine.State → List machine.Input → List Event
made machine s [] = []
made machine s (input ∷ inputs) = add (machine.effect s input) (made machine (machine.after s input) inputs)

-- all views that the state shows are equal
abbrev pub AllAgreed : (machine : Machine) → List ℕ → machine.State → Type 0
AllAgreed machine ns s = Agreed ns (machine.views_of s)

-- The views went from `old` to `new` by that effect. They are compared at the numbers of the ring only.
abbrev pub Moved : List ℕ → Views → Effect → Views → Type 0
Moved ns old (makes event) new = Legal ns old event × ((x : ℕ) → x ∈ ns → new x ≡ move ns old event x)
Moved ns old nothing new = (x : ℕ) → x ∈ ns → new x ≡ old x

-- What must be shown of a machine: an invariant Ok, kept by every input that fits the state that it finds, under which every view is
-- among the numbers of the ring, and the views move by the effect of the input.
pub record Simulates (machine : Machine) (ns : List ℕ) (Ok : machine.State → Type 0) (Fits : machine.State → machine.Input → Type 0)
    : Type 0 where
  pub within : (s : machine.State) → Ok s → Within ns (machine.views_of s)
  pub keeps : (s : machine.State) (input : machine.Input) → Ok s → Fits s input → Ok (machine.after s input)
  pub moved : (s : machine.State) (input : machine.Input) → Ok s → Fits s input
      → Moved ns (machine.views_of s) (machine.effect s input) (machine.views_of (machine.after s input))

-- What holds of a list of inputs whose first part, up to the first time that all views are equal, is `before`, and whose rest is
-- `later`: the statements of `Settles`, for the machine. n is the number of stations.
pub record MachineSettles (machine : Machine) (ns : List ℕ) (s : machine.State) (before later : List machine.Input) : Type 0 where
  -- "the list has at most n×n×n passes and (n-1)×(n-1) silences up to the first time that they all name one holder, or to its end
  -- if they never do"
  pub passes_loose : passes (made machine s before) ≤ length ns * length ns * length ns
  pub silences_loose : silences (made machine s before) ≤ (length ns - 1) * (length ns - 1)
  -- sharper: at most n(n-1)/2 passes, at most 2n-3 silences, and none for one station
  pub passes_sharp : 2 * passes (made machine s before) ≤ length ns * (length ns - 1)
  pub silences_sharp : 2 ≤ length ns → silences (made machine s before) + 3 ≤ 2 * length ns
  pub silences_alone : length ns ≡ 1 → silences (made machine s before) ≡ 0
  -- Where the list goes on after `before`, they all name one holder then.
  pub agreed : ¬ (later ≡ []) → AllAgreed machine ns (state_after machine s before)
  -- "from that first time on they all name one holder after every event": after every part of `later` from its start
  pub stays : AllAgreed machine ns (state_after machine s before) → (start rest : List machine.Input) → later ≡ start ++ rest
      → AllAgreed machine ns (state_after machine s (before ++ start))
  -- and no silence comes
  pub no_silence : silences (made machine (state_after machine s before) later) ≡ 0
  -- "any n passes in a row give each station the token exactly once": in every stretch of `later` with n passes, whatever inputs
  -- that pass nothing are between them
  pub turns : (start window rest : List machine.Input) → later ≡ start ++ (window ++ rest)
      → passes (made machine (state_after machine s (before ++ start)) window) ≡ length ns
      → (x : ℕ) → x ∈ ns → given ns x (made machine (state_after machine s (before ++ start)) window) ≡ 1

-- one effect in front of a run, of a list that finds differing views, of a list of which the last views are asked, and of two lists
add_run : (ns : List ℕ) (v w : Views) (effect : Effect) (events : List Event) → Moved ns v effect w → Run ns w events
    → Run ns v (add effect events)
add_run ns v w (makes event) events m r = (m.0, same_run events m.1 r)
add_run ns v w nothing events m r = same_run events m r

add_differing : (ns : List ℕ) (v w : Views) (effect : Effect) (events : List Event) → Moved ns v effect w → ¬ Agreed ns v
    → Differing ns w events → Differing ns v (add effect events)
add_differing ns v w (makes event) events m n d = (n, same_differing events m.1 d)
add_differing ns v w nothing events m n d = same_differing events m d

add_after : (ns : List ℕ) (v w : Views) (effect : Effect) (events : List Event) → Moved ns v effect w
    → Same ns (views_after ns v (add effect events)) (views_after ns w events)
add_after ns v w (makes event) events m = same_after events (same_sym m.1)
add_after ns v w nothing events m = same_after events (same_sym m)

add_append : (effect : Effect) (a b : List Event) → add effect (a ++ b) ≡ add effect a ++ b
add_append (makes event) a b = refl
add_append nothing a b = refl

-- the events of two lists of inputs
made_append : (machine : Machine) (s : machine.State) (a b : List machine.Input)
    → made machine s (a ++ b) ≡ made machine s a ++ made machine (state_after machine s a) b
made_append machine s [] b = refl
made_append machine s (i ∷ a) b =
    let next : machine.State = machine.after s i in
    ap (add (machine.effect s i)) (made_append machine next a b)
    ∙ add_append (machine.effect s i) (made machine next a) (made machine (state_after machine next a) b)

module _ {machine : Machine} {ns : List ℕ} {Ok : machine.State → Type 0} {Fits : machine.State → machine.Input → Type 0}
    (simulates : Simulates machine ns Ok Fits) where
  open machine use {State, Input, after, views_of, effect}

  -- each input of the list fits the state that it finds
  abbrev Fit : State → List Input → Type 0
  Fit = EachFinds after Fits

  -- the invariant holds after every list of inputs that fit
  pub ok_after : (s : State) (inputs : List Input) → Ok s → Fit s inputs → Ok (state_after machine s inputs)
  ok_after s [] ok f = ok
  ok_after s (i ∷ inputs) ok f = ok_after (after s i) inputs (simulates.keeps s i ok f.0) f.1

  -- the events that are made are a run, lead to the views that the machine shows, and find differing views where the inputs do
  run_made : (s : State) (inputs : List Input) → Ok s → Fit s inputs → Run ns (views_of s) (made machine s inputs)
  run_made s [] ok f = tt
  run_made s (i ∷ inputs) ok f =
      add_run ns (views_of s) (views_of (after s i)) (effect s i) (made machine (after s i) inputs) (simulates.moved s i ok f.0)
      (run_made (after s i) inputs (simulates.keeps s i ok f.0) f.1)

  after_made : (s : State) (inputs : List Input) → Ok s → Fit s inputs
      → Same ns (views_after ns (views_of s) (made machine s inputs)) (views_of (state_after machine s inputs))
  after_made s [] ok f x m = refl
  after_made s (i ∷ inputs) ok f x m =
      add_after ns (views_of s) (views_of (after s i)) (effect s i) (made machine (after s i) inputs) (simulates.moved s i ok f.0) x m
      ∙ after_made (after s i) inputs (simulates.keeps s i ok f.0) f.1 x m

  differing_made : (s : State) (inputs : List Input) → Ok s → Fit s inputs
      → EachFinds after (λ state input. ¬ AllAgreed machine ns state) s inputs → Differing ns (views_of s) (made machine s inputs)
  differing_made s [] ok f d = tt
  differing_made s (i ∷ inputs) ok f d =
      add_differing ns (views_of s) (views_of (after s i)) (effect s i) (made machine (after s i) inputs) (simulates.moved s i ok f.0) d.0
      (differing_made (after s i) inputs (simulates.keeps s i ok f.0) f.1 d.1)

  -- Every list of inputs that fit settles, from every state in which the invariant holds.
  pub machine_settles : {s : machine.State} {inputs before later : List machine.Input} → Stations ns → Ok s
      → EachFinds machine.after Fits s inputs → FirstAgreement machine.after (AllAgreed machine ns) s inputs before later
      → MachineSettles machine ns s before later
  machine_settles {s} {inputs} {before} {later} stations ok fits f = record {
    passes_loose = all.passes_loose;
    silences_loose = all.silences_loose;
    passes_sharp = all.passes_sharp;
    silences_sharp = all.silences_sharp;
    silences_alone = all.silences_alone;
    agreed = λ h. when_on h f.reached;
    stays = λ a start rest e. on a start rest e;
    no_silence = all.no_silence;
    turns = λ start window rest e full x m. turn start window rest e full x m;
  }
    where
      there : State
      there = state_after machine s before

      whole : Fit s (before ++ later)
      whole = subst (Fit s) f.split fits

      fit_before : Fit s before
      fit_before = finds_front after Fits s before later whole

      arrived : Same ns (views_after ns (views_of s) (made machine s before)) (views_of there)
      arrived = after_made s before ok fit_before

      reaches : (later ≡ []) ⊎ AllAgreed machine ns there
          → (made machine there later ≡ []) ⊎ Agreed ns (views_after ns (views_of s) (made machine s before))
      reaches (inl e) = inl (ap (made machine there) e)
      reaches (inr a) = inr (same_agreed (same_sym arrived) a)

      all : Settles ns (views_of s) (made machine s before) (made machine there later)
      all =
          settles {events = made machine s before ++ made machine there later} stations (simulates.within s ok)
          (subst (Run ns (views_of s)) (made_append machine s before later) (run_made s (before ++ later) ok whole))
          (record { split = refl; differing = differing_made s before ok fit_before f.differing; reached = reaches f.reached })

      when_on : ¬ (later ≡ []) → (later ≡ []) ⊎ AllAgreed machine ns there → AllAgreed machine ns there
      when_on h (inl e) = absurd (h e)
      when_on h (inr a) = a

      -- the events of a part of `later` from its start, and of what follows it
      cut : (start rest : List Input) → later ≡ start ++ rest
          → made machine there later ≡ made machine there start ++ made machine (state_after machine there start) rest
      cut start rest e = ap (made machine there) e ∙ made_append machine there start rest

      on : AllAgreed machine ns there → (start rest : List Input) → later ≡ start ++ rest
          → AllAgreed machine ns (state_after machine s (before ++ start))
      on a start rest e =
          let longer : before ++ later ≡ (before ++ start) ++ rest = ap (λ l. before ++ l) e ∙ sym (append_assoc before start rest) in
          let fit : Fit s (before ++ start) = finds_front after Fits s (before ++ start) rest (subst (Fit s) longer whole) in
          let stay : Agreed ns (views_after ns (views_of s) (made machine s before ++ made machine there start)) =
          all.stays (same_agreed (same_sym arrived) a) (made machine there start)
          (made machine (state_after machine there start) rest) (cut start rest e) in
          same_agreed (after_made s (before ++ start) ok fit)
          (subst (λ l. Agreed ns (views_after ns (views_of s) l)) (sym (made_append machine s before start)) stay)

      turn : (start window rest : List Input) → later ≡ start ++ (window ++ rest)
          → passes (made machine (state_after machine s (before ++ start)) window) ≡ length ns
          → (x : ℕ) → x ∈ ns → given ns x (made machine (state_after machine s (before ++ start)) window) ≡ 1
      turn start window rest e =
          let from : State = state_after machine there start in
          subst (λ t. passes (made machine t window) ≡ length ns → (x : ℕ) → x ∈ ns → given ns x (made machine t window) ≡ 1)
          (sym (after_append after s before start)) (λ full x m.
          all.turns (made machine there start) (made machine from window) (made machine (state_after machine from window) rest)
          (cut start (window ++ rest) e ∙ ap (λ l. made machine there start ++ l) (made_append machine from window rest)) full x m)
