-- A ring whose passes and silences are counted as a machine of the theory of views: each event makes the pass or the silence that it counts
-- as. So every list of events that can come to it settles. Assumes nothing.
use Rattle.std.specs.Prelude.{◌≡◌, ◌||◌, ◌∷◌, ◌++◌, ◌+◌, ◌<◌}
use Rattle.laws.specs.Usual.{[], refl, sym, ap, ap₂, subst, ◌∙◌, Bool, true, false, cond, List, ℕ, suc, arith, length, eqb}
use mathlib.Core.List.Memᴰ
use Rattle.std.proofs.Common.{append_assoc, add-zero, zero-add}
use Rattle.settling.proofs.Append.{finds_front, finds_back}
use Rattle.settling.specs.Counting.{Counting, some_of, times_in, Does, passed, silent, nothing, Orderly, CountingSettles}
use Rattle.settling.specs.First.{FirstAgreement}
use Rattle.settling.specs.Ring.{◌∈◌, next, pass, silence, Stations}
use Rattle.settling.proofs.Simulation.{Effect, makes, add, made, Machine, Moved, Simulates, MachineSettles, machine_settles}
use Rattle.settling.specs.Steps.{after_all, EachFinds}
use Rattle.settling.specs.Counting as counts
use Rattle.settling.specs.Ring as theory
use Rattle.settling.proofs.Simulation as simulation

-- a pass by this station, where somebody is given the token; else a silence, where it is one
abbrev effect_by : ℕ → List ℕ → Bool → Effect
effect_by who [] silenced = cond silenced (makes silence) simulation.nothing
effect_by who (destination ∷ rest) silenced = makes (pass who)

-- a test that fails at each, and one that holds at each of one or more
none_of : (test : ℕ → Bool) (numbers : List ℕ) → ((x : ℕ) → x ∈ numbers → test x ≡ false) → some_of test numbers ≡ false
none_of test [] e = refl
none_of test (number ∷ rest) e =
    ap (λ (t : Bool). t || some_of test rest) (e number (Memᴰ.head refl)) ∙ none_of test rest (λ x m. e x (Memᴰ.tail m))

all_of : (test : ℕ → Bool) (numbers : List ℕ) → 0 < length numbers → ((x : ℕ) → x ∈ numbers → test x ≡ true) → some_of test numbers ≡ true
all_of test [] some e = absurd (omega arith)
all_of test (number ∷ rest) some e = ap (λ (t : Bool). t || some_of test rest) (e number (Memᴰ.head refl))

module _ (counting : Counting) (numbers : List ℕ) where
  open counting use {State, Input, after, views_of, asks, gives, ends}

  abbrev is_silence : State → Input → Bool
  is_silence = counts.is_silence counting numbers

  abbrev effect_of : State → Input → Effect
  effect_of stations event = effect_by (asks event) (gives stations event) (is_silence stations event)

  abbrev machine : Machine
  machine = record { State = State; Input = Input; after = after; views_of = views_of; effect = effect_of }

  -- what an event counts as, and what it makes
  record Counted (stations : State) (event : Input) : Type 0 where
    passes : (events : List theory.Event) → theory.passes (add (effect_of stations event) events) ≡ length (gives stations event) + theory.passes events
    silences : (events : List theory.Event) →
        theory.silences (add (effect_of stations event) events) ≡ cond (is_silence stations event) 1 0 + theory.silences events
    given : (x : ℕ) (events : List theory.Event) →
        theory.given numbers x (add (effect_of stations event) events) ≡ times_in x (gives stations event) + theory.given numbers x events
    moved : Moved numbers (views_of stations) (effect_of stations event) (views_of (after stations event))

  module _ (some : 0 < length numbers) where
    does_counted : {stations : State} {event : Input} → Does counting numbers stations event → Counted stations event
    does_counted {stations} {event} (passed member holds to none moves) =
        let quiet : is_silence stations event ≡ false = none_of (ends stations event) numbers none in
        let made_is : effect_of stations event ≡ makes (pass (asks event)) = ap (λ l. effect_by (asks event) l (is_silence stations event)) to in
        record {
          passes = λ events.
              let one : suc (theory.passes events) ≡ 1 + theory.passes events = omega arith in
              ap (λ e. theory.passes (add e events)) made_is ∙ one ∙ sym (ap (λ l. length l + theory.passes events) to);
          silences = λ events.
              ap (λ e. theory.silences (add e events)) made_is
              ∙ sym (ap (λ (t : Bool). cond t 1 0 + theory.silences events) quiet ∙ zero-add (theory.silences events));
          given = λ x events.
              ap (λ e. theory.given numbers x (add e events)) made_is
              ∙ ap (λ (n : ℕ). n + theory.given numbers x events) (sym (add-zero (cond (eqb (next numbers (asks event)) x) 1 0)))
              ∙ sym (ap (λ l. times_in x l + theory.given numbers x events) to);
          moved = subst (λ e. Moved numbers (views_of stations) e (views_of (after stations event))) (sym made_is) ((member, holds), moves);
        }
    does_counted {stations} {event} (silent nobody all none_holds moves) =
        let ended : is_silence stations event ≡ true = all_of (ends stations event) numbers some all in
        let made_is : effect_of stations event ≡ makes silence = ap₂ (effect_by (asks event)) nobody ended in
        record {
          passes = λ events.
              ap (λ e. theory.passes (add e events)) made_is
              ∙ sym (ap (λ l. length l + theory.passes events) nobody ∙ zero-add (theory.passes events));
          silences = λ events.
              let one : suc (theory.silences events) ≡ 1 + theory.silences events = omega arith in
              ap (λ e. theory.silences (add e events)) made_is ∙ one ∙ sym (ap (λ (t : Bool). cond t 1 0 + theory.silences events) ended);
          given = λ x events.
              ap (λ e. theory.given numbers x (add e events)) made_is
              ∙ sym (ap (λ l. times_in x l + theory.given numbers x events) nobody ∙ zero-add (theory.given numbers x events));
          moved = subst (λ e. Moved numbers (views_of stations) e (views_of (after stations event))) (sym made_is) (none_holds, moves);
        }
    does_counted {stations} {event} (nothing nobody none same) =
        let quiet : is_silence stations event ≡ false = none_of (ends stations event) numbers none in
        let made_is : effect_of stations event ≡ simulation.nothing = ap₂ (effect_by (asks event)) nobody quiet in
        record {
          passes = λ events.
              ap (λ e. theory.passes (add e events)) made_is
              ∙ sym (ap (λ l. length l + theory.passes events) nobody ∙ zero-add (theory.passes events));
          silences = λ events.
              ap (λ e. theory.silences (add e events)) made_is
              ∙ sym (ap (λ (t : Bool). cond t 1 0 + theory.silences events) quiet ∙ zero-add (theory.silences events));
          given = λ x events.
              ap (λ e. theory.given numbers x (add e events)) made_is
              ∙ sym (ap (λ l. times_in x l + theory.given numbers x events) nobody ∙ zero-add (theory.given numbers x events));
          moved = subst (λ e. Moved numbers (views_of stations) e (views_of (after stations event))) (sym made_is) same;
        }

    -- the counts of a list of events are those of the passes and silences that it makes
    passes_made : (stations : State) (events : List Input) → EachFinds after (Does counting numbers) stations events
        → theory.passes (made machine stations events) ≡ counts.passes counting stations events
    passes_made stations [] does = refl
    passes_made stations (event ∷ events) does =
        (does_counted does.0).passes (made machine (after stations event) events)
        ∙ ap (λ (n : ℕ). length (gives stations event) + n) (passes_made (after stations event) events does.1)

    silences_made : (stations : State) (events : List Input) → EachFinds after (Does counting numbers) stations events
        → theory.silences (made machine stations events) ≡ counts.silences counting numbers stations events
    silences_made stations [] does = refl
    silences_made stations (event ∷ events) does =
        (does_counted does.0).silences (made machine (after stations event) events)
        ∙ ap (λ (n : ℕ). cond (is_silence stations event) 1 0 + n) (silences_made (after stations event) events does.1)

    given_made : (x : ℕ) (stations : State) (events : List Input) → EachFinds after (Does counting numbers) stations events
        → theory.given numbers x (made machine stations events) ≡ counts.given counting x stations events
    given_made x stations [] does = refl
    given_made x stations (event ∷ events) does =
        (does_counted does.0).given x (made machine (after stations event) events)
        ∙ ap (λ (n : ℕ). times_in x (gives stations event) + n) (given_made x (after stations event) events does.1)

module _ {counting : Counting} {numbers : List ℕ} {Ok : counting.State → Type 0} {CanCome : counting.State → counting.Input → Type 0}
    (orderly : Orderly counting numbers Ok CanCome) where
  open counting use {State, Input, after}

  abbrev EachDoes : State → List Input → Type 0
  EachDoes = EachFinds after (Does counting numbers)

  each_does : (now : State) (events : List Input) → Ok now → EachFinds after CanCome now events → EachDoes now events
  each_does now [] ok come = tt
  each_does now (event ∷ events) ok come =
      (orderly.does now event ok come.0, each_does (after now event) events (orderly.keeps now event ok come.0) come.1)

  simulates : 0 < length numbers → Simulates (machine counting numbers) numbers Ok CanCome
  simulates some = record {
    within = orderly.within;
    keeps = orderly.keeps;
    moved = λ now event ok can. (does_counted counting numbers some (orderly.does now event ok can)).moved;
  }

  -- Every list of events that can come settles, from every state in which the invariant holds. `before` is the part "up to the first time
  -- that they all name one holder, or to its end if they never do", and `later` the rest.
  pub counting_settles : {stations : counting.State} {events before later : List counting.Input} → Stations numbers → Ok stations
      → EachFinds counting.after CanCome stations events
      → FirstAgreement counting.after (counts.AllName counting numbers) stations events before later
      → CountingSettles counting numbers stations before later
  counting_settles {stations} {events} {before} {later} ring begins come first = record {
    passes_loose = rw (← count before front) all.passes_loose;
    silences_loose = rw (← quiet before front) all.silences_loose;
    passes_sharp = rw (← count before front) all.passes_sharp;
    silences_sharp = rw (← quiet before front) all.silences_sharp;
    silences_alone = rw (← quiet before front) all.silences_alone;
    agreed = all.agreed;
    stays = all.stays;
    no_silence = sym (silences_made counting numbers some there later back) ∙ all.no_silence;
    turns = turn;
    each = each;
  }
    where
      some : 0 < length numbers
      some = ring.some

      all : MachineSettles (machine counting numbers) numbers stations before later
      all = machine_settles (simulates some) ring begins come first

      each : EachDoes stations (before ++ later)
      each = subst (EachDoes stations) first.split (each_does stations events begins come)

      front : EachDoes stations before
      front = finds_front after (Does counting numbers) stations before later each

      there : State
      there = after_all after stations before

      back : EachDoes there later
      back = finds_back after (Does counting numbers) stations before later each

      count : (part : List Input) → EachDoes stations part
          → theory.passes (made (machine counting numbers) stations part) ≡ counts.passes counting stations part
      count = passes_made counting numbers some stations

      quiet : (part : List Input) → EachDoes stations part
          → theory.silences (made (machine counting numbers) stations part) ≡ counts.silences counting numbers stations part
      quiet = silences_made counting numbers some stations

      turn : (start window rest : List Input) → later ≡ start ++ (window ++ rest)
          → counts.passes counting (after_all after stations (before ++ start)) window ≡ length numbers
          → (x : ℕ) → x ∈ numbers → counts.given counting x (after_all after stations (before ++ start)) window ≡ 1
      turn start window rest e full x m =
          sym (given_made counting numbers some x from window inside)
          ∙ all.turns start window rest e (passes_made counting numbers some from window inside ∙ full) x m
        where
          from : State
          from = after_all after stations (before ++ start)

          longer : before ++ later ≡ (before ++ start) ++ (window ++ rest)
          longer = ap (λ l. before ++ l) e ∙ sym (append_assoc before start (window ++ rest))

          inside : EachDoes from window
          inside =
              finds_front after (Does counting numbers) from window rest
              (finds_back after (Does counting numbers) stations (before ++ start) (window ++ rest)
              (subst (EachDoes stations) longer each))
