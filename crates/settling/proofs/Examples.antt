-- The paper's worked cases, run through the definitions; and that the theorems' premises can be met.
use Rattle.std.specs.Prelude.{◌≡◌, ◌∷◌}
use Rattle.laws.specs.Usual.{[], refl, sym, subst, ◌∙◌, Bool, true, false, cond, List, ℕ, arith, eqb}
use Rattle.std.proofs.Common.{inl}
use mathlib.Core.List.Memᴰ
use Rattle.settling.specs.Ring.{◌∈◌, Stations, next, Views, Within, Agreed, pass, silence, view_after_pass, move, Legal, Run, views_after, Event}
use Rattle.settling.proofs.Counted.{counting_settles}
use Rattle.settling.specs.Counting.{Counting, Does, Orderly, CountingSettles}
use Rattle.settling.specs.First.{FirstAgreement}
use Rattle.settling.proofs.Next.{laws_of, ascending_cons}
use Rattle.settling.proofs.Moves.{within_stays}
use Rattle.settling.specs.Settling.{Settles}
use Rattle.settling.proofs.Settling.{settles}
use Rattle.settling.proofs.Simulation.{Effect, makes, nothing, Machine, Moved, Simulates}
use Rattle.settling.specs.Counting as counting

-- "Next after 254 in 3, 9, 254: 3."
next_after_largest : next (3 ∷ 9 ∷ 254 ∷ []) 254 ≡ 3
next_after_largest = refl

-- "View, frame, new view: 5, 5 to 9: 9. 5, 7 to 9: 5. 9, 2 to 5: 5. 254, 254 to 1: 1. 5, 2 to 5: 5."
marked_views : view_after_pass (5 ∷ 9 ∷ []) 5 5 ∷ view_after_pass (5 ∷ 7 ∷ 9 ∷ []) 7 5 ∷ view_after_pass (2 ∷ 5 ∷ 9 ∷ []) 2 9
    ∷ view_after_pass (1 ∷ 254 ∷ []) 254 254 ∷ view_after_pass (2 ∷ 5 ∷ 9 ∷ []) 2 5 ∷ [] ≡ 9 ∷ 5 ∷ 5 ∷ 1 ∷ 5 ∷ []
marked_views = refl

-- The run of the section "settle": the stations 1, 2, 3 with the views 3, 3, 1; a silence, then a pass by 1, and all views are 2.
abbrev three : List ℕ
three = 1 ∷ 2 ∷ 3 ∷ []

abbrev shown : Views
shown station = cond (eqb station 3) 1 3

abbrev played : List Event
played = silence ∷ pass 1 ∷ []

at_1 : 1 ∈ three
at_1 = Memᴰ.head refl

at_2 : 2 ∈ three
at_2 = Memᴰ.tail (Memᴰ.head refl)

at_3 : 3 ∈ three
at_3 = Memᴰ.tail (Memᴰ.tail (Memᴰ.head refl))

-- what holds of 1, 2 and 3 holds of every station
each : (P : ℕ → Type 0) → P 1 → P 2 → P 3 → (x : ℕ) → x ∈ three → P x
each P a b c x (Memᴰ.head e) = subst P (sym e) a
each P a b c x (Memᴰ.tail (Memᴰ.head e)) = subst P (sym e) b
each P a b c x (Memᴰ.tail (Memᴰ.tail (Memᴰ.head e))) = subst P (sym e) c
each P a b c x (Memᴰ.tail (Memᴰ.tail (Memᴰ.tail x13))) = elim x13 [ ]

three_stations : Stations three
three_stations = record {
  some = omega arith;
  ascending = ascending_cons 1 2 (3 ∷ []) (omega arith) (ascending_cons 2 3 [] (omega arith) (λ y m. elim m [ ], tt));
}

settle_within : Within three shown
settle_within = each (λ x. shown x ∈ three) at_3 at_3 at_1

settle_run : Run three shown played
settle_run = (each (λ x. ¬ (shown x ≡ x)) (λ e. omega arith) (λ e. omega arith) (λ e. omega arith), ((at_1, refl), tt))

settle_first : FirstAgreement (move three) (Agreed three) shown played played []
settle_first = record {
  split = refl;
  differing = (λ a. omega (arith, a 1 3 at_1 at_3), (λ a. omega (arith, a 1 3 at_1 at_3), tt));
  reached = inl refl;
}

settle_agreed : Agreed three (views_after three shown played)
settle_agreed = λ x y m k. named x m ∙ sym (named y k)
  where
    named : (x : ℕ) → x ∈ three → views_after three shown played x ≡ 2
    named = each (λ x. views_after three shown played x ≡ 2) refl refl refl

settle_settles : Settles three shown played []
settle_settles = settles three_stations settle_within settle_run settle_first

-- A machine that meets the premises of the simulation: the ring of views, with an input that does nothing beside the events.
abbrev views_then : List ℕ → Views → Effect → Views
views_then ns views (makes event) = move ns views event
views_then ns views nothing = views

abbrev views_machine : List ℕ → Machine
views_machine ns = record { State = Views; Input = Effect; after = views_then ns; views_of = λ views. views; effect = λ views input. input }

abbrev CanCome : List ℕ → Views → Effect → Type 0
CanCome ns views (makes event) = Legal ns views event
CanCome ns views nothing = Unit {0}

views_simulate : (ns : List ℕ) → Stations ns → Simulates (views_machine ns) ns (Within ns) (CanCome ns)
views_simulate ns s = record { within = λ views w. w; keeps = keeps; moved = moved }
  where
    keeps : (views : Views) (input : Effect) → Within ns views → CanCome ns views input → Within ns (views_then ns views input)
    keeps views (makes event) w l = within_stays (laws_of ns s).2 views event w l
    keeps views nothing w l = w

    moved : (views : Views) (input : Effect) → Within ns views → CanCome ns views input → Moved ns views input (views_then ns views input)
    moved views (makes event) w l = (l, λ x m. refl)
    moved views nothing w l = λ x m. refl

-- The same ring of views as one in which passes and silences are counted.
abbrev asks_of : Effect → ℕ
asks_of (makes (pass x)) = x
asks_of (makes silence) = 0
asks_of nothing = 0

abbrev gives_to : List ℕ → Effect → List ℕ
gives_to ns (makes (pass x)) = next ns x ∷ []
gives_to ns (makes silence) = []
gives_to ns nothing = []

abbrev ends_all : Effect → Bool
ends_all (makes (pass x)) = false
ends_all (makes silence) = true
ends_all nothing = false

abbrev views_counting : List ℕ → Counting
views_counting ns = record {
  State = Views;
  Input = Effect;
  after = views_then ns;
  views_of = λ views. views;
  asks = asks_of;
  gives = λ views input. gives_to ns input;
  ends = λ views input x. ends_all input;
}

-- the run above, with an input that does nothing: one silence, and one pass, which gives the token to 2
abbrev inputs : List Effect
inputs = makes silence ∷ nothing ∷ makes (pass 1) ∷ []

counted : (counting.passes (views_counting three) shown inputs ≡ 1) × (counting.silences (views_counting three) three shown inputs ≡ 1)
    × (counting.given (views_counting three) 2 shown inputs ≡ 1) × (counting.given (views_counting three) 1 shown inputs ≡ 0)
counted = (refl, refl, refl, refl)

-- it meets the premises of `counting_settles`
views_orderly : (ns : List ℕ) → Stations ns → Orderly (views_counting ns) ns (Within ns) (CanCome ns)
views_orderly ns s = record { within = λ views w. w; keeps = (views_simulate ns s).keeps; does = does }
  where
    does : (views : Views) (input : Effect) → Within ns views → CanCome ns views input → Does (views_counting ns) ns views input
    does views (makes (pass x)) w l = counting.passed l.0 l.1 refl (λ y m. refl) (λ y m. refl)
    does views (makes silence) w l = counting.silent refl (λ y m. refl) l (λ y m. refl)
    does views nothing w l = counting.nothing refl (λ y m. refl) (λ y m. refl)

counted_settles : CountingSettles (views_counting three) three shown inputs []
counted_settles =
    counting_settles (views_orderly three three_stations) three_stations settle_within (settle_run.0, (tt, settle_run.1))
    (record {
      split = refl;
      differing = (settle_first.differing.0, (settle_first.differing.1.0, settle_first.differing.1));
      reached = inl refl;
    })
