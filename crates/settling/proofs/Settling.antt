-- What is proved of the definitions in specs/Settling.antt.
use Rattle.laws.specs.Usual.{[], refl, sym, ap, subst, ◌∙◌, List, ℕ, suc, arith, length}
use Rattle.std.specs.Prelude.{◌≡◌, ◌++◌, ◌+◌, ◌-◌, ◌*◌, ◌≤◌, ◌⊎◌, zero}
use Rattle.std.proofs.Common.{inl, inr, mul-suc, suc-mul, mul-one, mul-le-mul_left}
use Rattle.settling.specs.Ring.{◌∈◌, Stations, next, Views, Within, Agreed, Event, move, Legal, Run, views_after, passes, silences, given}
use Rattle.settling.specs.First.{FirstAgreement}
use Rattle.settling.proofs.Next.{laws_of}
use Rattle.settling.specs.Next.{NextLaws}
use Rattle.settling.proofs.Append.{after_append, finds_front, finds_back, passes_append}
use Rattle.settling.proofs.Runs.{agreed_after, within_after}
use Rattle.settling.specs.Runs.{Unsettled}
use Rattle.settling.proofs.Turns.{no_silence, full_turn}
use Rattle.settling.proofs.Silences.{few_silences}
use Rattle.settling.proofs.Passes.{few_passes}
use Rattle.settling.specs.Settling.{Settles}

-- n(n-1) and n are n×n together
pub square : (n : ℕ) → n * (n - 1) + n ≡ n * n
square zero = refl
square (suc m) =
    let less : suc m - 1 ≡ m = omega arith in
    omega (arith, ap (λ j. suc m * j) less, mul-suc (suc m) m)

-- 2n-3 is at most (n-1)×(n-1)
loose : (n : ℕ) → 2 * n - 3 ≤ (n - 1) * (n - 1)
loose zero = omega arith
loose (suc zero) = omega arith
loose (suc (suc k)) =
    let less : suc (suc k) - 1 ≡ suc k = omega arith in
    omega (arith, ap (λ j. j * j) less, suc-mul k (suc k), mul-suc k k)

-- Of every ring, all views among its numbers, and every list of events that can come.
pub settles : {ns : List ℕ} {views : Views} {events before later : List Event} → Stations ns → Within ns views → Run ns views events
    → FirstAgreement (move ns) (Agreed ns) views events before later → Settles ns views before later
settles {ns} {views} {events} {before} {later} s w r f = record {
  passes_loose = omega (arith, few, mul-le-mul_left (length ns * length ns) s.some, mul-one (length ns * length ns));
  silences_loose = omega (arith, quiet, loose (length ns));
  passes_sharp = omega (arith, few, square (length ns));
  silences_sharp = λ h. omega (arith, quiet);
  silences_alone = λ h. omega (arith, quiet);
  agreed = λ h. when_on h f.reached;
  stays = λ a start rest e. subst (Agreed ns) (sym (after_append (move ns) views before start)) (agreed_after start a);
  no_silence = none f.reached;
  turns = λ start window rest e full x m. turn start window rest e full x m f.reached;
}
  where
    smallest : ℕ
    smallest = (laws_of ns s).0

    largest : ℕ
    largest = (laws_of ns s).1

    laws : NextLaws ns (next ns) smallest largest
    laws = (laws_of ns s).2

    there : Views
    there = views_after ns views before

    whole : Run ns views (before ++ later)
    whole = subst (Run ns views) f.split r

    first : Unsettled ns views before
    first = record { within = w; run = finds_front (move ns) (Legal ns) views before later whole; differing = f.differing }

    second : Run ns there later
    second = finds_back (move ns) (Legal ns) views before later whole

    inside : Within ns there
    inside = within_after laws before w first.run

    few : 2 * passes before + length ns ≤ length ns * length ns
    few = few_passes laws s.ascending before first

    quiet : silences before ≤ 2 * length ns - 3
    quiet = few_silences laws before first

    when_on : ¬ (later ≡ []) → (later ≡ []) ⊎ Agreed ns there → Agreed ns there
    when_on h (inl e) = absurd (h e)
    when_on h (inr a) = a

    none : (later ≡ []) ⊎ Agreed ns there → silences later ≡ 0
    none (inl e) = ap silences e
    none (inr a) = no_silence laws later (record { within = inside; run = second; agreed = a })

    turn : (start window rest : List Event) → later ≡ start ++ (window ++ rest) → passes window ≡ length ns → (x : ℕ) → x ∈ ns
        → (later ≡ []) ⊎ Agreed ns there → given ns x window ≡ 1
    turn start window rest e full x m (inl z) =
        absurd (omega (arith, ap passes (sym z ∙ e), passes_append start (window ++ rest), passes_append window rest, full, s.some))
    turn start window rest e full x m (inr a) =
        let parts : Run ns there (start ++ (window ++ rest)) = subst (Run ns there) e second in
        let from : Run ns (views_after ns there start) (window ++ rest) = finds_back (move ns) (Legal ns) there start (window ++ rest) parts in
        full_turn laws s.ascending window (record {
          within = within_after laws start inside (finds_front (move ns) (Legal ns) there start (window ++ rest) parts);
          run = finds_front (move ns) (Legal ns) (views_after ns there start) window rest from;
          agreed = agreed_after start a;
        }) full x m
