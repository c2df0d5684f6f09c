-- The end of ring startup by the first listed number, which the flags alone tell. Assumes nothing.
use Rattle.std.specs.Prelude.{◌≡◌, ◌∷◌, ◌<◌, ◌≤◌}
use Rattle.laws.specs.Usual.{refl, sym, ap, ◌∙◌, Bool, List, [], ℕ, min, arith}
use Rattle.boundary_flags.specs.Search.{found_none}
use Rattle.boundary_lists.specs.Laws.{numbers_in}
use Rattle.boundary_lists.specs.Lists.{members_in, flagged}
use Rattle.members.specs.Members.{numbers_of, with_ours, first_of, smallest}
use Rattle.members_searching.specs.Found.{smallest_found}
use Rattle.members_searching.specs.Search.{first_in, first_from, number_or}
use Rattle.station.specs.Rules.Starting.{started_up}
use Rattle.station.specs.Rules.State.{fresh, begun}
use Rattle.station.specs.Types.{Members}
use Rattle.station.specs.declared.Phase.TheVariants.{Listening}
use Rattle.station.specs.declared.Settings.{Settings}
use Rattle.station.specs.declared.Station.{Station}

module _ (listed : List Bool) (areas watch misses : List ℕ) where
  -- the first listed number below a number, or that number
  abbrev pub first_below : ℕ → ℕ
  first_below end = min end (number_or end (first_from 0 (flagged listed)))

  -- "the smallest listed number, ours included"
  pub smallest_in : (ours : ℕ) → first_below ours ≡ smallest ours (members_in listed areas watch misses)
  smallest_in ours =
      sym (smallest_found ours (flagged listed))
      ∙ ap (λ (numbers : List ℕ). first_of (with_ours ours numbers)) (numbers_in listed areas watch misses)

  module _ (own : Settings) where
    abbrev members : Members
    members = members_in listed areas watch misses

    abbrev pub after : Station
    after = started_up own (members_in listed areas watch misses) (numbers_of (members_in listed areas watch misses))

    told : (station : Station) → started_up own members (numbers_of (flagged listed)) ≡ station → after ≡ station
    told station e = ap (started_up own members) (sym (numbers_in listed areas watch misses)) ∙ e

    -- "If nobody else is listed, back to listening with an empty list."
    pub nobody_listed : 256 ≤ first_below 256 → after ≡ fresh Listening own
    nobody_listed h =
        told (fresh Listening own)
        (by (numbers_of (flagged listed)) (found_none listed 0 0 (omega arith) h) (found_none listed 0 1 (omega arith) h))
      where
        by : (numbers : List ℕ) → number_or 0 (first_in numbers) ≡ 0 → number_or 1 (first_in numbers) ≡ 1
            → started_up own members numbers ≡ fresh Listening own
        by [] _ _ = refl
        by (number ∷ rest) none one = absurd (omega arith)

    -- "Then we participate and our view is the smallest listed number, ours included."
    pub some_listed : first_below 256 < 256 → after ≡ begun own members (first_below own.number)
    some_listed h =
        told (begun own members (smallest own.number members)) (by (numbers_of (flagged listed)) h)
        ∙ ap (begun own members) (sym (smallest_in own.number))
      where
        by : (numbers : List ℕ) → min 256 (number_or 256 (first_in numbers)) < 256
            → started_up own members numbers ≡ begun own members (smallest own.number members)
        by [] few = absurd (omega arith)
        by (number ∷ rest) few = refl
