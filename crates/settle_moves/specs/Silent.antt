-- Where each view goes in a silence, found from the largest to the smallest. Assumes nothing.
use Rattle.std.specs.Option.{option_or, unwrap_or}
use Rattle.std.specs.Prelude.{Option, Some, ◌≡◌, ◌+◌, ◌-◌, ◌<◌, ◌≤◌}
use Rattle.laws.specs.Usual.{refl, sym, ap, ◌∙◌, List, ℕ, arith, length, get_or, drop, set, replicate}
use Rattle.std.proofs.Math.Decide.{ℕ_discrete}
use Rattle.std.proofs.Common.{ne_eqb, length-set, get_or-set_same, get_or-set_other}
use Rattle.settling.specs.Ring.{next, silence}
use Rattle.settle_views.specs.Views.{stations_from}
use Rattle.settle_moves.specs.Moves.{first_listed, view_after, moves_in_silence}
use Rattle.settle_moves.specs.Loops.{listed_end, listed_skip, listed_first}
use Rattle.settle_moves.specs.Found.{next_found}
use Rattle.settle_moves.specs.Each.{is_each}

-- how far the search is: all views from `view` on are placed, and `above` is the first listed number from there
pub record Placed (views moves : List ℕ) (above : Option ℕ) (view : ℕ) : Type 0 where
  pub all : length views ≡ 256
  pub long : length moves ≡ 256
  pub first : get_or moves 0 0 ≡ 0
  pub search : above ≡ option_or (first_listed view (drop view views)) (first_listed 0 views)
  pub done : (i : ℕ) → view ≤ i → i < 256 → get_or moves i 0 ≡ view_after (stations_from 0 views) silence i
  pub inside : view ≤ 256

pub placed_none : (views : List ℕ) → length views ≡ 256 → (above : Option ℕ) → above ≡ first_listed 0 views
    → Placed views (replicate 256 0) above 256
placed_none views all above e = record {
  all = all;
  long = refl;
  first = refl;
  search = e ∙ sym (ap (λ (o : Option ℕ). option_or o (first_listed 0 views)) (listed_end views 256 (omega arith)));
  done = λ i low high. absurd (omega arith);
  inside = omega arith;
}

module _ {views moves : List ℕ} {above : Option ℕ} {view : ℕ} (some : 1 < view) (p : Placed views moves above view) where
  back : view - 1 + 1 ≡ view
  back = omega arith

  goes : next (stations_from 0 views) (view - 1) ≡ unwrap_or above (view - 1)
  goes =
      next_found views (view - 1)
      ∙ ap (λ (i : ℕ). unwrap_or (option_or (first_listed i (drop i views)) (first_listed 0 views)) (view - 1)) back
      ∙ ap (λ (o : Option ℕ). unwrap_or o (view - 1)) (sym p.search)

  -- one view more
  module _ (above' : Option ℕ) (e : above' ≡ option_or (first_listed (view - 1) (drop (view - 1) views)) (first_listed 0 views)) (to : ℕ)
      (is : to ≡ unwrap_or above (view - 1)) where
    placed_more : Placed views (set moves (view - 1) to) above' (view - 1)
    placed_more = record {
      all = p.all;
      long = length-set moves (view - 1) to ∙ p.long;
      first = get_or-set_other moves (view - 1) 0 to 0 (λ z. omega arith) ∙ p.first;
      search = e;
      done = λ i low high. by i high low (ℕ_discrete i (view - 1));
      inside = omega (arith, p.inside);
    }
      where
        by : (i : ℕ) → i < 256 → view - 1 ≤ i → Dec (i ≡ view - 1) → get_or (set moves (view - 1) to) i 0 ≡ view_after (stations_from 0 views) silence i
        by i high low (yes same) =
            ap (λ (x : ℕ). get_or (set moves (view - 1) to) x 0) same
            ∙ get_or-set_same moves (view - 1) to 0 (omega (arith, p.long))
            ∙ is
            ∙ sym goes
            ∙ sym (rw (ne_eqb (view - 1) 0 (λ z. omega arith)))
            ∙ ap (view_after (stations_from 0 views) silence) (sym same)
        by i high low (no other) =
            get_or-set_other moves (view - 1) i to 0 other ∙ p.done i (omega arith) high

  -- the view is listed, or is not
  pub placed_listed : (to : ℕ) → to ≡ unwrap_or above (view - 1) → ¬ (get_or views (view - 1) 0 ≡ 0)
      → Placed views (set moves (view - 1) to) (Some (view - 1)) (view - 1)
  placed_listed to is n =
      placed_more (Some (view - 1)) (sym (ap (λ (o : Option ℕ). option_or o (first_listed 0 views)) (listed_first views (view - 1) (omega (arith, p.all, p.inside)) n))) to is

  pub placed_unlisted : (to : ℕ) → to ≡ unwrap_or above (view - 1) → get_or views (view - 1) 0 ≡ 0
      → Placed views (set moves (view - 1) to) above (view - 1)
  placed_unlisted to is z =
      placed_more above
      (p.search
      ∙ ap (λ (i : ℕ). option_or (first_listed i (drop i views)) (first_listed 0 views)) (sym back)
      ∙ sym (ap (λ (o : Option ℕ). option_or o (first_listed 0 views)) (listed_skip views (view - 1) (omega (arith, p.all, p.inside)) z)))
      to is

-- at the end every view is placed, 0 too
pub placed_all : {views moves : List ℕ} {above : Option ℕ} {view : ℕ} → view ≤ 1 → Placed views moves above view → moves ≡ moves_in_silence views
placed_all {views} {moves} {above} {view} few p = is_each (view_after (stations_from 0 views) silence) 256 moves p.long (λ i high. by i high (ℕ_discrete i 0))
  where
    by : (i : ℕ) → i < 256 → Dec (i ≡ 0) → get_or moves i 0 ≡ view_after (stations_from 0 views) silence i
    by i high (yes z) = ap (λ (x : ℕ). get_or moves x 0) z ∙ p.first ∙ ap (view_after (stations_from 0 views) silence) (sym z)
    by i high (no n) = p.done i (omega arith) high
