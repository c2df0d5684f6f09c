-- What a listing, an accepted cyclic frame and an ending of our watch do to one station's entry. Assumes nothing.
use Rattle.laws.specs.Usual.{[], refl, sym, ap, subst, ◌∙◌, Bool, true, false, cond, not, false≢true, List, ℕ, suc, arith, get_or, set, eqb}
use Rattle.std.specs.Prelude.{◌≡◌, ◌∷◌, ◌+◌, zero}
use Rattle.std.proofs.Common.{get_or-set_other, eqb-true, eq-eqb, ne_eqb, leb-true, leb-false}
use Rattle.std.proofs.lemmas.Bool.{eqb-false}
use Rattle.members.specs.Listing.{listing}
use Rattle.members.specs.Members.{nobody, no_members, entry_of, is_listed, with_entry, misses_set, cleared, struck, strikes, missed}
use Rattle.station.proofs.States.ListKept.{none_listed}
use Rattle.station.specs.Types.{Milliseconds, Areas, Entry, Members}
use Rattle.misses.specs.MissHistory.{misses_after}
use Rattle.misses.specs.EntryMoves.{Moves}

module _ {stays : Bool} where
  pub same : {entry : Entry} → Moves stays false false false entry entry
  same = record { counts = λ said c l. c l; strikes = λ said s l c. l; unlisted = λ n b. b }

  -- it was not listed, and is not
  void : {listed accepted ended : Bool} {before left : Entry} → before.listed ≡ false → left.listed ≡ false
      → Moves stays listed accepted ended before left
  void b l = record {
    counts = λ said c e. absurd (false≢true (sym l ∙ e));
    strikes = λ said s e c. absurd (false≢true (sym b ∙ e));
    unlisted = λ n e. l;
  }

  -- it begins anew
  anew : {listed accepted : Bool} {before left : Entry} → ((said : ℕ) → misses_after listed accepted false said ≡ 0) → left.misses ≡ 0
      → (before.listed ≡ true → left.listed ≡ true) → (listed ≡ false → before.listed ≡ false → left.listed ≡ false)
      → Moves stays listed accepted false before left
  anew zeroed none kept unlisted = record {
    counts = λ said c l. record { misses = none ∙ sym (zeroed said); few = rw zeroed (omega arith) };
    strikes = λ said s l c. kept l;
    unlisted = unlisted;
  }

-- an emptied list, where we do not participate or stop
pub gone : {listed accepted ended : Bool} {before left : Entry} → left.listed ≡ false → Moves false listed accepted ended before left
gone l = record {
  counts = λ said c e. absurd (false≢true (sym l ∙ e));
  strikes = λ said s e c. absurd (false≢true s);
  unlisted = λ n e. l;
}

-- the entries of a list in which one number's entry is another
module _ (P : Bool → Entry → Entry → Type 0) (nowhere : P true nobody nobody) (others : (entry : Entry) → P false entry entry) where
  here : (entries : List Entry) (x : ℕ) (entry : Entry) → P true (get_or entries x nobody) entry
      → P true (get_or entries x nobody) (get_or (set entries x entry) x nobody)
  here [] x entry p = nowhere
  here (old ∷ rest) zero entry p = p
  here (old ∷ rest) (suc x) entry p = here rest x entry p

  at_entry : (members : Members) (number x : ℕ) (entry : Entry) → P true (entry_of members number) entry
      → P (eqb number x) (entry_of members x) (entry_of (with_entry members number entry) x)
  at_entry members number x entry p = by (eqb number x) refl
    where
      by : (test : Bool) → eqb number x ≡ test → P test (entry_of members x) (entry_of (with_entry members number entry) x)
      by true e =
          subst (λ (n : ℕ). P true (entry_of members n) (entry_of (with_entry members number entry) n)) (eqb-true number x e)
          (here members.entries number entry p)
      by false e =
          rw (get_or-set_other members.entries number x entry nobody (λ same. eqb-false number x e (sym same)))
          (others (entry_of members x))

module _ {stays : Bool} (members : Members) (number x : ℕ) where
  pub listing_moves : (areas : Areas) (watch : Milliseconds) (ours : Areas)
      → Moves stays (eqb number x) false false (entry_of members x) (entry_of (listing members number areas watch ours) x)
  listing_moves areas watch ours =
      at_entry (λ listed before left. Moves stays listed false false before left) (void refl refl) (λ entry. same) members number x _
      (anew (λ said. refl) refl (λ e. refl) (λ n. absurd (false≢true (sym n))))

  pub cleared_moves : Moves stays false (eqb number x) false (entry_of members x) (entry_of (cleared members number) x)
  cleared_moves =
      at_entry (λ accepted before left. Moves stays false accepted false before left) (void refl refl) (λ entry. same) members number x _
      (anew (λ said. refl) refl (λ e. e) (λ n e. e))

  -- "gets a miss if it is listed"; "A third miss in a row strikes it from the list."
  pub missed_moves : Moves stays false false (eqb number x) (entry_of members x) (entry_of (missed members number) x)
  missed_moves = by (is_listed members number) refl (strikes members number) refl
    where
      more : Entry
      more = misses_set ((entry_of members number).misses + 1) (entry_of members number)

      at : (entry : Entry) → Moves stays false false true (entry_of members number) entry
          → Moves stays false false (eqb number x) (entry_of members x) (entry_of (with_entry members number entry) x)
      at = at_entry (λ ended before left. Moves stays false false ended before left) (void refl refl) (λ entry. same) members number x

      unlisted : (test : Bool) → eqb number x ≡ test → is_listed members number ≡ false → Moves stays false false test (entry_of members x) (entry_of members x)
      unlisted true e l = let none : is_listed members x ≡ false = ap (is_listed members) (sym (eqb-true number x e)) ∙ l in void none none
      unlisted false e l = same

      by : (listed : Bool) → is_listed members number ≡ listed → (third : Bool) → strikes members number ≡ third
          → Moves stays false false (eqb number x) (entry_of members x)
          (entry_of (cond listed (cond third (struck members number) (with_entry members number more)) members) x)
      by true l true t = at nobody (record {
        counts = λ said c e. absurd (false≢true e);
        strikes = λ said s e c. let two = leb-true _ (entry_of members number).misses t in
            sym (ap not (eq-eqb (suc said) _ (omega (arith, c.misses, c.few))));
        unlisted = λ n e. refl;
      })
      by true l false t = at more (record {
        counts = λ said c e. let few = leb-false _ (entry_of members number).misses t in
            record { misses = omega (arith, (c l).misses); few = omega (arith, (c l).misses) };
        strikes = λ said s e c. let few = leb-false _ (entry_of members number).misses t in
            e ∙ sym (ap not (ne_eqb (suc said) _ (λ three. omega (arith, c.misses))));
        unlisted = λ n e. e;
      })
      by false l third t = unlisted (eqb number x) refl l

-- the first listing in a list that was emptied
pub first_moves : (number x : ℕ) {before : Entry} (areas : Areas) (watch : Milliseconds) (ours : Areas)
    → Moves false (eqb number x) false false before (entry_of (listing no_members number areas watch ours) x)
first_moves number x areas watch ours = record {
  counts = λ said c. first.counts said (λ e. absurd (false≢true (sym (none_listed x) ∙ e)));
  strikes = λ said s e c. absurd (false≢true s);
  unlisted = λ n e. first.unlisted n (none_listed x);
}
  where
    first : Moves false (eqb number x) false false (entry_of no_members x) (entry_of (listing no_members number areas watch ours) x)
    first = listing_moves no_members number x areas watch ours
