-- Who holds and is alone in the list stays so when its watch ends, also where its own number is listed. Assumes nothing.
use Rattle.laws.specs.Usual.{[], refl, ◌∙◌, Bool, true, false, cond, false≢true, List, ℕ, suc, arith, get_or, set, ltb}
use Rattle.std.specs.Prelude.{◌≡◌, ◌∷◌, ◌+◌, ◌≤◌, zero}
use Rattle.std.proofs.Common.{ltb-true, ltb-false, le-ltb}
use Rattle.members.specs.Members.{nobody, entry_of, is_listed, with_entry, numbers_from, numbers_of, with_ours, next_after, misses_set, struck, strikes, missed}
use Rattle.settling.specs.Ring.{first_above, next}
use Rattle.members.specs.declared.Entry.{Entry}
use Rattle.members.specs.declared.Members.{Members}
use Rattle.ticking_quiet.specs.Alone.{Each, Least}

each_and : (P Q R : ℕ → Type 0) → ((n : ℕ) → P n → Q n → R n) → (ns : List ℕ) → Each P ns → Each Q ns → Each R ns
each_and P Q R f [] p q = tt
each_and P Q R f (number ∷ rest) p q = (f number p.0 q.0, each_and P Q R f rest p.1 q.1)

module _ (P : ℕ → Type 0) (ours : ℕ) where
  ours_each : P ours → (ns : List ℕ) → Each P ns → Each P (with_ours ours ns)
  ours_each own [] p = (own, tt)
  ours_each own (number ∷ rest) p = by (ltb ours number) (ours_each own rest p.1)
    where
      by : (test : Bool) → Each P (with_ours ours rest) → Each P (cond test (ours ∷ number ∷ rest) (number ∷ with_ours ours rest))
      by true more = (own, p)
      by false more = (p.0, more)

  each_ours : (ns : List ℕ) → Each P (with_ours ours ns) → P ours × Each P ns
  each_ours [] p = (p.0, tt)
  each_ours (number ∷ rest) p = by (ltb ours number) p (each_ours rest)
    where
      by : (test : Bool) → Each P (cond test (ours ∷ number ∷ rest) (number ∷ with_ours ours rest))
          → (Each P (with_ours ours rest) → P ours × Each P rest) → P ours × Each P (number ∷ rest)
      by true q more = q
      by false q more = let both = more q.1 in (both.0, (q.0, both.1))

-- the listed numbers from one on are not below it
not_below : (low from : ℕ) (entries : List Entry) → low ≤ from → Each (λ n. low ≤ n) (numbers_from from entries)
not_below low from [] h = tt
not_below low from (entry ∷ rest) h = by entry.listed (not_below low (suc from) rest (omega arith))
  where
    by : (test : Bool) → Each (λ n. low ≤ n) (numbers_from (suc from) rest)
        → Each (λ n. low ≤ n) (cond test (from ∷ numbers_from (suc from) rest) (numbers_from (suc from) rest))
    by true more = (h, more)
    by false more = more

numbers_least : (from : ℕ) (entries : List Entry) → Least (numbers_from from entries)
numbers_least from [] = tt
numbers_least from (entry ∷ rest) = by entry.listed (numbers_least (suc from) rest)
  where
    by : (test : Bool) → Least (numbers_from (suc from) rest) → Least (cond test (from ∷ numbers_from (suc from) rest) (numbers_from (suc from) rest))
    by true more = not_below from (suc from) rest (omega arith)
    by false more = more

ours_least : (ours : ℕ) (ns : List ℕ) → Least ns → Least (with_ours ours ns)
ours_least ours [] l = tt
ours_least ours (number ∷ rest) l = by (ltb ours number) refl
  where
    by : (test : Bool) → ltb ours number ≡ test → Least (cond test (ours ∷ number ∷ rest) (number ∷ with_ours ours rest))
    by true e =
        let h = ltb-true ours number e in
        (omega arith, each_and (λ n. number ≤ n) (λ n. number ≤ n) (λ n. ours ≤ n) (λ n p q. omega arith) rest l l)
    by false e = ours_each (λ n. number ≤ n) ours (omega (arith, ltb-false ours number e)) rest l

-- a number that comes after itself has none above it
none_above : (x d : ℕ) (ns : List ℕ) → first_above x ns d ≡ x → Each (λ n. n ≤ x) ns × (d ≡ x)
none_above x d [] e = (tt, e)
none_above x d (y ∷ ns) e = by (ltb x y) refl e (none_above x d ns)
  where
    by : (test : Bool) → ltb x y ≡ test → cond test y (first_above x ns d) ≡ x
        → (first_above x ns d ≡ x → Each (λ n. n ≤ x) ns × (d ≡ x)) → Each (λ n. n ≤ x) (y ∷ ns) × (d ≡ x)
    by true t e more = absurd (omega (arith, ltb-true x y t))
    by false t e more = let rest = more e in ((omega (arith, ltb-false x y t), rest.0), rest.1)

above_none : (x d : ℕ) (ns : List ℕ) → Each (λ n. n ≡ x) ns → first_above x ns d ≡ d
above_none x d [] p = refl
above_none x d (y ∷ ns) p = let same : y ≡ x = p.0 in rw (le-ltb x y (omega arith)) (above_none x d ns p.1)

-- a number comes after itself where there is no other, and only there
only_one : (x : ℕ) (ns : List ℕ) → Least ns → next ns x ≡ x → Each (λ n. n ≡ x) ns
only_one x [] l e = tt
only_one x (y ∷ ns) l e =
    let found = none_above x y (y ∷ ns) e in
    let first : y ≡ x = found.1 in
    (first, each_and (λ n. y ≤ n) (λ n. n ≤ x) (λ n. n ≡ x) (λ n p q. omega arith) ns l found.0.1)

one_only : (x : ℕ) (ns : List ℕ) → Each (λ n. n ≡ x) ns → next ns x ≡ x
one_only x [] p = refl
one_only x (y ∷ ns) p = above_none x y (y ∷ ns) p ∙ p.0

-- an entry that lists nobody anew
fewer : (P : ℕ → Type 0) (from : ℕ) (entries : List Entry) (place : ℕ) (entry : Entry)
    → (entry.listed ≡ true → (get_or entries place nobody).listed ≡ true)
    → Each P (numbers_from from entries) → Each P (numbers_from from (set entries place entry))
fewer P from [] place entry f p = p
fewer P from (old ∷ rest) zero entry f p = by entry.listed old.listed f p
  where
    by : (after before : Bool) → (after ≡ true → before ≡ true)
        → Each P (cond before (from ∷ numbers_from (suc from) rest) (numbers_from (suc from) rest))
        → Each P (cond after (from ∷ numbers_from (suc from) rest) (numbers_from (suc from) rest))
    by true true g q = q
    by true false g q = absurd (false≢true (g refl))
    by false true g q = q.1
    by false false g q = q
fewer P from (old ∷ rest) (suc place) entry f p = by old.listed p (fewer P (suc from) rest place entry f)
  where
    by : (test : Bool) → Each P (cond test (from ∷ numbers_from (suc from) rest) (numbers_from (suc from) rest))
        → (Each P (numbers_from (suc from) rest) → Each P (numbers_from (suc from) (set rest place entry)))
        → Each P (cond test (from ∷ numbers_from (suc from) (set rest place entry)) (numbers_from (suc from) (set rest place entry)))
    by true q more = (q.0, more q.1)
    by false q more = more q

missed_fewer : (P : ℕ → Type 0) (members : Members) (number : ℕ) → Each P (numbers_of members) → Each P (numbers_of (missed members number))
missed_fewer P members number p = by (is_listed members number) refl (strikes members number)
  where
    by : (listed : Bool) → is_listed members number ≡ listed → (third : Bool) → Each P
        (numbers_of
        (cond listed
        (cond third (struck members number) (with_entry members number (misses_set ((entry_of members number).misses + 1) (entry_of members number))))
        members))
    by true l true = fewer P 0 members.entries number nobody (λ z. absurd (false≢true z)) p
    by true l false = fewer P 0 members.entries number (misses_set ((entry_of members number).misses + 1) (entry_of members number)) (λ z. z) p
    by false l third = p

pub still_alone : (ours view : ℕ) (members : Members) → next_after ours members view ≡ view → next_after ours (missed members view) view ≡ view
still_alone ours view members e =
    let ring = only_one view (with_ours ours (numbers_of members)) (ours_least ours (numbers_of members) (numbers_least 0 members.entries)) e in
    let both = each_ours (λ n. n ≡ view) ours (numbers_of members) ring in
    one_only view (with_ours ours (numbers_of (missed members view)))
    (ours_each (λ n. n ≡ view) ours both.0 (numbers_of (missed members view)) (missed_fewer (λ n. n ≡ view) members view both.1))
