-- The numbers read, and changed. Assumes nothing.
use Rattle.std.specs.Prelude.{◌≡◌, ◌∷◌, ◌++◌, ◌+◌, ◌-◌, ◌*◌, ◌<◌, ◌≤◌}
use Rattle.laws.specs.Usual.{refl, sym, ap, ap₂, ◌∙◌, Bool, true, false, cond, not, List, [], ℕ, suc, arith, length, get_or, take, drop, set, eqb}
use Prim.Native.Nat.{zero}
use Rattle.std.proofs.Common.{eq-eqb, ne_eqb, eqb-true, length-append, length-drop, get_or-drop, drop-drop, get_or-append-add, add-one}
use Rattle.std.proofs.lemmas.List.Edits.{sets-eq}
use Rattle.message.specs.declared.Confirmation.{Confirmation}
use Rattle.message_places.specs.Owed.{head_of, rows_in, count_in, owed_in, rows_of, with_count, kept_owed}
use Rattle.message_owed.specs.Owing.{is_owing, confirmation_at}
use Rattle.message_owed.specs.Laws.{length_rows, length_owed, rows_again, owed_same, at_most_eight, octets_owed, octets_dropped, owed_back}
use Rattle.std.proofs.Math.Seq.{paste, length_paste_head, paste-suc}
use Rattle.message_rules.specs.Rules.Confirming.{same_confirmation, is_owed}

rows_on : (numbers : List ℕ) (at count : ℕ) → rows_in (suc count) (drop at numbers) ≡ confirmation_at numbers at ∷ rows_in count (drop (at + 3) numbers)
rows_on numbers at count =
    let here : at + 0 ≡ at = omega arith in
    rw (get_or-drop at numbers 0 0, get_or-drop at numbers 1 0, get_or-drop at numbers 2 0, drop-drop 3 at numbers, here)

-- whether anything is owed, and the oldest of it
module _ (numbers : List ℕ) where
  pub owing_told : not (eqb (get_or numbers 0 0) 0) ≡ is_owing (owed_in numbers)
  unfolding owed_in
  owing_told = by (count_in (get_or numbers 0 0)) refl
    where
      by : (count : ℕ) → count_in (get_or numbers 0 0) ≡ count → not (eqb (get_or numbers 0 0) 0) ≡ is_owing (rows_in count (drop 1 numbers))
      by zero e = ap not (eq-eqb (get_or numbers 0 0) 0 (omega arith))
      by (suc count) e = ap not (ne_eqb (get_or numbers 0 0) 0 (λ none. omega arith))

  pub oldest_first : (first : Confirmation) (rest : List Confirmation) → owed_in numbers ≡ first ∷ rest → confirmation_at numbers 1 ≡ first
  unfolding owed_in
  oldest_first first rest = by (count_in (get_or numbers 0 0))
    where
      by : (count : ℕ) → rows_in count (drop 1 numbers) ≡ first ∷ rest → confirmation_at numbers 1 ≡ first
      by zero e = absurd (let z : ◌≡◌ {A = ℕ} 0 1 = cc in omega arith)
      by (suc count) e = let split = sym (rows_on numbers 1 count) ∙ e in cc

-- one more behind the others
rows_both : (a b : List Confirmation) → rows_of (a ++ b) ≡ rows_of a ++ rows_of b
rows_both [] b = refl
rows_both (confirmation ∷ a) b =
    ap (λ (rest : List ℕ). head_of confirmation ∷ confirmation.version ∷ confirmation.number ∷ rest) (rows_both a b)

-- numbers with another count of confirmations in them
kept_as : (number : ℕ) (rows : List ℕ) (owed : List Confirmation) (count : ℕ) (front : List ℕ) → length owed ≡ count → (count_in number ≡ count → ⊥)
    → rows_of owed ≡ front → kept_owed (number ∷ rows) owed ≡ count ∷ (front ++ drop (3 * count) rows)
unfolding kept_owed
kept_as number rows owed count front many other same =
    ap₂ (λ (k : ℕ) (f : List ℕ). with_count number k ∷ (f ++ drop (3 * k) rows)) many same
    ∙ ap (λ (t : Bool). cond t number count ∷ (front ++ drop (3 * count) rows)) (ne_eqb (count_in number) count other)

rows_there : (number : ℕ) (rows : List ℕ) (count : ℕ) → count_in number ≡ count → 3 * count ≤ length rows → rows_of (owed_in (number ∷ rows)) ≡ take (3 * count) rows
unfolding owed_in
rows_there number rows count e fits = ap (λ (n : ℕ). rows_of (rows_in n rows)) e ∙ rows_again count rows fits

pub kept_added : (numbers : List ℕ) (confirmation : Confirmation) (count at : ℕ) → length numbers ≡ 25 → count ≡ get_or numbers 0 0 → count < 8 → at ≡ 1 + 3 * count
    → set (set (set (set numbers at (head_of confirmation)) (at + 1) confirmation.version) (at + 2) confirmation.number) 0 (count + 1)
    ≡ kept_owed numbers (owed_in numbers ++ (confirmation ∷ []))
kept_added [] confirmation count at all first few place = absurd (omega arith)
kept_added (number ∷ rows) confirmation count at all first few place =
    let counted : count_in number ≡ count = omega arith in
    let e₀ : at ≡ suc (3 * count) = omega arith in
    let e₁ : at + 1 ≡ suc (suc (3 * count)) = omega arith in
    let e₂ : at + 2 ≡ suc (suc (suc (3 * count))) = omega arith in
    let behind : 3 * (count + 1) ≡ 3 * count + 3 = omega arith in
    ap₂ (λ (i j : ℕ). set (set (set (set (number ∷ rows) i head) j confirmation.version) (at + 2) confirmation.number) 0 (count + 1)) e₀ e₁
    ∙ ap (λ (i : ℕ). set (set (number ∷ set (set rows (3 * count) head) (suc (3 * count)) confirmation.version) i confirmation.number) 0 (count + 1)) e₂
    ∙ ap (λ (l : List ℕ). (count + 1) ∷ l) (sets-eq row rows (3 * count) (omega arith))
    ∙ ap (λ (k : ℕ). (count + 1) ∷ (take (3 * count) rows ++ row ++ drop k rows)) (sym behind)
    ∙ sym (kept_as number rows (owed_in (number ∷ rows) ++ (confirmation ∷ [])) (count + 1) (take (3 * count) rows ++ row)
    (length-append (owed_in (number ∷ rows)) (confirmation ∷ []) ∙ omega (arith, length_owed (number ∷ rows)))
    (λ e. omega arith)
    (rows_both (owed_in (number ∷ rows)) (confirmation ∷ []) ∙ ap (λ (f : List ℕ). f ++ row) (rows_there number rows count counted (omega arith))))
  where
    head : ℕ
    head = head_of confirmation

    row : List ℕ
    row = head ∷ confirmation.version ∷ confirmation.number ∷ []

-- the oldest one dropped
still_owed : (number : ℕ) (rows : List ℕ) (count : ℕ) → count_in number ≡ suc count → drop 1 (owed_in (number ∷ rows)) ≡ rows_in count (drop 3 rows)
unfolding owed_in
still_owed number rows count e = ap (λ (k : ℕ). drop 1 (rows_in k rows)) e

pub kept_dropped : (numbers : List ℕ) (count : ℕ) → length numbers ≡ 25 → count ≡ count_in (get_or numbers 0 0) → 0 < count
    → set (take 1 numbers ++ take (3 * (count - 1)) (drop 4 numbers) ++ drop (1 + 3 * (count - 1)) numbers) 0 (count - 1)
    ≡ kept_owed numbers (drop 1 (owed_in numbers))
kept_dropped [] count all first some = absurd (omega arith)
kept_dropped (number ∷ rows) zero all first some = absurd (omega arith)
kept_dropped (number ∷ rows) (suc count) all first some =
    let fewer : suc count - 1 ≡ count = omega arith in
    let left = still_owed number rows count (sym first) in
    let behind : 1 + 3 * count ≡ suc (3 * count) = omega arith in
    ap (λ (k : ℕ). set (number ∷ (take (3 * k) (drop 3 rows) ++ drop (1 + 3 * k) (number ∷ rows))) 0 k) fewer
    ∙ ap (λ (k : ℕ). count ∷ (take (3 * count) (drop 3 rows) ++ drop k (number ∷ rows))) behind
    ∙ sym (kept_as number rows (drop 1 (owed_in (number ∷ rows))) count (take (3 * count) (drop 3 rows))
    (ap length left ∙ length_rows count (drop 3 rows))
    (λ e. omega arith)
    (ap rows_of left ∙ rows_again count (drop 3 rows) (rw (length-drop 3 rows) (omega arith))))

owed_none : (numbers : List ℕ) → get_or numbers 0 0 ≡ 0 → owed_in numbers ≡ []
unfolding owed_in
owed_none numbers none = ap (λ (n : ℕ). rows_in (count_in n) (drop 1 numbers)) none

pub kept_none : (numbers : List ℕ) → get_or numbers 0 0 ≡ 0 → length numbers ≡ 25 → numbers ≡ kept_owed numbers (drop 1 (owed_in numbers))
kept_none numbers none all =
    let empty = owed_none numbers none in
    sym (owed_same numbers all) ∙ ap (kept_owed numbers) (empty ∙ sym (ap (drop 1) empty))

-- numbers with the oldest one dropped hold the others
pub held_dropped : (numbers : List ℕ) {after : List ℕ} → after ≡ kept_owed numbers (drop 1 (owed_in numbers)) → owed_in after ≡ drop 1 (owed_in numbers)
held_dropped numbers is =
    let few : length (drop 1 (owed_in numbers)) ≤ 8 = rw (length-drop 1 (owed_in numbers)) (omega (arith, at_most_eight numbers)) in
    ap owed_in is ∙ owed_back numbers (drop 1 (owed_in numbers)) few (octets_dropped (owed_in numbers) (octets_owed numbers))

-- all of it forgotten
pub kept_forgotten : (numbers : List ℕ) → length numbers ≡ 25 → set numbers 0 0 ≡ kept_owed numbers []
unfolding kept_owed
kept_forgotten [] all = absurd (omega arith)
kept_forgotten (number ∷ rows) all = by (eqb (count_in number) 0) refl
  where
    by : (same : Bool) → eqb (count_in number) 0 ≡ same → 0 ∷ rows ≡ cond same number 0 ∷ rows
    by true e = let zeroth : 0 ≡ number = omega (arith, eqb-true (count_in number) 0 e) in ap (λ (n : ℕ). n ∷ rows) zeroth
    by false e = refl

-- the search for a confirmation, from the place of one that is owed on
module _ (confirmation : Confirmation) (numbers : List ℕ) (at : ℕ) where
  pub owed_found : (left : ℕ) → 0 < left → same_confirmation confirmation (confirmation_at numbers at) ≡ true
      → is_owed confirmation (rows_in left (drop at numbers)) ≡ true
  owed_found zero some same = absurd (omega arith)
  owed_found (suc left) some same =
      ap (is_owed confirmation) (rows_on numbers at left)
      ∙ ap (λ (t : Bool). cond t true (is_owed confirmation (rows_in left (drop (at + 3) numbers)))) same

  pub owed_on : (left : ℕ) → 0 < left → same_confirmation confirmation (confirmation_at numbers at) ≡ false
      → is_owed confirmation (rows_in left (drop at numbers)) ≡ is_owed confirmation (rows_in (left - 1) (drop (at + 3) numbers))
  owed_on zero some other = absurd (omega arith)
  owed_on (suc left) some other =
      let fewer : left ≡ suc left - 1 = omega arith in
      ap (is_owed confirmation) (rows_on numbers at left)
      ∙ ap (λ (t : Bool). cond t true (is_owed confirmation (rows_in left (drop (at + 3) numbers)))) other
      ∙ ap (λ (k : ℕ). is_owed confirmation (rows_in k (drop (at + 3) numbers))) fewer

  pub owed_end : (left : ℕ) → left ≤ 0 → is_owed confirmation (rows_in left (drop at numbers)) ≡ false
  owed_end zero none = refl
  owed_end (suc left) none = absurd (omega arith)

-- so many numbers moved three places to the front, and one more
pub shift_on : (numbers moved : List ℕ) (done : ℕ) → length numbers ≡ 25 → done < 21 → moved ≡ paste numbers 1 (drop 4 numbers) done
    → set moved (1 + done) (get_or moved (4 + done) 0) ≡ paste numbers 1 (drop 4 numbers) (done + 1)
shift_on numbers moved done all few e =
    let rest : done < length (drop 4 numbers) = rw (length-drop 4 numbers) (omega arith) in
    let front : length (take 1 numbers ++ take done (drop 4 numbers)) ≡ 1 + done =
    length_paste_head numbers 1 (drop 4 numbers) done (omega arith) (omega arith) in
    let place : 4 + done ≡ length (take 1 numbers ++ take done (drop 4 numbers)) + 3 = rw front (omega arith) in
    let there : 1 + done + 3 ≡ 4 + done = omega arith in
    let read : get_or moved (4 + done) 0 ≡ get_or (drop 4 numbers) done 0 =
    ap₂ (λ (l : List ℕ) (i : ℕ). get_or l i 0) e place
    ∙ get_or-append-add (take 1 numbers ++ take done (drop 4 numbers)) (drop (1 + done) numbers) 3 0
    ∙ get_or-drop (1 + done) numbers 3 0
    ∙ ap (λ (i : ℕ). get_or numbers i 0) there
    ∙ sym (get_or-drop 4 numbers done 0) in
    ap₂ (λ (l : List ℕ) (x : ℕ). set l (1 + done) x) e read
    ∙ paste-suc numbers 1 (drop 4 numbers) done 0 (omega arith) rest
    ∙ ap (λ (k : ℕ). paste numbers 1 (drop 4 numbers) k) (sym (add-one done))
