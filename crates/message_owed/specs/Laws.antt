-- The confirmations owed as numbers: what is put into them is what they hold then, and what they hold already changes none of them. Assumes nothing.
use Rattle.laws.specs.Usual.{refl, sym, ap, ap₂, ◌∙◌, Bool, true, false, cond, not, List, [], ℕ, suc, arith, length, get_or, take, drop, eqb, ltb}
use Rattle.std.specs.Prelude.{◌≡◌, ◌∷◌, ◌++◌, ◌+◌, ◌*◌, ◌/◌, ◌<◌, ◌≤◌, zero}
use borrow.Author.Tests.{eq-eqb, eqb-true, le-ltb, lt-ltb, ltb-false}
use Rattle.std.proofs.Common.{length-append, take-append-drop}
use Rattle.low_parts.specs.Parts.{octet}
use Rattle.message.specs.declared.Confirmation.{Confirmation}
use Rattle.message_places.specs.Owed.{confirmation_by, head_of, rows_in, count_in, owed_in, rows_of, with_count, kept_owed}
use Rattle.message_rules.specs.Rules.Confirming.{is_owed, owing, is_full}
use Rattle.message_owed.specs.Owing.{owing_where_free}

-- as many as the first number says
pub length_rows : (count : ℕ) (numbers : List ℕ) → length (rows_in count numbers) ≡ count
length_rows zero numbers = refl
length_rows (suc count) numbers = ap suc (length_rows count (drop 3 numbers))

pub length_owed : (numbers : List ℕ) → length (owed_in numbers) ≡ count_in (get_or numbers 0 0)
unfolding owed_in
length_owed numbers = length_rows (count_in (get_or numbers 0 0)) (drop 1 numbers)

pub at_most_eight : (numbers : List ℕ) → length (owed_in numbers) ≤ 8
at_most_eight numbers = rw (length_owed numbers) (omega arith)

-- the first number of a confirmation is made of its parts again
head_again : (head version number : ℕ) → head_of (confirmation_by head version number) ≡ head
head_again head version number = omega arith

-- the numbers of so many confirmations are those that they were read from
pub rows_again : (count : ℕ) (numbers : List ℕ) → 3 * count ≤ length numbers → rows_of (rows_in count numbers) ≡ take (3 * count) numbers
rows_again zero numbers h = refl
rows_again (suc count) [] h = absurd (omega arith)
rows_again (suc count) (a ∷ []) h = absurd (omega arith)
rows_again (suc count) (a ∷ b ∷ []) h = absurd (omega arith)
rows_again (suc count) (a ∷ b ∷ c ∷ rest) h =
    let three : 3 * suc count ≡ suc (suc (suc (3 * count))) = omega arith in
    ap₂ (λ (head : ℕ) (behind : List ℕ). head ∷ b ∷ c ∷ behind) (head_again a b c) (rows_again count rest (omega arith))
    ∙ ap (λ (k : ℕ). take k (a ∷ b ∷ c ∷ rest)) (sym three)

-- What the numbers hold already changes none of them.
pub owed_same : (numbers : List ℕ) → length numbers ≡ 25 → kept_owed numbers (owed_in numbers) ≡ numbers
unfolding kept_owed owed_in
owed_same [] all = absurd (omega arith)
owed_same (number ∷ rows) all =
    ap (λ (k : ℕ). with_count number k ∷ (rows_of (rows_in (count_in number) rows) ++ drop (3 * k) rows)) (length_rows (count_in number) rows)
    ∙ ap₂ (λ (same : Bool) (front : List ℕ). cond same number (count_in number) ∷ (front ++ drop (3 * count_in number) rows))
    (eq-eqb (count_in number) (count_in number) refl)
    (rows_again (count_in number) rows (omega arith))
    ∙ ap (λ (behind : List ℕ). number ∷ behind) (take-append-drop (3 * count_in number) rows)

-- the status and the source of each are octets
pub data Octets : List Confirmation → Type 0 where
  none : Octets []
  more : {confirmation : Confirmation} {rest : List Confirmation} → confirmation.status < 256 → confirmation.source < 256 → Octets rest
      → Octets (confirmation ∷ rest)

octets_rows : (count : ℕ) (numbers : List ℕ) → Octets (rows_in count numbers)
octets_rows zero numbers = none
octets_rows (suc count) numbers =
    let status : octet (get_or numbers 0 0) < 256 = omega arith in
    let source : octet (get_or numbers 0 0 / 256) < 256 = omega arith in
    more {confirmation = confirmation_by (get_or numbers 0 0) (get_or numbers 1 0) (get_or numbers 2 0)} status source (octets_rows count (drop 3 numbers))

pub octets_owed : (numbers : List ℕ) → Octets (owed_in numbers)
unfolding owed_in
octets_owed numbers = octets_rows (count_in (get_or numbers 0 0)) (drop 1 numbers)

pub octets_dropped : (owed : List Confirmation) → Octets owed → Octets (drop 1 owed)
octets_dropped [] octets = none
octets_dropped (confirmation ∷ rest) (more status source octets) = octets

module _ (confirmation : Confirmation) (status : confirmation.status < 256) (source : confirmation.source < 256) where
  octets_behind : (owed : List Confirmation) → Octets owed → Octets (owed ++ (confirmation ∷ []))
  octets_behind [] octets = more status source none
  octets_behind (other ∷ rest) (more a b octets) = more a b (octets_behind rest octets)

  pub octets_free : (owed : List Confirmation) → Octets owed → Octets (owing_where_free confirmation owed)
  unfolding owing_where_free
  octets_free owed octets = by (is_full confirmation owed) (is_owed confirmation owed)
    where
      by : (full there : Bool) → Octets (cond full owed (cond there owed (owed ++ (confirmation ∷ []))))
      by true there = octets
      by false true = octets
      by false false = octets_behind owed octets

row_back : (c : Confirmation) → c.status < 256 → c.source < 256 → confirmation_by (head_of c) c.version c.number ≡ c
row_back c status source =
    let first : octet (head_of c) ≡ c.status = omega arith in
    let from_second : head_of c / 256 ≡ c.source + 256 * c.code = omega arith in
    let second : octet (head_of c / 256) ≡ c.source = rw from_second (omega arith) in
    let above : head_of c / 65536 ≡ c.code = omega arith in
    rw (first, second, above)

rows_back : (owed : List Confirmation) (behind : List ℕ) → Octets owed → rows_in (length owed) (rows_of owed ++ behind) ≡ owed
rows_back [] behind octets = refl
rows_back (confirmation ∷ rest) behind (more status source octets) = ap₂ ◌∷◌ (row_back confirmation status source) (rows_back rest behind octets)

count_back : (number count : ℕ) → count ≤ 8 → count_in (with_count number count) ≡ count
count_back number count few = by (eqb (count_in number) count) refl
  where
    by : (same : Bool) → eqb (count_in number) count ≡ same → count_in (cond same number count) ≡ count
    by true e = eqb-true (count_in number) count e
    by false e = omega arith

-- What is put into the numbers is what they hold then.
pub owed_back : (numbers : List ℕ) (owed : List Confirmation) → length owed ≤ 8 → Octets owed → owed_in (kept_owed numbers owed) ≡ owed
unfolding kept_owed owed_in
owed_back numbers owed few octets =
    ap (λ (k : ℕ). rows_in k (rows_of owed ++ drop (3 * length owed) (drop 1 numbers))) (count_back (get_or numbers 0 0) (length owed) few)
    ∙ rows_back owed (drop (3 * length owed) (drop 1 numbers)) octets

-- whether one more would be the ninth, and what is owed with it
module _ (confirmation : Confirmation) (owed : List Confirmation) where
  abbrev with_one : Bool → List Confirmation
  with_one there = cond there owed (owed ++ (confirmation ∷ []))

  pub full_few : length owed < 8 → is_full confirmation owed ≡ false
  full_few few = by (is_owed confirmation owed)
    where
      by : (there : Bool) → ltb 8 (length (with_one there)) ≡ false
      by true = le-ltb 8 (length owed) (omega arith)
      by false = le-ltb 8 (length (owed ++ (confirmation ∷ []))) (rw (length-append owed (confirmation ∷ [])) (omega arith))

  full_there : is_owed confirmation owed ≡ true → length owed ≤ 8 → is_full confirmation owed ≡ false
  full_there there few = ap (λ (t : Bool). ltb 8 (length (with_one t))) there ∙ le-ltb 8 (length owed) few

  full_new : is_owed confirmation owed ≡ false → 8 ≤ length owed → is_full confirmation owed ≡ true
  full_new new many =
      ap (λ (t : Bool). ltb 8 (length (with_one t))) new
      ∙ lt-ltb 8 (length (owed ++ (confirmation ∷ []))) (rw (length-append owed (confirmation ∷ [])) (omega arith))

  pub full_eight : length owed ≡ 8 → not (is_owed confirmation owed) ≡ is_full confirmation owed
  full_eight eight = by (is_owed confirmation owed) refl
    where
      by : (there : Bool) → is_owed confirmation owed ≡ there → not there ≡ is_full confirmation owed
      by true e = sym (full_there e (omega arith))
      by false e = sym (full_new e (omega arith))

  pub free_there : is_owed confirmation owed ≡ true → owing_where_free confirmation owed ≡ owed
  unfolding owing_where_free
  free_there there = ap (λ (t : Bool). cond (is_full confirmation owed) owed (with_one t)) there ∙ by (is_full confirmation owed)
    where
      by : (full : Bool) → cond full owed owed ≡ owed
      by true = refl
      by false = refl

  pub free_full : is_owed confirmation owed ≡ false → 8 ≤ length owed → owing_where_free confirmation owed ≡ owed
  unfolding owing_where_free
  free_full new many = ap (λ (t : Bool). cond t owed (owing confirmation owed)) (full_new new many)

  pub free_new : is_owed confirmation owed ≡ false → length owed < 8 → owing_where_free confirmation owed ≡ owed ++ (confirmation ∷ [])
  unfolding owing_where_free
  free_new new few = ap (λ (t : Bool). cond t owed (owing confirmation owed)) (full_few few) ∙ ap with_one new

  pub free_eight : length owed ≤ 8 → length (owing_where_free confirmation owed) ≤ 8
  unfolding owing_where_free
  free_eight few = by (is_full confirmation owed) refl
    where
      by : (full : Bool) → is_full confirmation owed ≡ full → length (cond full owed (owing confirmation owed)) ≤ 8
      by true e = few
      by false e = ltb-false 8 (length (owing confirmation owed)) e
