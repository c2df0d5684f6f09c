-- The confirmations as an iterator over their rows of three numbers yields them, and whether one is among them. Assumes nothing.
use Rattle.laws.specs.Usual.{refl, ap, ◌∙◌, Bool, true, false, cond, List, [], ℕ, suc, arith, length, take}
use Rattle.std.specs.Prelude.{Some, None, ◌≡◌, ◌∷◌, ◌++◌, ◌||◌, ◌*◌, ◌/◌, ◌<◌, ◌≤◌, zero}
use Rattle.std.proofs.Common.{Bor, length-take-le}
use Rattle.std.specs.List.{list_any}
use Rattle.std.specs.declared.slice.ChunksExact.{ChunksExact}
use Rattle.std.specs.Slice.Iter.{chunks_exact_rest, chunks_exact_size, chunks_exact_steps}
use Rattle.std.proofs.lemmas.Iterator.{YieldsList}
use Rattle.std.proofs.lemmas.Iterator.Splits.{YieldsList-from_shown_while}
use Rattle.std.proofs.lemmas.List.Recursion.{same_from_clauses}
use Rattle.message.specs.declared.Confirmation.{Confirmation}
use Rattle.message_places.specs.Owed.{rows_in}
use Rattle.message_rules.specs.Rules.Confirming.{same_confirmation, is_owed}
use Rattle.message_owed.specs.Laws.{length_rows}
use Rattle.message_owed.specs.Owing.{confirmation_at}

-- the confirmation in a row
abbrev pub in_row : Bor (List ℕ) → Confirmation
in_row row = confirmation_at row.now 0

abbrev pub rows_left : ChunksExact ℕ → List Confirmation
rows_left rows = rows_in (length (chunks_exact_rest rows) / 3) (chunks_exact_rest rows)

row_first : (row rest : List ℕ) → length row ≡ 3 → rows_in (length (row ++ rest) / 3) (row ++ rest) ≡ confirmation_at row 0 ∷ rows_in (length rest / 3) rest
row_first [] rest three = absurd (omega arith)
row_first (a ∷ []) rest three = absurd (omega arith)
row_first (a ∷ b ∷ []) rest three = absurd (omega arith)
row_first (a ∷ b ∷ c ∷ []) rest three =
    let one_more : suc (suc (suc (length rest))) / 3 ≡ suc (length rest / 3) = omega arith in
    ap (λ (k : ℕ). rows_in k (a ∷ b ∷ c ∷ rest)) one_more
row_first (a ∷ b ∷ c ∷ d ∷ more) rest three = absurd (omega arith)

pub rows_yielded : (rows : ChunksExact ℕ) → chunks_exact_size rows ≡ 3 → YieldsList chunks_exact_steps in_row rows (rows_left rows)
rows_yielded rows three = YieldsList-from_shown_while chunks_exact_steps in_row rows_left (λ s. chunks_exact_size s ≡ 3) none some rows three
  where
    none : (s t : ChunksExact ℕ) → chunks_exact_size s ≡ 3 → chunks_exact_steps s None t → length (rows_left s) ≡ 0
    none s t size e =
        let few : length (chunks_exact_rest s) < 3 = omega (arith, e.1.0) in
        length_rows (length (chunks_exact_rest s) / 3) (chunks_exact_rest s) ∙ omega arith

    some : (s : ChunksExact ℕ) (row : Bor (List ℕ)) (t : ChunksExact ℕ) → chunks_exact_size s ≡ 3 → chunks_exact_steps s (Some row) t
        → (chunks_exact_size t ≡ 3) × (rows_left s ≡ in_row row ∷ rows_left t)
    some s row t size e =
        (e.0 ∙ size, ap (λ (l : List ℕ). rows_in (length l / 3) l) e.1.0 ∙ row_first row.now (chunks_exact_rest t) (e.1.1 ∙ size))

-- one is owed where it is among them
pub owed_any : (confirmation : Confirmation) (owed : List Confirmation) → list_any (same_confirmation confirmation) owed ≡ is_owed confirmation owed
owed_any confirmation =
    same_from_clauses (list_any (same_confirmation confirmation)) (is_owed confirmation) (λ other rest. cond (same_confirmation confirmation other) true rest)
    refl (λ other rest. either (same_confirmation confirmation other) _) (λ other rest. refl)
  where
    either : (same rest : Bool) → (same || rest) ≡ cond same true rest
    either true rest = refl
    either false rest = refl

-- the rows in front
rows_front : (count : ℕ) (numbers : List ℕ) → 3 * count ≤ length numbers → rows_in count (take (3 * count) numbers) ≡ rows_in count numbers
rows_front zero numbers h = refl
rows_front (suc count) [] h = absurd (omega arith)
rows_front (suc count) (a ∷ []) h = absurd (omega arith)
rows_front (suc count) (a ∷ b ∷ []) h = absurd (omega arith)
rows_front (suc count) (a ∷ b ∷ c ∷ rest) h =
    let three : 3 * suc count ≡ suc (suc (suc (3 * count))) = omega arith in
    ap (λ (k : ℕ). rows_in (suc count) (take k (a ∷ b ∷ c ∷ rest))) three
    ∙ ap (λ (l : List Confirmation). confirmation_at (a ∷ b ∷ c ∷ []) 0 ∷ l) (rows_front count rest (omega arith))

pub rows_whole : (count : ℕ) (numbers : List ℕ) → 3 * count ≤ length numbers
    → rows_in (length (take (3 * count) numbers) / 3) (take (3 * count) numbers) ≡ rows_in count numbers
rows_whole count numbers h =
    let many : length (take (3 * count) numbers) / 3 ≡ count = rw (length-take-le (3 * count) numbers h) (omega arith) in
    ap (λ (k : ℕ). rows_in k (take (3 * count) numbers)) many ∙ rows_front count numbers h
