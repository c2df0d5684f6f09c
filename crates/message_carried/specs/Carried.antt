-- The oldest confirmation put into a frame, by its outcomes: nothing is owed, it does not fit, or it is put in. Assumes nothing.
use Rattle.std.specs.Prelude.{◌≡◌, ◌∷◌, ◌++◌, ◌+◌}
use Rattle.laws.specs.Usual.{refl, sym, ap, ◌∙◌, Bool, true, false, false≢true, cond, List, [], ℕ, length, take, drop, leb}
use Rattle.message.specs.declared.Confirmation.{Confirmation}
use Rattle.message_frames.specs.Confirmations.{carrying}
use Rattle.message_owed.specs.Laws.{owed_same}
use Rattle.message_owed.specs.Owing.{is_owing}
use Rattle.message_places.specs.Owed.{owed_in, kept_owed}
use Rattle.message_rules.specs.Rules.Confirming.{Carried, carried_in, with_confirmation}

module _ (owed : List Confirmation) (count : ℕ) (output : List ℕ) where
  abbrev pub untouched : Carried
  untouched = record { owed = owed; count = count; output = output }

  pub none_owed : is_owing owed ≡ false → carried_in owed count output ≡ untouched
  none_owed none = by owed none
    where
      by : (l : List Confirmation) → is_owing l ≡ false → carried_in l count output ≡ record { owed = l; count = count; output = output }
      by [] e = refl
      by (first ∷ rest) e = absurd (false≢true (sym e))

  pub no_room : leb (count + 20) (length output) ≡ false → carried_in owed count output ≡ untouched
  no_room short = by owed
    where
      by : (l : List Confirmation) → carried_in l count output ≡ record { owed = l; count = count; output = output }
      by [] = refl
      by (first ∷ rest) =
          ap (λ (t : Bool). cond t (with_confirmation first rest count output) (record { owed = first ∷ rest; count = count; output = output })) short

  pub put_in : is_owing owed ≡ true → leb (count + 20) (length output) ≡ true → (oldest : Confirmation)
      → ((first : Confirmation) (rest : List Confirmation) → owed ≡ first ∷ rest → oldest ≡ first)
      → carried_in owed count output
      ≡ record { owed = drop 1 owed; count = count + 20; output = carrying oldest (take count output) ++ drop (count + 20) output }
  put_in some room oldest is = by owed some is
    where
      by : (l : List Confirmation) → is_owing l ≡ true
          → ((first : Confirmation) (rest : List Confirmation) → l ≡ first ∷ rest → oldest ≡ first)
          → carried_in l count output
          ≡ record { owed = drop 1 l; count = count + 20; output = carrying oldest (take count output) ++ drop (count + 20) output }
      by [] e is = absurd (false≢true e)
      by (first ∷ rest) e is =
          ap (λ (t : Bool). cond t (with_confirmation first rest count output) (record { owed = first ∷ rest; count = count; output = output })) room
          ∙ ap (λ (c : Confirmation). with_confirmation c rest count output) (sym (is first rest refl))

-- the contract of the code: the count, the output and the numbers afterwards
module _ (numbers : List ℕ) (carried : Carried) where
  abbrev pub Meets : ℕ → List ℕ → List ℕ → Type 0
  Meets r output after =
      (r ≡ carried.count) × ((output ≡ carried.output) × ((owed_in after ≡ carried.owed) × (after ≡ kept_owed numbers carried.owed)))

  pub meets : (owed : List Confirmation) (r : ℕ) (output after : List ℕ) → carried ≡ record { owed = owed; count = r; output = output }
      → owed_in after ≡ owed → after ≡ kept_owed numbers owed → Meets r output after
  meets owed r output after is holds put = (
    ap (λ (k : Carried). k.count) (sym is),
    (
      ap (λ (k : Carried). k.output) (sym is),
      (holds ∙ ap (λ (k : Carried). k.owed) (sym is), put ∙ ap (λ (k : Carried). kept_owed numbers k.owed) (sym is)),
    ),
  )

  pub left_alone : (count : ℕ) (output : List ℕ) → length numbers ≡ 25 → carried ≡ untouched (owed_in numbers) count output → Meets count output numbers
  left_alone count output all is = meets (owed_in numbers) count output numbers is refl (sym (owed_same numbers all))
