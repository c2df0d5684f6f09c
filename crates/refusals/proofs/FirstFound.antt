-- `first_applies`, told as statements about the order itself: which refusals stand before the one that is answered. Assumes nothing.
use Rattle.std.specs.Prelude.{◌≡◌, ◌∷◌, ◌++◌}
use Rattle.laws.specs.Usual.{[], refl, sym, ap, ◌∙◌, Bool, true, false, cond, List, ℕ, arith}
use mathlib.Core.List.{Memᴰ}
use Rattle.frame_refusals.specs.Refusals.{order}
use Rattle.station.specs.Rules.Calls.{Call, refused_by, unrefused, verdict}
use Rattle.frame.specs.declared.Refusal.{Refusal}
use Rattle.station.specs.declared.Station.{Station}
use Rattle.refusals.specs.Applies.{applies, first_of}
use Rattle.refusals.proofs.FirstApplies.{first_applies}

-- no refusal of a list meets a test
abbrev pub None : (Refusal → Bool) → List Refusal → Type 0
None test list = (refusal : Refusal) → Memᴰ refusal list → test refusal ≡ false

-- a refusal of a list meets it, and none that stands before it does
pub record First (test : Refusal → Bool) (list : List Refusal) (refusal : Refusal) : Type 0 where
  pub before : List Refusal
  pub later : List Refusal
  pub split : list ≡ before ++ (refusal ∷ later)
  pub earlier : None test before
  pub itself : test refusal ≡ true

module _ (test : Refusal → Bool) where
  none_more : (head : Refusal) (list : List Refusal) → test head ≡ false → None test list → None test (head ∷ list)
  none_more head list p none refusal (Memᴰ.head same) = ap test same ∙ p
  none_more head list p none refusal (Memᴰ.tail m) = none refusal m

  found_first : (list : List Refusal) (refusal : Refusal) → first_of test list ≡ refused_by refusal → First test list refusal
  found_first [] refusal e = let z : ◌≡◌ {A = ℕ} 0 1 = cc in absurd (omega arith)
  found_first (head ∷ list) refusal e = by (test head) refl e (found_first list refusal)
    where
      by : (t : Bool) → test head ≡ t → cond t (refused_by head) (first_of test list) ≡ refused_by refusal
          → (first_of test list ≡ refused_by refusal → First test list refusal) → First test (head ∷ list) refusal
      by true p e rest =
          let same : head ≡ refusal = cc in
          record {
            before = [];
            later = list;
            split = ap (λ (r : Refusal). r ∷ list) same;
            earlier = λ other m. elim m [ ];
            itself = ap test (sym same) ∙ p;
          }
      by false p e rest =
          let first = rest e in
          record {
            before = head ∷ first.before;
            later = first.later;
            split = ap (λ (l : List Refusal). head ∷ l) first.split;
            earlier = none_more head first.before p first.earlier;
            itself = first.itself;
          }

  found_none : (list : List Refusal) → first_of test list ≡ unrefused → None test list
  found_none [] e = λ refusal m. elim m [ ]
  found_none (head ∷ list) e = by (test head) refl e (found_none list)
    where
      by : (t : Bool) → test head ≡ t → cond t (refused_by head) (first_of test list) ≡ unrefused → (first_of test list ≡ unrefused → None test list)
          → None test (head ∷ list)
      by true p e rest = let z : ◌≡◌ {A = ℕ} 0 1 = cc in absurd (omega arith)
      by false p e rest = none_more head list p (rest e)

  -- the refusals of a list that do not meet the test are passed over
  passed_over : (before list : List Refusal) → None test before → first_of test (before ++ list) ≡ first_of test list
  passed_over [] list none = refl
  passed_over (head ∷ before) list none =
      rw (none head (Memᴰ.head refl)) (passed_over before list (λ refusal m. none refusal (Memᴰ.tail m)))

module _ (station : Station) (call : Call) where
  abbrev test : Refusal → Bool
  test refusal = applies refusal station call

  -- A call that is refused answers the first refusal in the order that applies,
  pub refused_first : (refusal : Refusal) → verdict station call ≡ refused_by refusal → First test order refusal
  refused_first refusal e = found_first test order refusal (sym (first_applies station call) ∙ e)

  -- and a refusal that is the first to apply is answered.
  pub first_refused : (refusal : Refusal) → First test order refusal → verdict station call ≡ refused_by refusal
  first_refused refusal first =
      first_applies station call
      ∙ ap (first_of test) first.split
      ∙ passed_over test first.before (refusal ∷ first.later) first.earlier
      ∙ rw first.itself

  -- To a call that is not refused none applies,
  pub unrefused_none : verdict station call ≡ unrefused → None test order
  unrefused_none e = found_none test order (sym (first_applies station call) ∙ e)

  -- and a call to which none applies is not refused.
  pub none_unrefused : None test order → verdict station call ≡ unrefused
  none_unrefused none = first_applies station call ∙ passed_over test order [] none
