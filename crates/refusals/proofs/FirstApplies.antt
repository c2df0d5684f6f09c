-- Order: 11, 10, 1, 2, 3, 4, 5, 6, 7, 14, 15, 8, 9, "the first that applies": what every call answers, as far as it is a refusal. Assumes
-- nothing.
use Rattle.laws.specs.Usual.{refl, sym, ap, ◌∙◌, Bool, true, false, cond, not, List, ℕ, suc, length, eqb, leb, ltb}
use Rattle.std.specs.Prelude.{Ok, Err, ◌≡◌, ◌&&◌, ◌||◌, zero}
use Rattle.std.proofs.Math.Dec.{leb-zero, leb-suc-suc, eqb-suc-zero}
use Rattle.std.proofs.Common.{leb-true, leb-false, lt-ltb, le-ltb}
use Rattle.station.specs.Rules.Asking.{Asking}
use Rattle.station.specs.Rules.Calls.{Call, start, stop, tick, hear, ask, Verdict, refused_by, unrefused, verdict, switched_verdict, heard_verdict, asked_verdict}
use Rattle.station.specs.Rules.Hearing.{Hearing, lent_right, is_taken, is_stranger, body_heard, header_heard}
use Rattle.station.proofs.RefusedLeft.{accepted_unrefused}
use Rattle.station.specs.Rules.Starting.{Switching, need}
use Rattle.station.specs.Types.{Refusal, Read}
use Rattle.station.specs.declared.Station.{Station}
use Rattle.refusals.specs.Applies.{first_applying}
use Rattle.frame.specs.declared.Refusal.TheVariants as refusals
use Rattle.frame_reading.specs.Reading as reading

-- a choice by a test that has parts is choices by its parts
module _ {A : Type 0} where
  pub by_not : (a : Bool) (x y : A) → cond (not a) x y ≡ cond a y x
  by_not true x y = refl
  by_not false x y = refl

  pub by_and : (a b : Bool) (x y : A) → cond (a && b) x y ≡ cond a (cond b x y) y
  by_and true b x y = refl
  by_and false b x y = refl

  pub by_or : (a b : Bool) (x y : A) → cond (a || b) x y ≡ cond a x (cond b x y)
  by_or true b x y = refl
  by_or false b x y = refl

-- fewer is not as many, and 0 is not more than 0
pub fewer : (a b : ℕ) → ltb a b ≡ not (leb b a)
fewer a b = by (leb b a) refl
  where
    by : (t : Bool) → leb b a ≡ t → ltb a b ≡ not t
    by true e = le-ltb a b (leb-true b a e)
    by false e = lt-ltb a b (leb-false b a e)

nought : (n : ℕ) → eqb n 0 ≡ not (ltb 0 n)
nought zero = refl
nought (suc n) = eqb-suc-zero n ∙ ap not (sym (leb-suc-suc 0 n ∙ leb-zero n))

-- every test of the rules chooses between a refusal and what comes after it
switched_choice : (test : Bool) (refusal : Refusal) (station : Station) (rest : Switching)
    → switched_verdict (need test refusal station rest).answer ≡ cond test (switched_verdict rest.answer) (refused_by refusal)
switched_choice true refusal station rest = refl
switched_choice false refusal station rest = refl

asked_choice : (test : Bool) (one other : Asking)
    → asked_verdict (cond test one other).answer ≡ cond test (asked_verdict one.answer) (asked_verdict other.answer)
asked_choice true one other = refl
asked_choice false one other = refl

heard_choice : (test : Bool) (one other : Hearing)
    → heard_verdict (cond test one other).answer ≡ cond test (heard_verdict one.answer) (heard_verdict other.answer)
heard_choice true one other = refl
heard_choice false one other = refl

-- what a hearing answers after 7, 14, 15 and 8, and after 1 to 5
module _ (station : Station) where
  body_verdict : Read → Verdict
  body_verdict (Err refusal) = refused_by refusal
  body_verdict (Ok frame) = cond (is_stranger station frame) (refused_by refusals.Stranger) unrefused

  header_verdict : ℕ → Read → Verdict
  header_verdict given (Err refusal) = refused_by refusal
  header_verdict given (Ok frame) =
      cond (is_taken station frame) (refused_by refusals.Taken) (body_verdict (reading.read_body_of given frame))

  body_choice : (test : Bool) (refusal : Refusal) (rest : Read)
      → body_verdict (reading.need test refusal rest) ≡ cond test (body_verdict rest) (refused_by refusal)
  unfolding body_verdict
  body_choice true refusal rest = refl
  body_choice false refusal rest = refl

  header_choice : (given : ℕ) (test : Bool) (refusal : Refusal) (rest : Read)
      → header_verdict given (reading.need test refusal rest) ≡ cond test (header_verdict given rest) (refused_by refusal)
  unfolding header_verdict
  header_choice given true refusal rest = refl
  header_choice given false refusal rest = refl

module _ (station : Station) (octets memory assembly : List ℕ) where
  body_verdict_lem : (read : Read) → heard_verdict (body_heard station octets memory assembly read).answer ≡ body_verdict station read
  unfolding body_verdict
  body_verdict_lem (Err refusal) = refl
  body_verdict_lem (Ok frame) =
      heard_choice (is_stranger station frame) _ _
      ∙ ap (cond (is_stranger station frame) (refused_by refusals.Stranger)) (accepted_unrefused station frame octets memory assembly)

  header_verdict_lem : (read : Read) → heard_verdict (header_heard station octets memory assembly read).answer ≡ header_verdict station (length octets) read
  unfolding header_verdict
  header_verdict_lem (Err refusal) = refl
  header_verdict_lem (Ok frame) =
      heard_choice (is_taken station frame) _ _
      ∙ ap (cond (is_taken station frame) (refused_by refusals.Taken)) (body_verdict_lem (reading.read_body_of (length octets) frame))

-- A refused call answers the first refusal in the order that applies, and a call to which none applies is not refused.
pub first_applies : (station : Station) (call : Call) → verdict station call ≡ first_applying station call
unfolding body_verdict header_verdict
first_applies station (start own) = simp (switched_choice, by_not, by_and, by_or, nought)
first_applies station stop = simp (switched_choice, by_not)
first_applies station tick = refl
first_applies station (hear octets memory assembly) =
    heard_choice (lent_right memory assembly) _ _
    ∙ ap (λ (v : Verdict). cond (lent_right memory assembly) v (refused_by refusals.Buffer))
    (header_verdict_lem station octets memory assembly (reading.read_header_of octets))
    ∙ simp (header_choice, body_choice, by_not, by_and, by_or, fewer)
first_applies station (ask memory turn output) = simp (asked_choice, by_not, by_and, by_or, fewer)
