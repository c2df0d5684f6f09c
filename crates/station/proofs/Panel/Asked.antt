-- What asking for a frame does to the panel. Assumes nothing.
use Rattle.std.specs.Prelude.{◌≡◌, ◌&&◌, ◌||◌, ◌+◌, ◌<◌}
use Rattle.laws.specs.Usual.{refl, sym, ◌∙◌, Bool, true, false, cond, not, false≢true, List, ℕ, arith, eqb, leb}
use Rattle.std.proofs.Common.{leb-true, leb-false, eq-eqb, eqb-true}
use Rattle.block.specs.Blocks.{blocks_of}
use Rattle.frame.specs.Codes.{is_token}
use Rattle.frame.specs.declared.Code.TheVariants.{Token, Cyclic}
use Rattle.panel.specs.Panel.{after_taking}
use Rattle.station.specs.Outcomes.AskCases.{triggers, requests, begins, passes, AskCases, refuses, sends}
use Rattle.station.specs.Panel.History.{passed_by, participates, writes_to_us}
use Rattle.station.specs.Rules.State.{holds}
use Rattle.station.specs.Types.{Participating, Station}
use Rattle.station.proofs.Panel.Moves.{enter, leave, stays, begin}
use Rattle.station.specs.Panel.Moves.{Moves}
use Rattle.station.specs.Rules.Asking.{Asking, is_last, next_station, block_sent, due_fields}

-- the frame has code 65000 where the block is the last
pub last_code : (block blocks : ℕ) → block < blocks → is_token (cond (eqb (block + 1) blocks) Token Cyclic) ≡ leb blocks (block + 1)
last_code block blocks room = by (leb blocks (block + 1)) refl (eqb (block + 1) blocks) refl
  where
    by : (last : Bool) → leb blocks (block + 1) ≡ last → (same : Bool) → eqb (block + 1) blocks ≡ same →
        is_token (cond same Token Cyclic) ≡ last
    by true e true d = refl
    by true e false d =
        let over = leb-true blocks (block + 1) e in
        absurd (false≢true (sym d ∙ eq-eqb (block + 1) blocks (omega arith)))
    by false e true d =
        let under = leb-false blocks (block + 1) e in
        let same = eqb-true (block + 1) blocks d in
        absurd (omega arith)
    by false e false d = refl

-- a holder sends a block
block_moves : (station : Station) → participates station ≡ true → holds station ≡ true →
    Moves station false (writes_to_us station (due_fields Participating station)) (block_sent station)
block_moves station inside held = enter refl (λ room. record {
  panel =
      rw inside
      (by (is_last station) _ (eqb (next_station station) station.own.number) (holds (block_sent station)) (holds station)
      (last_code station.block (blocks_of station.own.areas) (room inside)) held);
  room = left (is_last station) refl;
})
  where
    by : (last code to after before : Bool) → code ≡ last → before ≡ true →
        cond (last && to) (after_taking station.panel) station.panel ≡
        cond (((after && not before) || (code && to)) || false) (after_taking station.panel) station.panel
    by last code to after false c d = absurd (false≢true d)
    by true false to after true c d = absurd (false≢true c)
    by false true to after true c d = absurd (false≢true (sym c))
    by true true true true true c d = refl
    by true true true false true c d = refl
    by true true false true true c d = refl
    by true true false false true c d = refl
    by false false to true true c d = refl
    by false false to false true c d = refl

    left : (last : Bool) → is_last station ≡ last → cond last 0 (station.block + 1) < blocks_of station.own.areas
    left true e = omega arith
    left false e = leb-false (blocks_of station.own.areas) (station.block + 1) e

pub ask_moves : {station : Station} {memory turn output : List ℕ} {result : Asking} → AskCases station memory turn output result →
    Moves station false (passed_by station result.answer) result.station
ask_moves {station} (refuses refusal) = stays station
ask_moves (sends lent is (triggers e due)) = leave refl (λ clear. refl)
ask_moves (sends lent is (requests e fallen)) = leave (rw e) (λ clear. clear (rw e))
ask_moves {station} (sends lent is (begins e fallen)) = rw is (begin station false station.own station.members station.view (rw e))
ask_moves {station} (sends lent is (passes e held placed)) = rw is (block_moves station (rw e) held)
