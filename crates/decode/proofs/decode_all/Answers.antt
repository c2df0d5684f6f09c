-- `decode::decode_all` meets its contract.
use Rattle.std.specs.Prelude.{◌≡◌, ◌++◌}
use Rattle.laws.specs.Usual.{sym, ap, ◌∙◌, List, ℕ, length, take}
use Rattle.decode_line.specs.Gathering.{fresh}
use Rattle.text_feeding.specs.Feeding.{fed_all}
use Rattle.text_feeding.proofs.Fed.{fed_parts}
use Rattle.decode.specs.Capture.{Carried, carried, after, decode}
use Rattle.decode.proofs.decode_all.Goals as goal

-- a line and a buffer that some input left, where the buffer was another at the start
abbrev Came : List ℕ → Carried → Type 0
Came start now = (input : List ℕ) × (now ≡ after fresh start input)

-- some more of the input
came_more : (start more : List ℕ) (now next : Carried) → length now.frame ≡ length start → Came start now → next ≡ after now.line now.frame more → Came start next
came_more start more now next full came e = (
  came.0 ++ more,
  e ∙ ap (λ (n : ℕ). fed_all (decode n) now more) full
      ∙ ap (λ (state : Carried). fed_all (decode (length start)) state more) came.1
      ∙ sym (fed_parts (decode (length start)) came.0 more (carried fresh start)),
)

pub loop-preserved : goal.loop-preserved
loop-preserved c =
    let done = c.decode_some-going in
    record { came = came_more c.args.frame.now (take done.result.at done.new.part) (carried c.loop.line c.loop.frame) _ c.loop.auto.frame c.loop.invariant.came done.ensures.frame_after }

pub returns-then-not-going : goal.returns-then-not-going
returns-then-not-going c =
    let done = c.decode_some-going in
    came_more c.args.frame.now (take done.result.at done.new.part) (carried c.loop.line c.loop.frame) _ c.loop.auto.frame c.loop.invariant.came done.ensures.frame_after
