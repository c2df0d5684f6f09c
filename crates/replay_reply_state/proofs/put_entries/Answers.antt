-- `replay_reply_state::put_entries` meets its contract.
use Rattle.std.specs.Prelude.{◌≡◌, ◌++◌, ◌+◌, ◌<◌, ◌≤◌}
use Rattle.laws.specs.Usual.{refl, sym, ap, ◌∙◌, ℕ, arith, length, get_or, take, rules}
use native.Mathlib.Numerals.{add-one}
use lib.Seq.{length-take-le, take-suc, take_all}
use Rattle.copying.specs.Laws.{paste_nothing}
use Rattle.members.specs.Members.{nobody}
use Rattle.replay_reply_state.specs.Entries.{entries_more}
use Rattle.laws.specs.Lists.{unmapped}
use Rattle.replay_reply_state.specs.State.{entry_text, entries_from}
use Rattle.replay_reply_state.specs.Room.{entries_length}
use Rattle.replay_reply_parts.specs.Written.{Written, then}
use Rattle.replay_reply_state.proofs.put_entries.Goals as goal

pub loop-number-init : goal.loop-number-init
loop-number-init c =
    let a = c.args in
    ((omega arith, sym (paste_nothing a.output.now a.at)), refl)

pub put_entry-end-requires : goal.put_entry-end-requires
put_entry-end-requires c =
    let l = c.loop-number in
    let entries = c.args.members.entries in
    let all : length entries ≡ 256 = search (rules, unmapped) in
    omega (arith, c.requires, entries_length 0 (take l.number entries), length-take-le l.number entries (omega arith), l.invariant.0.0, l.invariant.1)

pub loop-number-preserved : goal.loop-number-preserved
loop-number-preserved c =
    let a = c.args in
    let l = c.loop-number in
    let entries = a.members.entries in
    let entry = get_or entries l.number nobody in
    let long : length entries ≡ 256 = search (rules, unmapped) in
    let inside : l.number < length entries = omega arith in
    let past = take l.number entries in
    let count : length past ≡ l.number = length-take-le l.number entries (omega arith) in
    let here : 0 + length past ≡ l.number = omega arith in
    let more : entries_from 0 (take (l.number + 1) entries) ≡ entries_from 0 past ++ entry_text l.number entry =
    ap (λ (k : ℕ). entries_from 0 (take k entries)) (add-one l.number)
    ∙ ap (entries_from 0) (take-suc entries l.number nobody inside)
    ∙ entries_more 0 past entry
    ∙ ap (λ (n : ℕ). entries_from 0 past ++ entry_text n entry) here in
    let room : a.at + length (entries_from 0 past) ≤ length a.output.now = omega (arith, c.requires, entries_length 0 past) in (
      rw more (then a.output.now a.at (entries_from 0 past) (entry_text l.number entry) room l.invariant.0 (c.put_entry-end.ensures.value, c.put_entry-end.ensures.output_after)),
      c.put_entry-end.auto.output ∙ l.invariant.1,
    )

pub shape_of-output : goal.shape_of-output
shape_of-output c = c.loop-number.invariant.1

pub returns : goal.returns
returns c =
    let l = c.loop-number in
    let entries = c.args.members.entries in
    let long : length entries ≡ 256 = search (rules, unmapped) in
    let all : take l.number entries ≡ entries = take_all l.number entries (omega arith) in
    let done : Written c.args.output.now c.args.at (entries_from 0 entries) l.output l.end = rw (← all) l.invariant.0 in
    record { upper_bound = omega (arith, done.0, entries_length 0 entries); value = done.0; output_after = done.1 }
