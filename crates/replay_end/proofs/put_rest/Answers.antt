-- `replay_end::put_rest` meets its contract.
use Rattle.std.specs.Prelude.{◌≡◌}
use Rattle.laws.specs.Usual.{refl, sym, true, false, ltb, rules}
use borrow.Author.Tests.{lt-ltb, le-ltb}
use Rattle.copying.specs.Laws.{paste_nothing}
use Rattle.replay_end.proofs.put_rest.Goals as goal

pub returns : goal.returns
returns c =
    let nothing : ltb 0 c.args.line.count ≡ false = le-ltb 0 c.args.line.count c.if-line-gt0.false in
    rw nothing record { value = refl; text_after = sym (paste_nothing c.args.text.now 0) }
