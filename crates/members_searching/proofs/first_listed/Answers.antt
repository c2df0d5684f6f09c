-- `members_searching::first_listed` meets its contract.
use Rattle.laws.specs.Usual.{◌∙◌, drop, rules}
use Rattle.std.specs.Prelude.{◌≡◌}
use Rattle.std.specs.List.{position}
use Rattle.std.proofs.lemmas.Iterator.{YieldsList-from_slice}
use Rattle.std.proofs.lemmas.Iterator.Adapters.{YieldsList-from_skip}
use Rattle.std.proofs.lemmas.Iterator.Search.{position_from_yields_List}
use borrow.Author.Tests.{tests}
use Rattle.members_searching.proofs.Placed.{listed, first_placed}
use Rattle.members_searching.proofs.first_listed.Goals as goal

pub returns-in_err-behind : goal.returns-in_err-behind
returns-in_err-behind c =
    let entries = c.args.members.entries in
    let found : c.position.result ≡ position listed (drop c.args.from entries) =
    position_from_yields_List listed _ _ _ c.position.ensures.ran (YieldsList-from_skip _ (YieldsList-from_slice entries (cc)) (cc)) (λ x b q k. search (rules, tests)) in
    c.from_residual.ensures ∙ rw (first_placed, ← found, c.in_err-behind.was)

pub returns : goal.returns
returns c =
    let entries = c.args.members.entries in
    let found : c.position.result ≡ position listed (drop c.args.from entries) =
    position_from_yields_List listed _ _ _ c.position.ensures.ran (YieldsList-from_skip _ (YieldsList-from_slice entries (cc)) (cc)) (λ x b q k. search (rules, tests)) in
    rw (first_placed, ← found, c.in_ok-behind.was)
