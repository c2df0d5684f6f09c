-- `members_listing::overlaps_other` meets its contract.
use Rattle.laws.specs.Usual.{◌∙◌, rules}
use Rattle.std.proofs.lemmas.Iterator.{YieldsList-from_slice}
use Rattle.std.proofs.lemmas.Iterator.Consumers.{YieldsList-from_enumerate}
use Rattle.std.proofs.lemmas.Iterator.Search.{any_from_yields_List}
use borrow.Author.Tests.{tests}
use Rattle.members_listing.proofs.Others.{overlaps, any_overlaps}
use Rattle.members_listing.proofs.overlaps_other.Goals as goal

pub returns : goal.returns
returns c =
    let a = c.args in
    any_from_yields_List
    (overlaps a.number a.areas)
    _
    _
    _
    c.any.ensures.ran
    (YieldsList-from_enumerate (YieldsList-from_slice a.members.entries (cc)) (cc))
    (λ x b q k. search (rules, tests))
    ∙ any_overlaps 0 a.number a.areas a.members.entries
