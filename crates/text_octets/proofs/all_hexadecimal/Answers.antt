-- `text_octets::all_hexadecimal` meets its contract.
use Rattle.std.proofs.Common.{rules, tests}
use Rattle.std.proofs.lemmas.Iterator.{YieldsList-from_slice}
use Rattle.std.proofs.lemmas.Iterator.Search.{all_from_yields_List}
use Rattle.std.proofs.lemmas.List.Recursion.{same_from_clauses}
use Rattle.std.specs.List.{list_all}
use Rattle.std.specs.Prelude.{◌&&◌}
use Rattle.laws.specs.Usual.{refl, ◌∙◌, Bool, ℕ}
use Rattle.text_hexadecimal.specs.Octets.{is_hexadecimal, all_hexadecimal}
use Rattle.text_octets.proofs.all_hexadecimal.Goals as goal

pub returns : goal.returns
returns c =
    all_from_yields_List is_hexadecimal _ _ _ c.all.ensures.ran (YieldsList-from_slice c.args.octets.now cc) (λ x b q k. search (rules, tests))
    ∙ same_from_clauses (list_all is_hexadecimal) all_hexadecimal (λ (x : ℕ) (t : Bool). is_hexadecimal x && t) refl (λ x xs. refl) (λ x xs. refl) c.args.octets.now
