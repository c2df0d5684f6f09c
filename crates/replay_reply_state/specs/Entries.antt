-- A law for the loop over the entries. Assumes nothing.
use Rattle.std.specs.Prelude.{◌≡◌, ◌∷◌, ◌++◌, ◌+◌}
use Rattle.laws.specs.Usual.{sym, ap, ◌∙◌, List, [], ℕ, suc, arith, length}
use Rattle.std.proofs.Common.{append_assoc, append-nil}
use Rattle.members.specs.declared.Entry.{Entry}
use Rattle.replay_reply_state.specs.State.{entry_text, entries_from}

-- one entry more at the end
pub entries_more : (number : ℕ) (entries : List Entry) (entry : Entry)
    → entries_from number (entries ++ (entry ∷ [])) ≡ entries_from number entries ++ entry_text (number + length entries) entry
entries_more number [] entry =
    let here : number ≡ number + 0 = omega arith in
    append-nil (entry_text number entry) ∙ ap (λ (n : ℕ). entry_text n entry) here
entries_more number (first ∷ rest) entry =
    let there : suc number + length rest ≡ number + suc (length rest) = omega arith in
    ap (λ (l : List ℕ). entry_text number first ++ l)
    (entries_more (suc number) rest entry ∙ ap (λ (n : ℕ). entries_from (suc number) rest ++ entry_text n entry) there)
    ∙ sym (append_assoc (entry_text number first) (entries_from (suc number) rest) (entry_text (number + suc (length rest)) entry))
