-- `replay_performing::Kept::hear` meets its contract.
use Rattle.std.specs.Prelude.{◌≡◌, ◌-◌}
use Rattle.laws.specs.Usual.{ap, ◌∙◌, List, ℕ, length, take, replicate}
use native.Mathlib.Nat.{sub-zero}
use Rattle.text_hexadecimal.specs.Octets.{octets_of}
use Rattle.copying.specs.Laws.{front_read}
use Rattle.copying.specs.Pasted.{pasted}
use Rattle.replay_performing.proofs.Cut.{hear_cut}
use Rattle.replay_performing.specs.Replaying.{keeping}
use Rattle.replay_replies.specs.Replies.{heard_text}
use Rattle.station.specs.Rules.Hearing.{Hearing, hear_of}
use Rattle.station.specs.declared.Station.{Station}
use Rattle.replay_performing.proofs.Kept.hear.Goals as goal

-- what is kept is kept part by part
same_kept : {s t : Station} {m n a b : List ℕ} (turn frame : List ℕ) → s ≡ t → m ≡ n → a ≡ b → keeping s m a turn frame ≡ keeping t n b turn frame
same_kept turn frame p q r = rw (p, q, r)

pub returns : goal.returns
returns c =
    let told = c.unspell-count.ensures in
    let done = c.hear-hearing.ensures in
    let text = c.put_heard.ensures in
    let a = c.args in
    let before = a.self.now in
    let octets = octets_of a.digits.now in
    let part = ap (take (c.unspell-count.result - 0)) told.output_after ∙ front_read (replicate 1121 0) (take 1121 octets) (c.unspell-count.result - 0) (sub-zero c.unspell-count.result ∙ told.value) in
    let whole = ap (λ (o : List ℕ). hear_of before.station o before.memory before.assembly) part ∙ hear_cut before.station octets before.memory before.assembly in
    let same = ap heard_text (done.answer_value ∙ ap (λ (h : Hearing). h.answer) whole) in
    record {
      kept_after = same_kept before.turn before.frame (done.station_value ∙ ap (λ (h : Hearing). h.station) whole)
          (done.memory_after ∙ ap (λ (h : Hearing). h.memory) whole) (done.assembly_after ∙ ap (λ (h : Hearing). h.assembly) whole);
      length_value = text.value ∙ ap length same;
      answer_after = text.output_after ∙ ap (pasted a.answer.now 0) same;
    }
