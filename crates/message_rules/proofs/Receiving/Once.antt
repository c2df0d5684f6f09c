-- "A repeat is handed to the host once": between two handings over of one source, kind, version and number lies one of that source and kind with another
-- number, or another version of that source was registered, or the station was turned off. Assumes nothing.
use Rattle.laws.specs.Usual.{[], refl, sym, ap, ap₂, subst, ◌∙◌, Bool, true, false, cond, not, false≢true, List, ℕ, arith, length, eqb, leb}
use Rattle.std.specs.Prelude.{◌≡◌, ◌||◌, ◌∷◌, ◌<◌, ◌⊎◌}
use Rattle.std.proofs.Common.{inl, inr, length-set, get_or-set_same, get_or-set_other, eqb-true, leb-true}
use Rattle.std.proofs.Math.Decide.{ℕ_discrete}
use Rattle.std.proofs.lemmas.Bool.{eqb-false}
use Rattle.laws.specs.Tests.{second}
use Rattle.message.specs.declared.Delivery.{Delivery}
use Rattle.message.specs.declared.Judged.{Judged}
use Rattle.message.specs.declared.Judged.TheVariants.{Abnormal, OtherVersion, Repeat, New}
use Rattle.message.specs.declared.Letter.{Letter}
use Rattle.message_rules.specs.Ring.Reached.{Reachable, unstarted, called}
use Rattle.message_frames.specs.Frames.{letter_in}
use Rattle.message_rules.proofs.Receiving.Sources.{sources_move}
use Rattle.message_rules.specs.Receiving.Sources.{Judging, SourcesMove, kept, judges, turns}
use Rattle.message_rules.specs.Rules.Calls.{Both, Call, hear, after, Hearing, hear_of, letter_heard, frame_heard}
use Rattle.message_rules.specs.Rules.Hearing.{is_letter, judge, known_after, answer_to, judgement_of, message_heard}
use Rattle.message_rules.proofs.Outcomes.{letter_cases, letter_taken}
use Rattle.message_rules.specs.Outcomes.{LetterCases, refuses, turns_off, off, passes, holds, takes}
use Rattle.message_rules.specs.Rules.State.{Known, Sources, Messages, known_of, with_known}
use Rattle.settling.specs.Steps.{after_all}
use Rattle.station.specs.Rules.State.{is_off}
use Rattle.station.specs.declared.Heard.{Heard}
use Rattle.message_rules.specs.Receiving.Once.{kind_of, HandsOver, hands, registers, Disturbs, another, version, switched, Lies, here, later, Long, last, Remembers, JudgeCases, abnormal, otherwise, repeats, new, eqb_kind}
use Rattle.message.specs.declared.Received.TheVariants as received
use Rattle.message_rules.specs.Rules.Calls as calls
use Rattle.message_rules.specs.Rules.Hearing as letters
use Rattle.station.specs.Rules.Calls as base
use Rattle.station.specs.Rules.Hearing as hearing

long_with : (sources : Sources) (source : ℕ) (known : Known) → Long sources → Long (with_known sources source known)
long_with sources source known long = record {
  versions = length-set sources.versions source known.version ∙ long.versions;
  one_to_one = length-set sources.one_to_one source known.one_to_one ∙ long.one_to_one;
  to_all = length-set sources.to_all source known.to_all ∙ long.to_all;
}

long_moves : {both : Both} {call : Call} {left : Both} → SourcesMove both call left → Long both.messages.sources → Long left.messages.sources
long_moves (kept e) long = subst Long (sym e) long
long_moves {both} (judges octets memory assembly judging e answer) long = subst Long (sym e) (long_with both.messages.sources _ _ long)
long_moves (turns e change) long = subst Long (sym e) (record { versions = refl; one_to_one = refl; to_all = refl })

-- in every state that calls can leave
long_reached : {both : Both} → Reachable both → Long both.messages.sources
long_reached unstarted = record { versions = refl; one_to_one = refl; to_all = refl }
long_reached (called {both} call reached typed) = long_moves (sources_move both call) (long_reached reached)

-- what is noted of a source is found again, and of another nothing changes
known_same : (sources : Sources) (source : ℕ) (known : Known) → Long sources → source < 256 → known_of (with_known sources source known) source ≡ known
known_same sources source known long small = rw (
  get_or-set_same sources.versions source known.version 0 (rw long.versions small),
  get_or-set_same sources.one_to_one source known.one_to_one 0 (rw long.one_to_one small),
  get_or-set_same sources.to_all source known.to_all 0 (rw long.to_all small),
)

known_other : (sources : Sources) (source other : ℕ) (known : Known) → ¬ (other ≡ source) → known_of (with_known sources source known) other ≡ known_of sources other
known_other sources source other known different = rw (
  get_or-set_other sources.versions source other known.version 0 different,
  get_or-set_other sources.one_to_one source other known.one_to_one 0 different,
  get_or-set_other sources.to_all source other known.to_all 0 different,
)

judge_cases : (known : Known) (letter : Letter) → JudgeCases known letter (judge known letter)
judge_cases known letter =
    by (eqb letter.version 0) refl (eqb letter.number 0) refl (eqb known.version 0) refl (eqb known.version letter.version) refl
    (eqb letter.number (last (kind_of letter) known)) refl
  where
    by : (a : Bool) → eqb letter.version 0 ≡ a → (b : Bool) → eqb letter.number 0 ≡ b → (c : Bool) → eqb known.version 0 ≡ c
        → (d : Bool) → eqb known.version letter.version ≡ d → (f : Bool) → eqb letter.number (last (kind_of letter) known) ≡ f
        → JudgeCases known letter (cond (a || b) Abnormal (cond (not (c || d)) OtherVersion (cond f Repeat New)))
    by true p b q c r d s f t = abnormal
    by false p true q c r d s f t = abnormal
    by false p false q true r d s true t = repeats
    by false p false q true r d s false t = new (eqb-false _ _ p) (eqb-false _ _ q) (inl (eqb-true _ _ r)) (eqb-false _ _ t)
    by false p false q false r true s true t = repeats
    by false p false q false r true s false t = new (eqb-false _ _ p) (eqb-false _ _ q) (inr (eqb-true _ _ s)) (eqb-false _ _ t)
    by false p false q false r false s f t = otherwise

-- only a new message is handed over
only_new : (judged : Judged) (letter : Letter) {delivery : Delivery} → answer_to judged letter ≡ received.Message delivery → judged ≡ New
only_new Abnormal letter e = let z : ◌≡◌ {A = ℕ} 0 1 = cc in absurd (omega arith)
only_new OtherVersion letter e = let z : ◌≡◌ {A = ℕ} 0 1 = cc in absurd (omega arith)
only_new Repeat letter e = let z : ◌≡◌ {A = ℕ} 0 1 = cc in absurd (omega arith)
only_new New letter e = refl

not_told : {answer : Heard} {delivery : Delivery} → received.Told answer ≡ received.Message delivery → ⊥
not_told e = let z : ◌≡◌ {A = ℕ} 0 1 = cc in omega arith

module _ (both : Both) (octets memory assembly : List ℕ) (is : is_letter octets memory assembly ≡ true) {delivery : Delivery} where
  handed_by : {result : letters.Hearing} → LetterCases both.ring both.messages (length octets) (letter_in octets) result
      → result.answer ≡ received.Message delivery → Judging both octets memory assembly × (judgement_of both.messages (letter_in octets) ≡ New)
  handed_by (refuses refusal) e = absurd (not_told e)
  handed_by (turns_off address six out) e = absurd (not_told e)
  handed_by (off out) e = absurd (not_told e)
  handed_by (passes accepts others) e = absurd (not_told e)
  handed_by (holds accepts ours ninth) e = absurd (not_told e)
  handed_by (takes accepts ours room) e =
      (record { letter = is; accepts = accepts; ours = ours; room = room }, only_new (judgement_of both.messages (letter_in octets)) (letter_in octets) e)

  -- what is handed over was judged, and is new
  pub handed_new : (hear_of both octets memory assembly).answer ≡ received.Message delivery
      → Judging both octets memory assembly × (judgement_of both.messages (letter_in octets) ≡ New)
  handed_new e =
      handed_by (letter_cases both.ring both.messages (length octets) (letter_in octets))
      (ap (λ (test : Bool). (cond test (letter_heard (message_heard both.ring both.messages octets) memory assembly) (hear_frame)).answer) (sym is) ∙ e)
    where
      hear_frame : Hearing
      hear_frame = frame_heard both octets (hearing.hear_of both.ring octets memory assembly) (calls.takes both.ring (base.hear octets memory assembly))

-- a source that a message is taken from is an octet
small_source : {both : Both} {octets memory assembly : List ℕ} → Judging both octets memory assembly → (letter_in octets).source < 256
small_source {octets = octets} judging =
    let station = leb-true (letter_in octets).source 254 (second (leb 1 (letter_in octets).source) _ judging.accepts.address) in omega arith

same_kind : (a b : Bool) → eqb_kind a b ≡ true → a ≡ b
same_kind true true e = refl
same_kind true false e = absurd (false≢true e)
same_kind false true e = absurd (false≢true e)
same_kind false false e = refl

-- what is noted of a new message, and what of the other kind stays
last_noted : (known : Known) (letter : Letter) → last (kind_of letter) (known_after New known letter) ≡ letter.number
last_noted known letter = by (kind_of letter)
  where
    by : (kind : Bool) → cond kind (cond kind letter.number known.to_all) (cond kind known.one_to_one letter.number) ≡ letter.number
    by true = refl
    by false = refl

last_kept : (known : Known) (letter : Letter) (kind : Bool) → eqb_kind (kind_of letter) kind ≡ false → last kind (known_after New known letter) ≡ last kind known
last_kept known letter kind e = by (kind_of letter) kind e
  where
    by : (a k : Bool) → eqb_kind a k ≡ false → cond k (cond a letter.number known.to_all) (cond a known.one_to_one letter.number)
        ≡ cond k known.to_all known.one_to_one
    by true true e = absurd (false≢true (sym e))
    by true false e = refl
    by false true e = refl
    by false false e = absurd (false≢true (sym e))

module _ (source : ℕ) (kind : Bool) (version_is number : ℕ) (some : ¬ (version_is ≡ 0)) where
  -- a message of that source was judged
  judged_keeps : {both : Both} {octets memory assembly : List ℕ} → Long both.messages.sources → Judging both octets memory assembly
      → (letter_in octets).source ≡ source → Remembers source kind version_is number both.messages.sources
      → (hear_of both octets memory assembly).answer ≡ answer_to (judgement_of both.messages (letter_in octets)) (letter_in octets)
      → (judged : Judged) → judgement_of both.messages (letter_in octets) ≡ judged
      → JudgeCases (known_of both.messages.sources (letter_in octets).source) (letter_in octets) judged
      → Disturbs source kind number both (hear octets memory assembly)
      ⊎ Remembers source kind version_is number
      (with_known both.messages.sources (letter_in octets).source (known_after judged (known_of both.messages.sources (letter_in octets).source) (letter_in octets)))
  judged_keeps {both} {octets} {memory} {assembly} long judging e remembers answer judged j how = by judged j how
    where
      sources : Sources
      sources = both.messages.sources

      known : Known
      known = known_of sources (letter_in octets).source

      was : Remembers source kind version_is number sources → Remembers (letter_in octets).source kind version_is number sources
      was r = subst (λ (x : ℕ). Remembers x kind version_is number sources) (sym e) r

      noted : (after_is : Known) → after_is.version ≡ version_is → last kind after_is ≡ number
          → Remembers source kind version_is number (with_known sources (letter_in octets).source after_is)
      noted after_is v n =
          let same = known_same sources (letter_in octets).source after_is long (small_source judging) in
          subst (λ (x : ℕ). Remembers x kind version_is number (with_known sources (letter_in octets).source after_is)) e
          (record { is_version = ap (λ (k : Known). k.version) same ∙ v; is_number = ap (last kind) same ∙ n })

      by : (judged : Judged) → judgement_of both.messages (letter_in octets) ≡ judged → JudgeCases known (letter_in octets) judged
          → Disturbs source kind number both (hear octets memory assembly)
          ⊎ Remembers source kind version_is number (with_known sources (letter_in octets).source (known_after judged known (letter_in octets)))
      by Abnormal j abnormal = inr (noted known (was remembers).is_version (was remembers).is_number)
      by OtherVersion j otherwise = inl (version (letter_in octets) (registers octets memory assembly judging j) e)
      by Repeat j repeats = inr (noted known (was remembers).is_version (was remembers).is_number)
      by New j (new v n which other) = kinds (eqb_kind (kind_of (letter_in octets)) kind) refl
        where
          same_version : (letter_in octets).version ≡ version_is
          same_version = of which
            where
              of : (known.version ≡ 0) ⊎ (known.version ≡ (letter_in octets).version) → (letter_in octets).version ≡ version_is
              of (inl zero_is) = absurd (some (sym (was remembers).is_version ∙ zero_is))
              of (inr same) = sym same ∙ (was remembers).is_version

          kinds : (same : Bool) → eqb_kind (kind_of (letter_in octets)) kind ≡ same
              → Disturbs source kind number both (hear octets memory assembly)
              ⊎ Remembers source kind version_is number (with_known sources (letter_in octets).source (known_after New known (letter_in octets)))
          kinds true k =
              inl (another (letter_in octets)
              (hands octets memory assembly judging.letter (answer ∙ ap (λ (d : Judged). answer_to d (letter_in octets)) j))
              e (same_kind (kind_of (letter_in octets)) kind k)
              (λ same. other (same ∙ sym (was remembers).is_number
              ∙ ap (λ (a : Bool). last a known) (sym (same_kind (kind_of (letter_in octets)) kind k)))))
          kinds false k = inr (noted (known_after New known (letter_in octets)) same_version (last_kept known (letter_in octets) kind k ∙ (was remembers).is_number))

  -- one call
  step_keeps : {both left : Both} {call : Call} → SourcesMove both call left → left ≡ after both call → Long both.messages.sources
      → Remembers source kind version_is number both.messages.sources
      → Disturbs source kind number both call ⊎ Remembers source kind version_is number left.messages.sources
  step_keeps (kept e) is long remembers = inr (subst (Remembers source kind version_is number) (sym e) remembers)
  step_keeps (turns e change) is long remembers = inl (switched (ap (λ (b : Both). is_off b.ring.phase) (sym is) ∙ change))
  step_keeps {both} (judges octets memory assembly judging e answer) is long remembers =
      subst (λ (s : Sources). Disturbs source kind number both (hear octets memory assembly) ⊎ Remembers source kind version_is number s) (sym e)
      (of (ℕ_discrete (letter_in octets).source source))
    where
      known : Known
      known = known_of both.messages.sources (letter_in octets).source

      noted : Sources
      noted =
          with_known both.messages.sources (letter_in octets).source
          (known_after (judgement_of both.messages (letter_in octets)) known (letter_in octets))

      of : Dec ((letter_in octets).source ≡ source) → Disturbs source kind number both (hear octets memory assembly) ⊎ Remembers source kind version_is number noted
      of (yes same) =
          judged_keeps long judging same remembers answer (judgement_of both.messages (letter_in octets)) refl (judge_cases known (letter_in octets))
      of (no other) =
          let stays = known_other both.messages.sources (letter_in octets).source source
          (known_after (judgement_of both.messages (letter_in octets)) known (letter_in octets)) (λ p. other (sym p)) in
          inr (record {
            is_version = ap (λ (k : Known). k.version) stays ∙ remembers.is_version;
            is_number = ap (last kind) stays ∙ remembers.is_number;
          })

  -- a message that is remembered is not handed over
  not_handed : {both : Both} {call : Call} {letter : Letter} → Remembers source kind version_is number both.messages.sources → HandsOver both call letter
      → letter.source ≡ source → kind_of letter ≡ kind → letter.number ≡ number → ⊥
  not_handed {both} remembers (hands octets memory assembly is e) source_is kind_is number_is =
      let found = handed_new both octets memory assembly is e in
      by (subst (JudgeCases (known_of both.messages.sources (letter_in octets).source) (letter_in octets)) found.1
      (judge_cases (known_of both.messages.sources (letter_in octets).source) (letter_in octets)))
    where
      by : JudgeCases (known_of both.messages.sources (letter_in octets).source) (letter_in octets) New → ⊥
      by (new v n which other) =
          other (number_is ∙ sym remembers.is_number
          ∙ ap₂ (λ (k : Bool) (x : ℕ). last k (known_of both.messages.sources x)) (sym kind_is) (sym source_is))

  between : {both : Both} (calls : List Call) {call : Call} {letter : Letter} → Long both.messages.sources
      → Remembers source kind version_is number both.messages.sources → HandsOver (after_all after both calls) call letter
      → letter.source ≡ source → kind_of letter ≡ kind → letter.number ≡ number → Lies source kind number both calls
  between [] long remembers hands_over s k n = absurd (not_handed remembers hands_over s k n)
  between {both} (one ∷ calls) long remembers hands_over s k n =
      by (step_keeps (sources_move both one) refl long remembers) (λ still. between {both = after both one} calls (long_moves (sources_move both one) long) still hands_over s k n)
    where
      by : Disturbs source kind number both one ⊎ Remembers source kind version_is number (after both one).messages.sources
          → (Remembers source kind version_is number (after both one).messages.sources → Lies source kind number (after both one) calls)
          → Lies source kind number both (one ∷ calls)
      by (inl disturbs) rest = here disturbs
      by (inr still) rest = later (rest still)

-- what a message that was judged leaves
pub judged_left : {both : Both} {octets memory assembly : List ℕ} → Judging both octets memory assembly
    → (after both (hear octets memory assembly)).messages ≡ letters.judged both.messages (judgement_of both.messages (letter_in octets)) (letter_in octets)
judged_left {both} {octets} {memory} {assembly} judging =
    ap (λ (test : Bool). (cond test (letter_heard (message_heard both.ring both.messages octets) memory assembly) hear_frame).both.messages) judging.letter
    ∙ ap (λ (h : letters.Hearing). h.messages)
    (letter_taken both.ring both.messages (length octets) (letter_in octets) judging.accepts judging.ours judging.room)
  where
    hear_frame : Hearing
    hear_frame = frame_heard both octets (hearing.hear_of both.ring octets memory assembly) (calls.takes both.ring (base.hear octets memory assembly))

-- what a handing over leaves
remembered : {both : Both} {call : Call} {letter : Letter} → Long both.messages.sources → HandsOver both call letter
    → Remembers letter.source (kind_of letter) letter.version letter.number (after both call).messages.sources × (¬ (letter.version ≡ 0))
remembered {both} long (hands octets memory assembly is e) =
    let found = handed_new both octets memory assembly is e in
    by found.0 found.1
    (subst (JudgeCases (known_of both.messages.sources (letter_in octets).source) (letter_in octets)) found.1
    (judge_cases (known_of both.messages.sources (letter_in octets).source) (letter_in octets)))
  where
    known : Known
    known = known_of both.messages.sources (letter_in octets).source

    left_is : Judging both octets memory assembly → judgement_of both.messages (letter_in octets) ≡ New
        → (after both (hear octets memory assembly)).messages.sources
        ≡ with_known both.messages.sources (letter_in octets).source (known_after New known (letter_in octets))
    left_is judging j =
        ap (λ (m : Messages). m.sources) (judged_left judging)
        ∙ ap (λ (d : Judged). with_known both.messages.sources (letter_in octets).source (known_after d known (letter_in octets))) j

    by : Judging both octets memory assembly → judgement_of both.messages (letter_in octets) ≡ New → JudgeCases known (letter_in octets) New
        → Remembers (letter_in octets).source (kind_of (letter_in octets)) (letter_in octets).version (letter_in octets).number
        (after both (hear octets memory assembly)).messages.sources × (¬ ((letter_in octets).version ≡ 0))
    by judging j (new v n which other) =
        let same = known_same both.messages.sources (letter_in octets).source (known_after New known (letter_in octets)) long (small_source judging) in (
          subst (Remembers (letter_in octets).source (kind_of (letter_in octets)) (letter_in octets).version (letter_in octets).number) (sym (left_is judging j))
              (record { is_version = ap (λ (k : Known). k.version) same; is_number = ap (last (kind_of (letter_in octets))) same ∙ last_noted known (letter_in octets) }),
          v,
        )

-- Between two handings over of one source, kind, version and number lies what ends what was remembered.
pub handed_once : {both : Both} → Reachable both → (first : Call) (one : Letter) → HandsOver both first one
    → (calls : List Call) (second : Call) (other : Letter) → HandsOver (after_all after (after both first) calls) second other
    → other.source ≡ one.source → kind_of other ≡ kind_of one → other.version ≡ one.version → other.number ≡ one.number
    → Lies one.source (kind_of one) one.number (after both first) calls
handed_once {both} reached first one hands_one calls second other hands_other s k v n =
    let long = long_reached reached in
    let found = remembered long hands_one in
    between one.source (kind_of one) one.version one.number found.1 calls (long_moves (sources_move both first) long) found.0 hands_other s k n
