-- A text as its lines: whoever does with each line what the whole line means does so with all lines of every text, in their order. Assumes
-- nothing.
use Rattle.std.specs.Prelude.{◌≡◌, ◌∷◌, ◌++◌}
use Rattle.laws.specs.Usual.{refl, sym, ap, ap₂, ◌∙◌, Bool, true, false, cond, List, [], ℕ, eqb}
use Rattle.std.proofs.Common.{eqb-true}
use Rattle.text.specs.Lines.{line_feed}
use Rattle.text_scanning.specs.Scanning.{NoFeed}
use Rattle.text_feeding.specs.Feeding.{Program, fed_all, answered_all, pushed_all}
use Rattle.text_feeding.specs.Lines.{Text, in_front, parted, joined, NoFeeds, Joins, Meaning, after_all, replies_to}
use Rattle.text_feeding.proofs.Fed.{fed_part, answered_part, fed_line, answered_line}

pub parted_joins : (octets : List ℕ) → Joins (parted octets) octets
unfolding parted
parted_joins [] = record { whole = refl; none = tt; none_behind = tt }
parted_joins (octet ∷ octets) = by (eqb octet line_feed) refl (parted octets).lines (parted octets).rest (parted_joins octets)
  where
    by : (t : Bool) → eqb octet line_feed ≡ t → (lines : List (List ℕ)) (rest : List ℕ) → Joins (record { lines = lines; rest = rest }) octets →
        Joins (cond t (record { lines = [] ∷ lines; rest = rest }) (in_front octet lines rest)) (octet ∷ octets)
    by true e lines rest p = record {
      whole = ap₂ (λ (n : ℕ) (l : List ℕ). n ∷ l) (sym (eqb-true octet line_feed e)) p.whole;
      none = (tt, p.none);
      none_behind = p.none_behind;
    }
    by false e [] rest p = record { whole = ap (λ (l : List ℕ). octet ∷ l) p.whole; none = tt; none_behind = (e, p.none_behind) }
    by false e (line ∷ lines) rest p = record {
      whole = ap (λ (l : List ℕ). octet ∷ l) p.whole;
      none = ((e, p.none.0), p.none.1);
      none_behind = p.none_behind;
    }

module _ {State Kept : Type 0} (program : Program State) (meaning : Meaning Kept) (kept : State → Kept) (Ready : State → Type 0) where
  -- one whole line, come to a program that is ready for it
  pub record Meant (state : State) (line : List ℕ) : Type 0 where
    pub ready : Ready (program.ended (pushed_all program state line))
    pub kept_after : kept (program.ended (pushed_all program state line)) ≡ meaning.after (kept state) line
    pub replied : program.answer (pushed_all program state line) ≡ meaning.reply (kept state) line

  -- a whole text: the program is where all lines bring it, and the rest came behind them
  pub record Came (state : State) (text : Text) (octets : List ℕ) : Type 0 where
    pub before : State
    pub ready : Ready before
    pub kept_before : kept before ≡ after_all meaning (kept state) text.lines
    pub rest_behind : fed_all program state octets ≡ pushed_all program before text.rest
    pub all_replied : answered_all program state octets ≡ replies_to meaning (kept state) text.lines

  module _ (each : (state : State) (line : List ℕ) → Ready state → NoFeed line → Meant state line) where
    lines_came : (lines : List (List ℕ)) (rest : List ℕ) (state : State) → Ready state → NoFeeds lines → NoFeed rest →
        Came state (record { lines = lines; rest = rest }) (joined lines rest)
    lines_came [] rest state ready none none_behind = record {
      before = state;
      ready = ready;
      kept_before = refl;
      rest_behind = fed_part program rest state none_behind;
      all_replied = answered_part program rest state none_behind;
    }
    lines_came (line ∷ lines) rest state ready none none_behind =
        let one = each state line ready none.0 in
        let more = lines_came lines rest (program.ended (pushed_all program state line)) one.ready none.1 none_behind in
        record {
          before = more.before;
          ready = more.ready;
          kept_before = more.kept_before ∙ ap (λ (k : Kept). after_all meaning k lines) one.kept_after;
          rest_behind = fed_line program line (joined lines rest) state none.0 ∙ more.rest_behind;
          all_replied =
              answered_line program line (joined lines rest) state none.0
              ∙ ap₂ (λ (first others : List ℕ). first ++ others) one.replied
              (more.all_replied ∙ ap (λ (k : Kept). replies_to meaning k lines) one.kept_after);
        }

    pub text_came : (octets : List ℕ) (state : State) → Ready state → Came state (parted octets) octets
    text_came octets state ready =
        let p = parted_joins octets in
        rw p.whole at (lines_came (parted octets).lines (parted octets).rest state ready p.none p.none_behind)
