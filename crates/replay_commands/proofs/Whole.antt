-- A line that came octet by octet, into a buffer of 34,823 octets, means what the whole line means, whatever its length. Assumes nothing.
use Rattle.laws.specs.Usual.{refl, sym, ap, ap₂, ◌∙◌, Bool, true, false, cond, not, List, [], ℕ, suc, arith, length, take, drop, set, eqb, leb, ltb}
use Rattle.std.proofs.Math.Bool.{not-not}
use Rattle.std.proofs.Common.{append-nil, append_assoc, add-one, length-append, length-drop, length-set, drop_of_length-le, take_all, take-suc-set, lt-ltb, le-ltb, le-leb, eq-eqb, ne_eqb}
use Rattle.std.specs.Prelude.{◌≡◌, ◌&&◌, ◌∷◌, ◌++◌, ◌+◌, ◌-◌, ◌/◌, ◌%◌, ◌<◌, ◌≤◌, zero}
use Rattle.std.proofs.Math.Decide.{dec_le, dec_lt}
use Rattle.std.proofs.Math.Seq.{take-nil, set_out}
use Rattle.std.proofs.lemmas.List.{take-append-le, drop-append-le}
use Rattle.std.proofs.lemmas.Bool.{lt-leb}
use Rattle.replay_input.specs.Gathering.{longest, fresh, count_after, pushed, size_in, pushed_all, buffer_all}
use Rattle.replay_input.specs.declared.Line.{Line}
use Rattle.replay_commands.specs.Commands.{hear_space, kept, hear_of, short_of, command_of, command_by, command_in}
use Rattle.text_hexadecimal.specs.Octets.{is_hexadecimal, all_hexadecimal, octets_of}
use Rattle.text_hexadecimal.specs.OctetLaws.{even, octets_length}
use Rattle.replay_words.specs.Words.{begins}
use Rattle.replay_commands.specs.declared.Command.{Command}
use Rattle.replay_commands.specs.declared.Command.TheVariants.{Hear, Bad}

-- so many octets, as they are counted
abbrev pub counted : ℕ → ℕ
counted n = cond (leb n longest) n 34824

abbrev odd : ℕ → Bool
odd n = not (even n)

abbrev made : ℕ → Bool → Bool → Line
made count digits odd = record { count = count; digits = digits; odd = odd }

-- what has come after some octets
abbrev after : List ℕ → Line
after octets = made (counted (length octets)) (all_hexadecimal (drop 5 octets)) (odd (length octets - 5))

counted_low : (n : ℕ) → n ≤ 34823 → counted n ≡ n
counted_low n h = rw (le-leb n longest h)

counted_high : (n : ℕ) → 34823 < n → counted n ≡ 34824
counted_high n h = rw (lt-leb n longest h)

pub counted_least : (n k : ℕ) → k ≤ n → k ≤ 34824 → k ≤ counted n
counted_least n k h most = by (dec_le n 34823)
  where
    by : Dec (n ≤ 34823) → k ≤ counted n
    by (yes low) = rw (counted_low n low) h
    by (no high) = rw (counted_high n (omega arith)) most

count_more : (n : ℕ) → count_after (counted n) ≡ counted (n + 1)
count_more n = by (dec_le n 34823)
  where
    by : Dec (n ≤ 34823) → count_after (counted n) ≡ counted (n + 1)
    by (yes h) = ap count_after (counted_low n h) ∙ rw (le-leb n longest h) (at (dec_le (n + 1) 34823))
      where
        at : Dec (n + 1 ≤ 34823) → n + 1 ≡ counted (n + 1)
        at (yes low) = sym (counted_low (n + 1) low)
        at (no high) = let last : n + 1 ≡ 34824 = omega arith in last ∙ sym (counted_high (n + 1) (omega arith))
    by (no h) = ap count_after (counted_high n (omega arith)) ∙ sym (counted_high (n + 1) (omega arith))

odd_more : (n : ℕ) → not (odd n) ≡ odd (n + 1)
odd_more n = by (dec_le (n % 2) 0)
  where
    by : Dec (n % 2 ≤ 0) → not (odd n) ≡ odd (n + 1)
    by (yes e) = rw (eq-eqb (n % 2) 0 (omega arith), ne_eqb ((n + 1) % 2) 0 (λ z. omega arith))
    by (no e) = rw (ne_eqb (n % 2) 0 (λ z. omega arith), eq-eqb ((n + 1) % 2) 0 (omega arith))

all_last : (list : List ℕ) (octet : ℕ) → all_hexadecimal (list ++ (octet ∷ [])) ≡ (all_hexadecimal list && is_hexadecimal octet)
all_last [] octet = by (is_hexadecimal octet)
  where
    by : (t : Bool) → (t && true) ≡ t
    by true = refl
    by false = refl
all_last (first ∷ list) octet = by (is_hexadecimal first) (all_last list octet)
  where
    by : (t : Bool) → all_hexadecimal (list ++ (octet ∷ [])) ≡ (all_hexadecimal list && is_hexadecimal octet) →
        (t && all_hexadecimal (list ++ (octet ∷ []))) ≡ ((t && all_hexadecimal list) && is_hexadecimal octet)
    by true e = e
    by false e = refl

same_line : {c₀ c₁ : ℕ} {d₀ d₁ o₀ o₁ : Bool} → c₀ ≡ c₁ → d₀ ≡ d₁ → o₀ ≡ o₁ → made c₀ d₀ o₀ ≡ made c₁ d₁ o₁
same_line p q r = cc

-- one octet more
push_one : (octets : List ℕ) (octet : ℕ) → pushed (after octets) octet ≡ after (octets ++ (octet ∷ []))
push_one octets octet = by (dec_lt (length octets) 5)
  where
    more : length (octets ++ (octet ∷ [])) ≡ length octets + 1
    more = length-append octets (octet ∷ [])

    by : Dec (length octets < 5) → pushed (after octets) octet ≡ after (octets ++ (octet ∷ []))
    by (yes h) =
        let low : counted (length octets) ≡ length octets = counted_low (length octets) (omega arith) in
        let first : drop 5 octets ≡ [] = drop_of_length-le octets {i = 5} (omega arith) in
        let second : drop 5 (octets ++ (octet ∷ [])) ≡ [] = drop_of_length-le (octets ++ (octet ∷ [])) {i = 5} (omega (arith, more)) in
        let start : length octets - 5 ≡ length (octets ++ (octet ∷ [])) - 5 = omega (arith, more) in
        let count : counted (length octets) + 1 ≡ counted (length (octets ++ (octet ∷ []))) =
        ap (λ (k : ℕ). k + 1) low ∙ sym (ap counted more ∙ counted_low (length octets + 1) (omega arith)) in
        ap (λ (t : Bool). cond t
        (made (counted (length octets) + 1) (all_hexadecimal (drop 5 octets)) (odd (length octets - 5)))
        (made (count_after (counted (length octets))) (all_hexadecimal (drop 5 octets) && is_hexadecimal octet) (not (odd (length octets - 5)))))
        (ap (λ (k : ℕ). ltb k 5) low ∙ lt-ltb (length octets) 5 h)
        ∙ same_line count (ap all_hexadecimal (first ∙ sym second)) (ap odd start)
    by (no h) =
        let high : ltb (counted (length octets)) 5 ≡ false = le-ltb (counted (length octets)) 5 (counted_least (length octets) 5 (omega arith) (omega arith)) in
        let rest : drop 5 (octets ++ (octet ∷ [])) ≡ drop 5 octets ++ (octet ∷ []) = drop-append-le 5 octets (octet ∷ []) (omega arith) in
        let start : length octets - 5 + 1 ≡ length (octets ++ (octet ∷ [])) - 5 = omega (arith, more) in
        ap (λ (t : Bool). cond t
        (made (counted (length octets) + 1) (all_hexadecimal (drop 5 octets)) (odd (length octets - 5)))
        (made (count_after (counted (length octets))) (all_hexadecimal (drop 5 octets) && is_hexadecimal octet) (not (odd (length octets - 5)))))
        high
        ∙ same_line (count_more (length octets) ∙ ap counted (sym more)) (sym (ap all_hexadecimal rest ∙ all_last (drop 5 octets) octet)) (odd_more (length octets - 5) ∙ ap odd start)

-- and all octets of a line
push_all : (line octets : List ℕ) → pushed_all (after octets) line ≡ after (octets ++ line)
push_all [] octets = ap after (sym (append-nil octets))
push_all (octet ∷ line) octets =
    ap (λ (l : Line). pushed_all l line) (push_one octets octet)
    ∙ push_all line (octets ++ (octet ∷ []))
    ∙ ap after (append_assoc octets (octet ∷ []) line)

-- what is stored of some octets: the first 34,823
abbrev pub Stored : List ℕ → List ℕ → Type 0
Stored octets buffer = take (counted (length octets)) buffer ≡ take longest octets

store_one : (octets buffer : List ℕ) (octet : ℕ) → length buffer ≡ 34823 → Stored octets buffer → Stored (octets ++ (octet ∷ [])) (set buffer (counted (length octets)) octet)
store_one octets buffer octet full stored = by (dec_lt (length octets) 34823)
  where
    more : length (octets ++ (octet ∷ [])) ≡ length octets + 1
    more = length-append octets (octet ∷ [])

    by : Dec (length octets < 34823) → Stored (octets ++ (octet ∷ [])) (set buffer (counted (length octets)) octet)
    by (yes h) =
        let low : counted (length octets) ≡ length octets = counted_low (length octets) (omega arith) in
        let next : counted (length (octets ++ (octet ∷ []))) ≡ suc (length octets) = ap counted more ∙ counted_low (length octets + 1) (omega arith) ∙ add-one (length octets) in
        let before : take (length octets) buffer ≡ octets = ap (λ (k : ℕ). take k buffer) (sym low) ∙ stored ∙ take_all longest octets (omega arith) in
        ap₂ (λ (k i : ℕ). take k (set buffer i octet)) next low
        ∙ take-suc-set buffer (length octets) octet (omega arith)
        ∙ ap (λ (l : List ℕ). l ++ (octet ∷ [])) before
        ∙ sym (take_all longest (octets ++ (octet ∷ [])) (omega (arith, more)))
    by (no h) =
        let high : 34823 ≤ counted (length octets) = counted_least (length octets) 34823 (omega arith) (omega arith) in
        let higher : 34823 ≤ counted (length (octets ++ (octet ∷ []))) = counted_least (length (octets ++ (octet ∷ []))) 34823 (omega (arith, more)) (omega arith) in
        take_all (counted (length (octets ++ (octet ∷ [])))) (set buffer (counted (length octets)) octet) (omega (arith, length-set buffer (counted (length octets)) octet))
        ∙ set_out buffer (counted (length octets)) octet (omega arith)
        ∙ sym (take_all (counted (length octets)) buffer (omega arith))
        ∙ stored
        ∙ sym (take-append-le longest octets (octet ∷ []) (omega arith))

store_all : (line octets buffer : List ℕ) → length buffer ≡ 34823 → Stored octets buffer → Stored (octets ++ line) (buffer_all (after octets) buffer line)
store_all [] octets buffer full stored = ap (λ (l : List ℕ). take (counted (length l)) buffer) (append-nil octets) ∙ stored ∙ ap (take longest) (sym (append-nil octets))
store_all (octet ∷ line) octets buffer full stored =
    let next = set buffer (counted (length octets)) octet in
    let all = store_all line (octets ++ (octet ∷ [])) next (length-set buffer (counted (length octets)) octet ∙ full) (store_one octets buffer octet full stored) in
    ap₂ (λ (l : List ℕ) (b : List ℕ). take (counted (length l)) b) (sym (append_assoc octets (octet ∷ []) line)) (ap (λ (l : Line). buffer_all l next line) (push_one octets octet))
    ∙ all
    ∙ ap (take longest) (append_assoc octets (octet ∷ []) line)

pub line_stored : (line buffer : List ℕ) → length buffer ≡ longest → Stored line (buffer_all fresh buffer line)
line_stored line buffer full = store_all line [] buffer full (sym (take-nil longest))

-- a word no longer than what is kept of the line begins both
begins_kept : (word line : List ℕ) (n : ℕ) → length word ≤ n → begins word (take n line) ≡ begins word line
begins_kept [] line n h = refl
begins_kept (letter ∷ word) line zero h = absurd (omega arith)
begins_kept (letter ∷ word) [] (suc n) h = refl
begins_kept (letter ∷ word) (octet ∷ line) (suc n) h = ap (λ (t : Bool). eqb octet letter && t) (begins_kept word line n (omega arith))

-- 1121 octets and more are kept alike
hear_many : (size : ℕ) → 1121 ≤ size → hear_of size ≡ Hear (record { digits = 5; count = 1121 })
hear_many size h = rw (lt-ltb 0 size (omega arith)) (ap (λ (k : ℕ). Hear (record { digits = 5; count = k })) (by (dec_le size 1121)))
  where
    by : Dec (size ≤ 1121) → kept size ≡ 1121
    by (yes low) = let last : size ≡ 1121 = omega arith in rw (le-leb size 1121 low) last
    by (no high) = rw (lt-leb size 1121 (omega arith))

-- so it does not matter that a longer line is not counted on
hear_counted : (line : List ℕ) → hear_of (size_in (after line)) ≡ hear_of (length (octets_of (drop 5 line)))
hear_counted line =
    ap (λ (t : Bool). hear_of (cond (all_hexadecimal (drop 5 line) && t) ((counted (length line) - 5) / 2) 0)) (not-not (even (length line - 5)))
    ∙ by (all_hexadecimal (drop 5 line) && even (length line - 5)) (dec_le (length line) 34823)
    ∙ ap hear_of (sym (octets_length (drop 5 line) ∙ ap (λ (k : ℕ). cond (all_hexadecimal (drop 5 line) && even k) (k / 2) 0) (length-drop 5 line)))
  where
    by : (t : Bool) → Dec (length line ≤ 34823) → hear_of (cond t ((counted (length line) - 5) / 2) 0) ≡ hear_of (cond t ((length line - 5) / 2) 0)
    by true (yes low) = ap (λ (k : ℕ). hear_of ((k - 5) / 2)) (counted_low (length line) low)
    by true (no high) = ap (λ (k : ℕ). hear_of ((k - 5) / 2)) (counted_high (length line) (omega arith)) ∙ sym (hear_many ((length line - 5) / 2) (omega arith))
    by false kind = refl

pub line_read : (line buffer : List ℕ) → length buffer ≡ longest → command_in (pushed_all fresh line) (buffer_all fresh buffer line) ≡ command_of line
line_read line buffer full =
    ap (λ (l : Line). command_by l (take l.count (buffer_all fresh buffer line))) (push_all line [])
    ∙ ap (command_by (after line)) (line_stored line buffer full)
    ∙ ap₂ (λ (t : Bool) (heard : Command). cond t heard (cond (leb (counted (length line)) longest) (short_of (take longest line)) Bad))
    (begins_kept hear_space line longest (omega arith)) (hear_counted line)
    ∙ ap (λ (other : Command). cond (begins hear_space line) (hear_of (length (octets_of (drop 5 line)))) other) (by (dec_le (length line) 34823))
  where
    by : Dec (length line ≤ 34823) → cond (leb (counted (length line)) longest) (short_of (take longest line)) Bad ≡ cond (leb (length line) longest) (short_of line) Bad
    by (yes low) = ap₂ (λ (k : ℕ) (l : List ℕ). cond (leb k longest) (short_of l) Bad) (counted_low (length line) low) (take_all longest line low)
    by (no high) =
        ap (λ (k : ℕ). cond (leb k longest) (short_of (take longest line)) Bad) (counted_high (length line) (omega arith))
        ∙ sym (ap (λ (t : Bool). cond t (short_of line) Bad) (lt-leb (length line) longest (omega arith)))
