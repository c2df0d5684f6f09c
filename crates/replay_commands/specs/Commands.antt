-- What a line means: the table of commands. Words in quotes are the table's.
use Rattle.std.specs.Prelude.{Option, Some, None, ◌&&◌, ◌∷◌, ◌+◌}
use Rattle.laws.specs.Usual.{cond, List, [], ℕ, length, get_or, take, drop, leb, ltb}
use Rattle.replay_input.specs.Gathering.{longest, size_in}
use Rattle.replay_input.specs.declared.Line.{Line}
use Rattle.text.specs.Lines.{space}
use Rattle.text_hexadecimal.specs.Octets.{octets_of}
use Rattle.comparing.specs.Same.{same}
use Rattle.replay_words.specs.Words.{begins, words_behind, number_in}
use Rattle.replay_commands.specs.declared.Command.{Command}
use Rattle.replay_commands.specs.declared.Command.TheVariants.{Start, Stop, Tick, Hear, Ask, Panel, Poke, Peek, State, Bad}

-- the words of the table in ASCII; those with arguments with their space
abbrev pub stop : List ℕ
stop = 0x73 ∷ 0x74 ∷ 0x6f ∷ 0x70 ∷ []

abbrev pub ask : List ℕ
ask = 0x61 ∷ 0x73 ∷ 0x6b ∷ []

abbrev pub panel : List ℕ
panel = 0x70 ∷ 0x61 ∷ 0x6e ∷ 0x65 ∷ 0x6c ∷ []

abbrev pub state : List ℕ
state = 0x73 ∷ 0x74 ∷ 0x61 ∷ 0x74 ∷ 0x65 ∷ []

abbrev pub hear : List ℕ
hear = 0x68 ∷ 0x65 ∷ 0x61 ∷ 0x72 ∷ []

abbrev pub hear_space : List ℕ
hear_space = 0x68 ∷ 0x65 ∷ 0x61 ∷ 0x72 ∷ space ∷ []

abbrev pub start_space : List ℕ
start_space = 0x73 ∷ 0x74 ∷ 0x61 ∷ 0x72 ∷ 0x74 ∷ space ∷ []

abbrev pub tick_space : List ℕ
tick_space = 0x74 ∷ 0x69 ∷ 0x63 ∷ 0x6b ∷ space ∷ []

abbrev pub poke_space : List ℕ
poke_space = 0x70 ∷ 0x6f ∷ 0x6b ∷ 0x65 ∷ space ∷ []

abbrev pub peek_space : List ℕ
peek_space = 0x70 ∷ 0x65 ∷ 0x65 ∷ 0x6b ∷ space ∷ []

-- what a command with a number says; with a word that is no number it is bad
abbrev pub with_number : Option ℕ → (ℕ → Command) → Command
with_number (Some number) says = says number
with_number None says = Bad

-- "`start N AD1 SZ1 AD2 SZ2 W`"; bad are "numbers over 65,535 where no range is named; N and W above 255"
abbrev pub start_by : ℕ → ℕ → ℕ → ℕ → ℕ → ℕ → Command
start_by n ad1 sz1 ad2 sz2 w =
    cond (leb n 255 && leb ad1 65535 && leb sz1 65535 && leb ad2 65535 && leb sz2 65535 && leb w 255)
    (Start (record {
      number = n;
      areas = record { one = record { address = ad1; size = sz1 }; two = record { address = ad2; size = sz2 } };
      watch = record { 0 = w };
    }))
    Bad

-- by its six words, each a number or none
abbrev pub start_with : Option ℕ → Option ℕ → Option ℕ → Option ℕ → Option ℕ → Option ℕ → Command
start_with number address1 size1 address2 size2 watch =
    with_number number (λ n. with_number address1 (λ ad1. with_number size1 (λ sz1.
    with_number address2 (λ ad2. with_number size2 (λ sz2. with_number watch (λ w. start_by n ad1 sz1 ad2 sz2 w))))))

-- six words: a seventh is too many, and where there are fewer, the missing one is no number
abbrev pub start_of : List (List ℕ) → Command
start_of words =
    cond (leb (length words) 6)
    (start_with (number_in words 0) (number_in words 1) (number_in words 2) (number_in words 3) (number_in words 4) (number_in words 5))
    Bad

-- "`tick K` (K 1 to 1,000,000)"
abbrev pub tick_of : List (List ℕ) → Command
tick_of words = with_number (number_in words 0) (λ k. cond (leb (length words) 1 && leb 1 k && leb k 1000000) (Tick k) Bad)

-- "`peek AT LEN`", "AT plus the number of octets must be at most 17,408"
abbrev pub peek_of : List (List ℕ) → Command
peek_of words =
    with_number (number_in words 0) (λ at. with_number (number_in words 1) (λ len.
    cond (leb (length words) 2 && leb (at + len) 17408) (Peek (record { at = at; length = len })) Bad))

-- "`poke AT HEX`", "one pair or more"
abbrev pub poke_by : ℕ → ℕ → ℕ → Command
poke_by at digits count = cond (leb (at + count) 17408 && ltb 0 count) (Poke (record { at = at; digits = digits; count = count })) Bad

-- the digits stand behind `poke`, a space, AT and a space
abbrev pub poke_of : List (List ℕ) → Command
poke_of words =
    cond (leb (length words) 2)
    (with_number (number_in words 0) (λ at. poke_by at (6 + length (get_or words 0 [])) (length (octets_of (get_or words 1 [])))))
    Bad

-- Of the octets that a `hear` line spells, 1121 are kept: one more than the longest frame has, so that the station refuses them as it
-- refuses them all.
abbrev pub kept : ℕ → ℕ
kept size = cond (leb size 1121) size 1121

-- "`hear HEX`", by the number of octets that its digits spell: "one pair or more"
abbrev pub hear_of : ℕ → Command
hear_of size = cond (ltb 0 size) (Hear (record { digits = 5; count = kept size })) Bad

-- the commands with numbers
abbrev pub numbered : List ℕ → Command
numbered line =
    cond (begins start_space line) (start_of (words_behind line 5))
    (cond (begins tick_space line) (tick_of (words_behind line 4))
    (cond (begins poke_space line) (poke_of (words_behind line 4))
    (cond (begins peek_space line) (peek_of (words_behind line 4)) Bad)))

-- all commands but `hear HEX`; "`hear` alone (hears no octets)"
abbrev pub short_of : List ℕ → Command
short_of line =
    cond (same line stop) Stop
    (cond (same line ask) Ask
    (cond (same line panel) Panel
    (cond (same line state) State
    (cond (same line hear) (Hear (record { digits = 5; count = 0 })) (numbered line)))))

-- a line, without its line feed: "a line that is not a command of this form, or out of range, is `bad`". In a line that is longer than the
-- longest of these a number is out of range, or more is poked than there is room for, so it is bad outright.
abbrev pub command_of : List ℕ → Command
command_of line =
    cond (begins hear_space line) (hear_of (length (octets_of (drop 5 line))))
    (cond (leb (length line) longest) (short_of line) Bad)

-- what a line that has come whole means, by what of it is stored
abbrev pub command_by : Line → List ℕ → Command
command_by line stored =
    cond (begins hear_space stored) (hear_of (size_in line))
    (cond (leb line.count longest) (short_of stored) Bad)

abbrev pub command_in : Line → List ℕ → Command
command_in line buffer = command_by line (take line.count buffer)
