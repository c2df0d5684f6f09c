-- The line that shows a station's state. Numbers are in decimal with no leading zeros.
use Rattle.std.specs.Prelude.{◌∷◌, ◌++◌}
use Rattle.laws.specs.Usual.{cond, List, [], ℕ, suc}
use Rattle.replay_reply_parts.specs.Lines.{ended}
use Rattle.members.specs.declared.Entry.{Entry}
use Rattle.station.specs.declared.Phase.{Phase}
use Rattle.station.specs.declared.Phase.TheVariants.{Off, Listening, Startup, Joining, Participating}
use Rattle.station.specs.declared.Station.{Station}
use Rattle.text.specs.Decimal.{decimal_of}
use Rattle.text.specs.Lines.{space, comma}

abbrev pub colon : ℕ
colon = 0x3a

-- "off", "listening", "startup", "joining", "participating"
abbrev pub phase_word : Phase → List ℕ
phase_word Off = 0x6f ∷ 0x66 ∷ 0x66 ∷ []
phase_word Listening = 0x6c ∷ 0x69 ∷ 0x73 ∷ 0x74 ∷ 0x65 ∷ 0x6e ∷ 0x69 ∷ 0x6e ∷ 0x67 ∷ []
phase_word Startup = 0x73 ∷ 0x74 ∷ 0x61 ∷ 0x72 ∷ 0x74 ∷ 0x75 ∷ 0x70 ∷ []
phase_word Joining = 0x6a ∷ 0x6f ∷ 0x69 ∷ 0x6e ∷ 0x69 ∷ 0x6e ∷ 0x67 ∷ []
phase_word Participating = 0x70 ∷ 0x61 ∷ 0x72 ∷ 0x74 ∷ 0x69 ∷ 0x63 ∷ 0x69 ∷ 0x70 ∷ 0x61 ∷ 0x74 ∷ 0x69 ∷ 0x6e ∷ 0x67 ∷ []

-- "VIEW is 0 before we participate"
abbrev pub view_shown : Phase → ℕ → ℕ
view_shown Off view = 0
view_shown Listening view = 0
view_shown Startup view = 0
view_shown Joining view = 0
view_shown Participating view = view

-- "PHASE NUMBER VIEW"
abbrev pub head_text : Phase → ℕ → ℕ → List ℕ
head_text phase number view = (phase_word phase ++ (space ∷ decimal_of number)) ++ (space ∷ decimal_of (view_shown phase view))

-- two numbers with a comma between them, and a mark in front
abbrev pub pair_text : ℕ → ℕ → ℕ → List ℕ
pair_text mark first second = (mark ∷ decimal_of first) ++ (comma ∷ decimal_of second)

-- " NUMBER:AD1,SZ1,AD2,SZ2,TW,MISSES"
abbrev pub listed_text : ℕ → Entry → List ℕ
listed_text number entry =
    (((space ∷ decimal_of number) ++ pair_text colon entry.areas.one.address entry.areas.one.size)
    ++ pair_text comma entry.areas.two.address entry.areas.two.size)
    ++ pair_text comma entry.watch.0 entry.misses

-- "for each listed station"
abbrev pub entry_text : ℕ → Entry → List ℕ
entry_text number entry = cond entry.listed (listed_text number entry) []

abbrev pub entries_from : ℕ → List Entry → List ℕ
entries_from number [] = []
entries_from number (entry ∷ rest) = entry_text number entry ++ entries_from (suc number) rest

-- `state`: "PHASE NUMBER VIEW", then the list
unfoldable pub state_text : Station → List ℕ
state_text station = ended (head_text station.phase station.own.number station.view ++ entries_from 0 station.members.entries)
