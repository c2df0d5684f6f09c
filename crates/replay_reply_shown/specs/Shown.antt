-- The lines of the commands that only look, the state aside. Each ends in a line feed.
use Rattle.laws.specs.Usual.{List, ℕ}
use Rattle.panel.specs.Panel.{text_of}
use Rattle.panel.specs.declared.Figure.{Figure}
use Rattle.replay_reply_parts.specs.Hex.{hex_of}
use Rattle.replay_reply_parts.specs.Lines.{ended}

-- `panel`
abbrev pub panel_text : Figure → List ℕ
panel_text figure = ended (text_of figure)

-- `peek`: the octets that it looks at
abbrev pub octets_text : List ℕ → List ℕ
octets_text octets = ended (hex_of octets)
