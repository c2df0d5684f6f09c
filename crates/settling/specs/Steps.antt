-- Lists of inputs, one after the other, for any kind of state S and of input I. Definitions alone: the ring of views has views
-- and events, a ring of full stations has stations and what is done to them.
use Rattle.std.specs.Prelude.{[], List, ◌∷◌}

-- the state after a list of inputs, where `after` gives the state after one
abbrev pub after_all : {S I : Type 0} → (S → I → S) → S → List I → S
after_all after s [] = s
after_all after s (input ∷ inputs) = after_all after (after s input) inputs

-- P holds of each input of the list together with the state that this input finds
abbrev pub EachFinds : {S I : Type 0} → (S → I → S) → (S → I → Type 0) → S → List I → Type 0
EachFinds after P s [] = Unit {0}
EachFinds after P s (input ∷ inputs) = P s input × EachFinds after P (after s input) inputs
