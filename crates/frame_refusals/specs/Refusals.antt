-- Paper 01, "Numbers the station answers with", E2 and E5 of paper 02: the number of each refusal, and the order in which they are asked. A
-- refusal that a change request adds gets a clause of its own here, and a row in the order.
use Rattle.std.specs.Prelude.{◌∷◌}
use Rattle.laws.specs.Usual.{[], List, ℕ}
use Rattle.frame.specs.declared.Refusal.{Refusal}
use Rattle.frame.specs.declared.Refusal.TheVariants.{Cut, Mark, Length, Code, Address, Taken, Area, Block, Stranger, NotDue, Buffer, Message, Waiting, Total, Number}

abbrev pub number_of : Refusal → ℕ
number_of Cut = 1
number_of Mark = 2
number_of Length = 3
number_of Code = 4
number_of Address = 5
number_of Taken = 6
number_of Area = 7
number_of Block = 8
number_of Stranger = 9
number_of NotDue = 10
number_of Buffer = 11
number_of Message = 12
number_of Waiting = 13
number_of Total = 14
number_of Number = 15

-- "Order: 11, 10, 1, 2, 3, 4, 5, 6, 7, 8, 9, the first that applies." E2: 12 "tested after 11; 13 .. tested after 12". E5: "14 .. tested in the place of 8; 15 .. tested after 14; 8 ..
-- tested after 15."
abbrev pub order : List Refusal
order =
    Buffer
    ∷ Message
    ∷ Waiting
    ∷ NotDue
    ∷ Cut
    ∷ Mark
    ∷ Length
    ∷ Code
    ∷ Address
    ∷ Taken
    ∷ Area
    ∷ Total
    ∷ Number
    ∷ Block
    ∷ Stranger
    ∷ []
