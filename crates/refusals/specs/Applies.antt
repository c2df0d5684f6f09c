-- Paper 01, "Numbers the station answers with", and E5 of paper 02: for each number, the calls and states to which it applies. Each definition says when its own
-- condition holds, whatever the other numbers say of the same call. Which one is answered where several apply is the table `order` of
-- crates/frame_refusals/specs/Refusals.antt. A refusal that a change request adds gets a definition of its own here, and a clause of `applies`.
use Rattle.std.specs.Prelude.{◌&&◌, ◌||◌, ◌∷◌, ◌-◌}
use Rattle.laws.specs.Usual.{[], Bool, false, cond, not, List, ℕ, length, eqb, ltb}
use Rattle.area.specs.Areas.{in_range, memory_octets}
use Rattle.block.specs.Blocks.{blocks_of, length_of}
use Rattle.frame.specs.Codes.{code_of, is_known, is_token, is_cyclic, carries_areas}
use Rattle.frame.specs.Octets.{word_at, long_at}
use Rattle.frame.specs.Positions.{TFL, TCD}
use Rattle.frame_refusals.specs.Refusals.{order}
use Rattle.frame.specs.declared.Refusal.TheVariants.{Cut, Mark, Length, Code, Address, Taken, Area, Block, Stranger, NotDue, Buffer, Message, Waiting, Total, Number}
use Rattle.frame_reading.specs.Reading.{marked, code_in, fields_of, is_station}
use Rattle.station.specs.Rules.Asking.{due_in}
use Rattle.station.specs.Rules.Calls.{Call, start, stop, tick, hear, ask, Verdict, refused_by, unrefused}
use Rattle.station.specs.Rules.Hearing.{knows}
use Rattle.station.specs.Rules.State.{is_off, is_participating}
use Rattle.station.specs.Types.{Fields, Refusal}
use Rattle.station.specs.declared.Station.{Station}

-- the fields as they stand in the octets heard. An octet that is not there reads 0. A code that is none of the four is none of 65000, 65001
-- and 65002, which are all that 5, 7, 14, 15, 8 and 9 ask of a code.
abbrev pub frame_in : List ℕ → Fields
frame_in octets = fields_of (code_in octets) octets

-- a condition on the octets heard and the frame in them, which no other call meets
abbrev pub heard : (List ℕ → Fields → Bool) → Call → Bool
heard test (start own) = false
heard test stop = false
heard test tick = false
heard test (hear octets memory assembly) = test octets (frame_in octets)
heard test (ask memory turn output) = false

-- 1: "fewer than 64 or more than 1120 octets given"
abbrev pub cut_applies : Station → Call → Bool
cut_applies station = heard (λ octets frame. ltb (length octets) 64 || ltb 1120 (length octets))

-- 2: "not the frame type mark of clause 10.1"
abbrev pub mark_applies : Station → Call → Bool
mark_applies station = heard (λ octets frame. not (marked octets))

-- 3: "TFL is not the octets given"
abbrev pub length_applies : Station → Call → Bool
length_applies station = heard (λ octets frame. not (eqb (long_at octets TFL) (length octets)))

-- 4: "TCD not one of the four"
abbrev pub code_applies : Station → Call → Bool
code_applies station = heard (λ octets frame. not (is_known (code_of (word_at octets TCD))))

-- 5: "source not 1 to 254; or code 65000 and destination not 1 to 254; or an own number outside 1 to 254 at start". "An own watch time is 1
-- to 255 ms; 0 at start is answered 5."
abbrev pub address_applies : Station → Call → Bool
address_applies station (start own) = not (is_station own.number) || eqb own.watch.0 0
address_applies station stop = false
address_applies station tick = false
address_applies station (hear octets memory assembly) =
    not (is_station (frame_in octets).source)
    || (is_token (frame_in octets).code && not (is_station (frame_in octets).destination))
address_applies station (ask memory turn output) = false

-- 6: "source is our own number". An off station answers a frame "after every check but 6 and 9".
abbrev pub taken_applies : Station → Call → Bool
taken_applies station = heard (λ octets frame. not (is_off station.phase) && eqb frame.source station.own.number)

-- 7: "an area leaves its range (also our own at start)". "7 looks at cyclic frames and requests."
abbrev pub area_applies : Station → Call → Bool
area_applies station (start own) = not (in_range own.areas)
area_applies station stop = false
area_applies station tick = false
area_applies station (hear octets memory assembly) = carries_areas (frame_in octets).code && not (in_range (frame_in octets).areas)
area_applies station (ask memory turn output) = false

-- 14 (E5): "TBN not as the areas give". As 8 did, 14 and 15 look "at cyclic frames only".
abbrev pub total_applies : Station → Call → Bool
total_applies station = heard (λ octets frame. is_cyclic frame.code && not (eqb frame.blocks (blocks_of frame.areas)))

-- 15 (E5): "CBN not 1 to TBN"
abbrev pub number_applies : Station → Call → Bool
number_applies station =
    heard (λ octets frame. is_cyclic frame.code && (ltb frame.block 1 || ltb frame.blocks frame.block))

-- "BSIZE not that block's length"
abbrev pub wrong_size : Fields → Bool
wrong_size frame = not (eqb frame.size (length_of frame.areas frame.block))

-- "header part not 64 to 96": what stands before the last BSIZE of so many octets
abbrev pub wrong_header : ℕ → Fields → Bool
wrong_header given frame = ltb (given - frame.size) 64 || ltb 96 (given - frame.size)

-- 8: these two. "8 stays for the block's length and the header part."
abbrev pub block_applies : Station → Call → Bool
block_applies station =
    heard (λ octets frame. is_cyclic frame.code && (wrong_size frame || wrong_header (length octets) frame))

-- 9: "we participate, code 65000 or 65001, and the source, or the token's destination, is neither ours nor in our list"
abbrev pub stranger_applies : Station → Call → Bool
stranger_applies station =
    heard (λ octets frame. (is_participating station.phase && is_cyclic frame.code)
    && (not (knows station frame.source) || (is_token frame.code && not (knows station frame.destination))))

-- 10: "a frame asked for when none is due; start when not off, or stop when off"
abbrev pub not_due_applies : Station → Call → Bool
not_due_applies station (start own) = not (is_off station.phase)
not_due_applies station stop = is_off station.phase
not_due_applies station tick = false
not_due_applies station (hear octets memory assembly) = false
not_due_applies station (ask memory turn output) = not (due_in station.phase station)

-- "not 17,408 octets"
abbrev pub wrong_length : List ℕ → Bool
wrong_length buffer = not (eqb (length buffer) memory_octets)

-- 11: "common memory, assembly or turn buffer not 17,408 octets, or output under 1088"
abbrev pub buffer_applies : Station → Call → Bool
buffer_applies station (start own) = false
buffer_applies station stop = false
buffer_applies station tick = false
buffer_applies station (hear octets memory assembly) = wrong_length memory || wrong_length assembly
buffer_applies station (ask memory turn output) = (wrong_length memory || wrong_length turn) || ltb (length output) 1088

-- 12 and 13 (E2) look at a message handed in, and none of these calls hands one in
abbrev pub handed_in : Station → Call → Bool
handed_in station call = false

-- whether a refusal applies to a call in a state
abbrev pub applies : Refusal → Station → Call → Bool
applies Cut = cut_applies
applies Mark = mark_applies
applies Length = length_applies
applies Code = code_applies
applies Address = address_applies
applies Taken = taken_applies
applies Area = area_applies
applies Block = block_applies
applies Stranger = stranger_applies
applies NotDue = not_due_applies
applies Buffer = buffer_applies
applies Message = handed_in
applies Waiting = handed_in
applies Total = total_applies
applies Number = number_applies

-- the first of some refusals that meets a test; where none does, the call is not refused
abbrev pub first_of : (Refusal → Bool) → List Refusal → Verdict
first_of test [] = unrefused
first_of test (refusal ∷ later) = cond (test refusal) (refused_by refusal) (first_of test later)

-- "Order: .., the first that applies."
abbrev pub first_applying : Station → Call → Verdict
first_applying station call = first_of (λ refusal. applies refusal station call) order
