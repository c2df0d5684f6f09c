-- Order: 11, 12, 13, 10, 1, 2, 3, 4, 5, 6, 7, 14, 15, 8, 9, "the first that applies": what every call on both parts answers, as far as it is a refusal. Assumes
-- nothing.
use Rattle.laws.specs.Usual.{Bool, cond}
use Rattle.frame.specs.declared.Refusal.TheVariants as refusals
use Rattle.station.specs.Rules.Calls as base

-- the numbers that a hearing can answer, in their order
abbrev pub chain : Bool → Bool → Bool → Bool → Bool → Bool → Bool → Bool → Bool → Bool → Bool → Bool → base.Verdict
chain eleven one two three four five six seven fourteen fifteen eight nine =
    cond eleven (base.refused_by refusals.Buffer)
    (cond one (base.refused_by refusals.Cut)
    (cond two (base.refused_by refusals.Mark)
    (cond three (base.refused_by refusals.Length)
    (cond four (base.refused_by refusals.Code)
    (cond five (base.refused_by refusals.Address)
    (cond six (base.refused_by refusals.Taken)
    (cond seven (base.refused_by refusals.Area)
    (cond fourteen (base.refused_by refusals.Total)
    (cond fifteen (base.refused_by refusals.Number)
    (cond eight (base.refused_by refusals.Block)
    (cond nine (base.refused_by refusals.Stranger) base.unrefused)))))))))))
