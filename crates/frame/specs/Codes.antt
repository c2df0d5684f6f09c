-- Paper 01, "Frame fields used": "Codes handled (document 003, B-9): 65000 cyclic with token, 65001 cyclic without, 65002 participation
-- request, 65012 trigger."
use Rattle.std.specs.Prelude.{Option, Some, None}
use Rattle.laws.specs.Usual.{Bool, true, false, cond, ℕ, eqb}
use Rattle.frame.specs.declared.Code.{Code}
use Rattle.frame.specs.declared.Code.TheVariants.{Token, Cyclic, Request, Trigger}

-- the number of each code, TCD
abbrev pub code_number : Code → ℕ
code_number Token = 65000
code_number Cyclic = 65001
code_number Request = 65002
code_number Trigger = 65012

-- the code that a number stands for, if it is one of the four
abbrev pub code_of : ℕ → Option Code
code_of number =
    cond (eqb number 65000) (Some Token)
    (cond (eqb number 65001) (Some Cyclic)
    (cond (eqb number 65002) (Some Request)
    (cond (eqb number 65012) (Some Trigger) None)))

abbrev pub is_known : Option Code → Bool
is_known (Some code) = true
is_known None = false

-- the code, where there is one. (Of an unknown code nothing asks: it stands for a trigger then.)
abbrev pub code_from : Option Code → Code
code_from (Some code) = code
code_from None = Trigger

-- only 65000 passes the token
abbrev pub is_token : Code → Bool
is_token Token = true
is_token Cyclic = false
is_token Request = false
is_token Trigger = false

-- 65000 and 65001 are the cyclic frames
abbrev pub is_cyclic : Code → Bool
is_cyclic Token = true
is_cyclic Cyclic = true
is_cyclic Request = false
is_cyclic Trigger = false

-- "A cyclic frame or request carries our areas and watch time."
abbrev pub carries_areas : Code → Bool
carries_areas Token = true
carries_areas Cyclic = true
carries_areas Request = true
carries_areas Trigger = false
