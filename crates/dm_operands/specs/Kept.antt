-- Which fields are kept, and which cases are compared.
use Rattle.std.specs.Prelude.{List, [], ◌∷◌, Bool, true, false, not, ◌&&◌, ◌||◌}
use Rattle.dm_operands.specs.Marked.{MarkedField, MarkedCase}

-- whether some field is kept
abbrev pub keeps_some : List MarkedField → Bool
keeps_some [] = false
keeps_some (f ∷ fs) = not f.left_out || keeps_some fs

-- a case that isn't left out, with a kept field
abbrev pub is_compared : MarkedCase → Bool
is_compared c = not c.left_out && keeps_some c.fields

abbrev pub some_compared : List MarkedCase → Bool
some_compared [] = false
some_compared (c ∷ cs) = is_compared c || some_compared cs

abbrev pub all_compared : List MarkedCase → Bool
all_compared [] = true
all_compared (c ∷ cs) = is_compared c && all_compared cs

abbrev pub some_case_left_out : List MarkedCase → Bool
some_case_left_out [] = false
some_case_left_out (c ∷ cs) = c.left_out || some_case_left_out cs
