-- What the fields of operands are called, by their numbers.
use Rattle.std.specs.Prelude.{ℕ, ◌++◌, codes}
use Rattle.dm_output.specs.Values.{Text}
use Rattle.dm_generics.specs.Numerals.{numeral}

abbrev pub self_name : ℕ → Text
self_name n = codes "__self_" ++ numeral n

abbrev pub other_name : ℕ → Text
other_name n = codes "__other_" ++ numeral n

-- of what stands right of an operator
abbrev pub right_name : ℕ → Text
right_name n = codes "__rhs_" ++ numeral n

-- of self where nothing stands right of it
abbrev pub inner_name : ℕ → Text
inner_name n = codes "__" ++ numeral n
