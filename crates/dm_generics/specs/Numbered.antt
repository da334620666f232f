-- Names that end with a number.
use Rattle.std.specs.Prelude.{ℕ, List, ◌++◌, map, codes}
use Rattle.std.specs.List.{range_with_len}
use Rattle.dm_stream.specs.declared.tokens.Ident.{Ident}
use Rattle.dm_generics.specs.Words.{word}
use Rattle.dm_generics.specs.Numerals.{numeral}

-- `__`, the prefix and the number
abbrev pub numbered_var : List ℕ → ℕ → Ident
numbered_var prefix n = word (codes "__" ++ prefix ++ numeral n)

-- so many of them, with the numbers from 0 on
abbrev pub numbered_vars : ℕ → List ℕ → List Ident
numbered_vars count prefix = map (numbered_var prefix) (range_with_len 0 count)
