-- What a trait's name and the text of a declaration are answered with, where the implementations are wanted.
use Rattle.std.specs.Prelude.{ℕ, List, Result, Ok, Err}
use Rattle.dm_stream.specs.declared.error.Error.{Error}
use Rattle.dm_stream.specs.declared.error.Error.TheVariants.{NoMemory, Refused}
use Rattle.dm_expansion.specs.declared.expansion.Expansion.{Expansion}
use Rattle.dm_cmp_ops.specs.Expanded.{IsReadOf}
use Rattle.dm_printed.specs.Derived.{Expands, Refuses}

-- what a derive answers, want of memory aside: implementations that are those that the trait derives, ranges aside, with their text
abbrev pub Derives : List ℕ → List ℕ → Result Expansion Error → Type 0
Derives name text (Ok x) = IsReadOf (Expands name text) x
Derives name text (Err NoMemory) = Unit {0}
Derives name text (Err (Refused r)) = Refuses name text r
