-- The layout of trees, step by step.
use Rattle.std.specs.Prelude.{ℕ, List, [], ◌∷◌}
use Rattle.dm_stream.specs.declared.tokens.Delim.{Delim}
use Rattle.dm_stream.specs.declared.tokens.Token.{Token}
use Rattle.dm_stream.specs.declared.tokens.Entry.{Entry}
use Rattle.dm_stream.specs.declared.tokens.Entry.TheVariants as entry
use Rattle.dm_stream.specs.Trees.{Trees, no_trees, token, group}
use Rattle.dm_stream.specs.Layout.{Laid, laid_one, opened, closed}
use Rattle.dm_layout.specs.Fixed.{entries_of}

unfoldable pub put : Laid → Token → Laid
put s k = laid_one s (entry.Token k)

unfoldable pub begun : Laid → Delim → Laid
begun s d = opened s d

unfoldable pub done : Laid → Delim → Laid
done s d = closed s d

-- trees behind what is laid out
abbrev pub lay : Laid → Trees → Laid
lay s no_trees = s
lay s (token k rest) = lay (put s k) rest
lay s (group d from inside upto rest) = lay (done (lay (begun s d) inside) d) rest

-- the tokens and delimiters of a text behind what is laid out; its groups need not be whole
abbrev pub stepped : Laid → List Entry → Laid
stepped s [] = s
stepped s (entry.Token k ∷ es) = stepped (put s k) es
stepped s (entry.Open d from n ∷ es) = stepped (begun s d) es
stepped s (entry.Close d upto ∷ es) = stepped (done s d) es

abbrev pub fix : Laid → List ℕ → Laid
fix s text = stepped s (entries_of text)
