-- Trees whose last punct is joint to nothing.
use Rattle.std.specs.Prelude.{◌≡◌, if◌then◌else◌, ℕ, List, [], ◌∷◌, ◌++◌, length, Option, None}
use Rattle.dm_stream.specs.declared.tokens.Punct.{Punct}
use Rattle.dm_stream.specs.declared.tokens.Spacing.TheVariants.{Alone}
use Rattle.dm_stream.specs.declared.tokens.Token.TheVariants as t
use Rattle.dm_stream.specs.declared.tokens.Entry.TheVariants as entry
use Rattle.dm_stream.specs.Cursors.{punct_of, at_end}
use Rattle.dm_stream.specs.Trees.{Trees, no_trees, token, group}

-- the token joint to nothing
abbrev pub unjoined : t.the_data → t.the_data
unjoined (t.Punct p) = t.Punct record { ch = p.ch; spacing = Alone; span = p.span }
unjoined k = k

-- the punct that an entry is
abbrev pub punct_in : entry.the_data → Option Punct
punct_in (entry.Token k) = punct_of k
punct_in (entry.Open d from n) = None
punct_in (entry.Close d upto) = None

-- the same trees, a last punct joint to nothing
abbrev pub last_alone : Trees → Trees
last_alone no_trees = no_trees
last_alone (token k rest) = token (if at_end rest then unjoined k else k) (last_alone rest)
last_alone (group d from inside upto rest) = group d from inside upto (last_alone rest)

-- the last entry is this punct, and stands at this place
pub record IsLastPunct (es : List entry.the_data) (p : Punct) (at : ℕ) : Type 0 where
  pub front : List entry.the_data
  pub entries_are : es ≡ front ++ entry.Token (t.Punct p) ∷ []
  pub at_is : at ≡ length front
