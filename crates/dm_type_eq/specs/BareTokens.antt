-- Tokens without their ranges: what is spelled, wherever it stands.
use Rattle.std.specs.Prelude.{ℕ, Bool, List, [], ◌∷◌, ◌++◌, map}
use Rattle.dm_stream.specs.declared.tokens.Delim.{Delim}
use Rattle.dm_stream.specs.declared.tokens.LitKind.{LitKind}
use Rattle.dm_stream.specs.declared.tokens.Spacing.{Spacing}
use Rattle.dm_stream.specs.declared.tokens.Spacing.TheVariants.{Alone}
use Rattle.dm_stream.specs.declared.tokens.Token.{Token}
use Rattle.dm_stream.specs.declared.tokens.Token.TheVariants as t
use Rattle.dm_stream.specs.Trees.{Trees, no_trees, token, group}

pub data Bare : Type 0 where
  bare_name : List ℕ → Bool → Bare
  bare_lifetime : List ℕ → Bare
  bare_literal : LitKind → List ℕ → Bare
  bare_punct : ℕ → Spacing → Bare
  opening : Delim → Bare
  closing : Delim → Bare

abbrev pub bare : Token → Bare
bare (t.Ident i) = bare_name i.name i.raw
bare (t.Lifetime l) = bare_lifetime l.name
bare (t.Literal l) = bare_literal l.kind l.text
bare (t.Punct p) = bare_punct p.ch p.spacing

-- the tokens of a list of trees, in order, with the delimiters
abbrev pub tokens_of : Trees → List Bare
tokens_of no_trees = []
tokens_of (token k rest) = bare k ∷ tokens_of rest
tokens_of (group d from inside upto rest) = opening d ∷ (tokens_of inside ++ closing d ∷ tokens_of rest)

-- ---- spacing aside

abbrev pub unspaced : Bare → Bare
unspaced (bare_punct c s) = bare_punct c Alone
unspaced (bare_name text raw) = bare_name text raw
unspaced (bare_lifetime text) = bare_lifetime text
unspaced (bare_literal kind text) = bare_literal kind text
unspaced (opening d) = opening d
unspaced (closing d) = closing d

abbrev pub spelled_of : Trees → List Bare
spelled_of ts = map unspaced (tokens_of ts)
