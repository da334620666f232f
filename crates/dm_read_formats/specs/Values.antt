-- Parts of the rows of formats that functions of their own read.
use Rattle.std.specs.Prelude.{◌≡◌, ◌&&◌, ◌||◌, not, ◌==◌, Bool, true, Option, Some, None, Result, Ok, Err}
use Rattle.dm_stream.specs.declared.tokens.Ident.{Ident}
use Rattle.dm_stream.specs.declared.tokens.Punct.{Punct}
use Rattle.dm_stream.specs.Trees.{Trees, no_trees, token, group}
use Rattle.dm_expr.specs.Cuts.{is_char, pair_at}
use Rattle.dm_expr.specs.Reach.{is_there}
use Rattle.dm_ast.specs.Keywords.{is_name}
use Rattle.dm_reread.specs.Reading.{is_alone, alias_of}

-- ---- what isn't read

-- the first tree is no `|`, and no `<` without its `>`
abbrev pub closes : Trees → Bool
closes no_trees = true
closes (token k ts) = (not (is_char 60 k) || is_there (pair_at 60 62 (token k ts))) && not (is_char 124 k)
closes (group d from inside upto ts) = true

-- ---- formats

-- whether a name and a punct are an alias
abbrev pub is_alias : Ident → Punct → Bool
is_alias i p = (is_alone p.spacing && (p.ch == 61)) && is_name i

-- a name in front of a lone `=` is passed
abbrev pub Aliased : {E : Type 0} → Trees → Result (Option Ident) E → Trees → Type 0
Aliased old (Ok None) new = (alias_of old ≡ None) × (new ≡ old)
Aliased old (Ok (Some i)) new = alias_of old ≡ Some (i, new)
Aliased old (Err e) new = Unit {0}
