-- Lists with separators.
use Rattle.std.specs.Prelude.{List, Bool, true}
use Rattle.dm_stream.specs.declared.tokens.Span.{Span}
use Rattle.dm_stream.specs.Trees.{Trees, join}
use Rattle.dm_quote.specs.declared.emit_parts.Separator.{Separator}
use Rattle.dm_quote.specs.declared.emit_parts.Separator.TheVariants.{Comma, Plus, Colons}
use Rattle.dm_ast.specs.TypeTokens.{punct, colons, given, spaced}

abbrev pub separator_trees : Separator → Span → Trees
separator_trees Comma s = punct 44 s
separator_trees Plus s = punct 43 s
separator_trees Colons s = colons s

-- a separator between two items, and perhaps after the last
abbrev pub list_trees : Separator → Span → List Trees → Bool → Trees
list_trees separator s items trailing = join (spaced (separator_trees separator s) true items) (given trailing (separator_trees separator s))
