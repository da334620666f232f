-- Whether a path of identifiers goes on.
use Rattle.std.specs.Prelude.{Bool, true, false, ◌&&◌}
use Rattle.dm_stream.specs.declared.tokens.Token.TheVariants as t
use Rattle.dm_stream.specs.Trees.{Trees, token}
use Rattle.dm_ast.specs.Spelling.{sees_colons}
use Rattle.dm_ast.specs.Readers.{tail}

abbrev pub sees_ident : Trees → Bool
sees_ident (token (t.Ident i) rest) = true
sees_ident _ = false

-- `::` and an identifier
abbrev pub sees_link : Trees → Bool
sees_link ts = sees_colons ts && sees_ident (tail (tail ts))
