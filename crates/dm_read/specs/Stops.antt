-- Where lists of the program end, what links their parts, and what they are as plain data.
use Rattle.std.specs.Prelude.{Bool, List, map}
use Rattle.dm_stream.specs.Trees.{Trees}
use Rattle.dm_stream.specs.declared.seq.Punctuated.{Punctuated}
use Rattle.dm_read.specs.declared.list.Stop.{Stop}
use Rattle.dm_read.specs.declared.list.Stop.TheVariants as stop
use Rattle.dm_read.specs.declared.list.Link.{Link}
use Rattle.dm_read.specs.declared.list.Link.TheVariants.{Colons, Plus}
use Rattle.dm_ast.specs.Spelling.{Where, at_end, sees, sees_colons}
use Rattle.dm_ast.specs.TypeGrammar.{ends_bounds}
use Rattle.dm_ast.specs.DeclarationGrammar.{ends_where}
use Rattle.dm_ast.specs.Readers.{Parser, read_colons, read_punct}
use Rattle.dm_read.specs.DeclarationReaders.{ends_lifetimes}

abbrev pub stops : Stop → Trees → Bool
stops stop.End = at_end
stops stop.Angle = sees 62
stops stop.Bounds = ends_bounds
stops stop.Lifetimes = ends_lifetimes
stops stop.Where = ends_where

abbrev pub begins_link : Link → Trees → Bool
begins_link Colons = sees_colons
begins_link Plus = sees 43

abbrev pub reads_link : Link → Where → Parser (Unit {0})
reads_link Colons = read_colons
reads_link Plus = read_punct 43

abbrev pub list_view : {A B : Type 0} → (A → B) → Punctuated A → List B × Bool
list_view f xs = (map f xs.items, xs.trailing)
