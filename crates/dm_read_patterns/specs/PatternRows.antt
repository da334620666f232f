-- Parts of the plain reader's rows of patterns that functions of their own read.
use Rattle.std.specs.Prelude.{ℕ, Option, Some, None}
use Rattle.dm_stream.specs.declared.tokens.Ident.{Ident}
use Rattle.dm_stream.specs.declared.tokens.Literal.{Literal}
use Rattle.dm_stream.specs.Trees.{Trees}
use Rattle.dm_ast.specs.Idents.{path_ident}
use Rattle.dm_ast.specs.Tree.{PathTree}
use Rattle.dm_ast.specs.Keywords.{is_name}
use Rattle.dm_output.specs.declared.pattern.Binding.TheVariants as binding
use Rattle.dm_output.specs.Output.{PatternTree, bind, path_pattern, str_pattern, pair_pattern}
use Rattle.dm_reread.specs.Next.{next}
use Rattle.dm_reread.specs.Leaves.{Answer}
use Rattle.dm_reread.specs.Reading.{then, provided, whole, is_str, comma_after, colon_after}
use Rattle.dm_read_places.specs.Turns.{rows, declared_at}

-- a pattern and a comma
abbrev pub before_comma : ℕ → Trees → Answer PatternTree
before_comma n ts = then ((rows n).pattern ts) (λ a. then (comma_after (next a.1)) (λ us. Some (a.0, us)))

-- `:`, a pattern and a comma
abbrev pub behind_colon : ℕ → Trees → Answer PatternTree
behind_colon n ts = then (colon_after (next ts)) (before_comma n)

-- a name, `:`, a pattern and a comma
abbrev pub field : ℕ → Trees → Answer (Ident × PatternTree)
field n ts = then (declared_at (next ts)) (λ s. then (behind_colon n s.1) (λ a. Some ((s.0, a.0), a.1)))

-- a comma, and a pattern to the end
abbrev pub last : ℕ → Trees → Option PatternTree
last n ts = then (comma_after (next ts)) (λ us. whole ((rows n).pattern us))

-- two patterns to the end
abbrev pub pair : ℕ → Trees → Option PatternTree
pair n ts = then ((rows n).pattern ts) (λ a. then (last n a.1) (λ c. Some (pair_pattern a.0 c)))

-- a string
abbrev pub text : Literal → Option PatternTree
text l = provided (is_str l.kind) (Some (str_pattern l))

-- an identifier, where it may be declared
abbrev pub declared_only : Option Ident → Option Ident
declared_only None = None
declared_only (Some i) = provided (is_name i) (Some i)

abbrev pub declared_name : PathTree → Option Ident
declared_name p = declared_only (path_ident p)

-- a name binds, and else a path is one
abbrev pub name_or_path : Option Ident → PathTree → PatternTree
name_or_path (Some i) p = bind binding.Plain i
name_or_path None p = path_pattern p
