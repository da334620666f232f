-- Parts of the calls of macros that functions of their own read.
use Rattle.std.specs.Prelude.{ℕ, Bool, false, List, Option, Some}
use Rattle.dm_stream.specs.Trees.{Trees}
use Rattle.dm_ast.specs.Spelling.{is_word}
use Rattle.dm_ast.specs.Tree.{SegmentTree, segment, absent}
use Rattle.dm_output.specs.Output.{FmtTree, ExprTree, write_expr, format_args}
use Rattle.dm_reread.specs.Next.{next}
use Rattle.dm_reread.specs.Reading.{then, comma_after, read_fmt}
use Rattle.dm_read_places.specs.Turns.{rows, declared_at}

-- a segment without arguments is this word
abbrev pub segment_is : List ℕ → SegmentTree → Bool
segment_is word (segment i absent) = is_word word i
segment_is word (segment i _) = false

-- a comma and a format
abbrev pub fmt_behind_comma : ℕ → Trees → Option FmtTree
fmt_behind_comma n ts = then (comma_after (next ts)) (λ us. read_fmt (rows n) (next us))

-- a name, a comma and a format
abbrev pub named_write : ℕ → Trees → Option ExprTree
named_write n ts = then (declared_at (next ts)) (λ s. then (fmt_behind_comma n s.1) (λ f. Some (write_expr s.0 f)))

abbrev pub format_args_from : ℕ → Trees → Option ExprTree
format_args_from n ts = then (read_fmt (rows n) (next ts)) (λ f. Some (format_args f))
