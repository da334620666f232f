-- The readers of metas.
use Rattle.std.specs.Prelude.{Bool, true, false, if◌then◌else◌, Ok, Err}
use Rattle.dm_stream.specs.declared.tokens.Ident.{Ident}
use Rattle.dm_stream.specs.declared.tokens.Literal.{Literal}
use Rattle.dm_stream.specs.declared.tokens.Delim.TheVariants.{Paren}
use Rattle.dm_stream.specs.declared.tokens.Span.{Span}
use Rattle.dm_stream.specs.declared.error.Error.{Error}
use Rattle.dm_stream.specs.declared.error.Error.TheVariants as error
use Rattle.dm_stream.specs.declared.error.Kind.{Kind}
use Rattle.dm_stream.specs.declared.error.Kind.TheVariants.{Syntax}
use Rattle.dm_stream.specs.declared.error.Refusal.{Refusal}
use Rattle.dm_stream.specs.Trees.{Trees, Stream}
use Rattle.dm_ast.specs.Tree.{PathTree}
use Rattle.dm_ast.specs.Spelling.{Where, sees_group, sees_literal}
use Rattle.dm_ast.specs.Readers.{Outcome, Parser, and_then, mapped, ◌and◌, ◌gives◌, read_any, read_literal, read_group, read_rest}
use Rattle.dm_read_paths.specs.TypeReaders.{read_type}
use Rattle.dm_read_paths.specs.BarePaths.{read_bare_path}
use Rattle.dm_meta.specs.Metas.{PathOrKeywordTree, a_path, keyword, MetaListTree, MetaTree, path_meta, list_meta, NestedMetaTree, nested, lit}

abbrev pub is_syntax : Kind → Bool
is_syntax Syntax = true
is_syntax _ = false

abbrev pub keyword_of : Ident → PathOrKeywordTree
keyword_of i = keyword i

abbrev pub read_keyword : Where → Parser PathOrKeywordTree
read_keyword w = read_any w gives keyword_of

abbrev pub if_no_path : Where → Trees → Outcome PathTree → Outcome PathOrKeywordTree
if_no_path w ts (Ok p) = Ok (a_path p.0, p.1)
if_no_path w ts (Err r) = if is_syntax r.kind then mapped keyword_of (read_any w ts) else Err r

-- a path, or else any identifier
abbrev pub read_path_or_keyword : Where → Parser PathOrKeywordTree
read_path_or_keyword w ts = if_no_path w ts (read_bare_path (read_type 129) w ts)

-- trees in parentheses
abbrev pub read_enclosed : Where → Parser Stream
read_enclosed w = read_group Paren read_rest w

abbrev pub list_of : PathOrKeywordTree × Stream → MetaListTree
list_of v = record { path = v.0; tokens = v.1 }

abbrev pub read_meta_list : Where → Parser MetaListTree
read_meta_list w = (read_path_or_keyword w and read_enclosed w) gives list_of

abbrev pub list_behind : PathOrKeywordTree → Stream → MetaTree
list_behind p s = list_meta (record { path = p; tokens = s })

-- what follows a path or a keyword
abbrev pub behind_path : Where → PathOrKeywordTree → Parser MetaTree
behind_path w p ts = if sees_group Paren ts then mapped (list_behind p) (read_enclosed w ts) else Ok (path_meta p, ts)

abbrev pub read_meta : Where → Parser MetaTree
read_meta w ts = and_then (read_path_or_keyword w ts) (behind_path w)

abbrev pub lit_of : Literal → NestedMetaTree
lit_of l = lit l

abbrev pub read_lit : Where → Parser NestedMetaTree
read_lit w = read_literal w gives lit_of

abbrev pub nested_of : MetaTree → NestedMetaTree
nested_of m = nested m

abbrev pub read_nested_meta : Where → Parser NestedMetaTree
read_nested_meta w ts = if sees_literal ts then mapped lit_of (read_literal w ts) else mapped nested_of (read_meta w ts)

-- ---- where a refusal stands

-- at this range where nothing begins
abbrev pub refusal_at : Span → Refusal → Refusal
refusal_at span r = if is_syntax r.kind then record { kind = Syntax; span = span } else r

abbrev pub error_at : Span → Error → Error
error_at span error.NoMemory = error.NoMemory
error_at span (error.Refused r) = error.Refused (refusal_at span r)
