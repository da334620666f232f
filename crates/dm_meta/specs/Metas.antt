-- Metas: a path or a keyword, perhaps with trees in parentheses behind it; or a literal. As plain data, with what spells them and their tokens.
use Rattle.std.specs.Prelude.{◌≡◌, ◌<◌, ℕ, Bool, false, ◌||◌, Option, Some, None}
use Rattle.std.specs.Str.{bytes_eq}
use Rattle.std.specs.Prelude.{List}
use Rattle.dm_stream.specs.declared.tokens.Span.{Span}
use Rattle.dm_stream.specs.declared.tokens.Ident.{Ident}
use Rattle.dm_stream.specs.declared.tokens.Literal.{Literal}
use Rattle.dm_stream.specs.declared.tokens.Delim.TheVariants.{Paren}
use Rattle.dm_stream.specs.declared.error.Error.{Error}
use Rattle.dm_stream.specs.declared.error.Error.TheVariants as error
use Rattle.dm_stream.specs.declared.error.Kind.{Kind}
use Rattle.dm_stream.specs.declared.error.Kind.TheVariants.{TooDeep, Syntax}
use Rattle.dm_stream.specs.Trees.{Trees, join, Stream}
use Rattle.dm_stream.specs.Cursors.{first_span}
use Rattle.dm_stream.specs.Layout.{nowhere}
use Rattle.dm_meta.specs.declared.path_or_keyword.PathOrKeyword.{PathOrKeyword}
use Rattle.dm_meta.specs.declared.path_or_keyword.PathOrKeyword.TheVariants as words
use Rattle.dm_meta.specs.declared.meta.MetaList.{MetaList}
use Rattle.dm_meta.specs.declared.meta.Meta.{Meta}
use Rattle.dm_meta.specs.declared.meta.Meta.TheVariants as metas
use Rattle.dm_meta.specs.declared.meta.NestedMeta.{NestedMeta}
use Rattle.dm_meta.specs.declared.meta.NestedMeta.TheVariants as nests
use Rattle.dm_ast.specs.Idents.{path_ident}
use Rattle.dm_ast.specs.Tree.{PathTree, path_tree, segment, no_segments, segment_then, absent, path_view}
use Rattle.dm_ast.specs.Spelling.{Where, Marks, Spelling, deepest, first_too_deep, ◌then◌, Facing, Before, sees, sees_colons, sees_group, ident, literal, GroupAt}
use Rattle.dm_ast.specs.TypeGrammar.{kept}
use Rattle.dm_ast.specs.TypeTokens.{name, path_trees, grouped, literal as literal_trees}
use Rattle.dm_read_paths.specs.BarePaths.{bare_path}
use Rattle.dm_ast.specs.Places.{openers, IsPlaceIn}

pub data PathOrKeywordTree : Type 0 where
  a_path : PathTree → PathOrKeywordTree
  keyword : Ident → PathOrKeywordTree

pub record MetaListTree : Type 0 where
  pub path : PathOrKeywordTree
  pub tokens : Stream

pub data MetaTree : Type 0 where
  path_meta : PathOrKeywordTree → MetaTree
  list_meta : MetaListTree → MetaTree

pub data NestedMetaTree : Type 0 where
  nested : MetaTree → NestedMetaTree
  lit : Literal → NestedMetaTree

-- ---- the views

abbrev pub path_or_keyword_view : PathOrKeyword → PathOrKeywordTree
path_or_keyword_view (words.Path p) = a_path (path_view p)
path_or_keyword_view (words.Keyword i) = keyword i

abbrev pub meta_list_view : MetaList → MetaListTree
meta_list_view l = record { path = path_or_keyword_view l.path; tokens = l.tokens }

abbrev pub meta_view : Meta → MetaTree
meta_view (metas.Path p) = path_meta (path_or_keyword_view p)
meta_view (metas.List l) = list_meta (meta_list_view l)

abbrev pub nested_meta_view : NestedMeta → NestedMetaTree
nested_meta_view (nests.Meta m) = nested (meta_view m)
nested_meta_view (nests.Lit l) = lit l

-- ---- what spells them

-- no bare path stands there, however deep
abbrev pub NoPath : Where → Trees → Type 0
NoPath w ts = (p : PathTree) (others : Trees) (m : Marks) → bare_path p w ts others m → ⊥

-- a keyword is any identifier where no path stands
abbrev pub path_or_keyword : PathOrKeywordTree → Where → Spelling
path_or_keyword (a_path p) w = bare_path p w
path_or_keyword (keyword i) w = Facing (NoPath w) (ident w i)

abbrev pub meta_list : MetaListTree → Where → Spelling
meta_list l w = path_or_keyword l.path w then GroupAt w Paren (kept l.tokens)

abbrev pub meta_spelled : MetaTree → Where → Spelling
meta_spelled (path_meta p) w = Before (λ others. sees_group Paren others ≡ false) (path_or_keyword p w)
meta_spelled (list_meta l) w = meta_list l w

abbrev pub nested_meta : NestedMetaTree → Where → Spelling
nested_meta (nested m) w = meta_spelled m w
nested_meta (lit l) w = literal w l

-- ---- where none is given

-- whether it is a keyword at which a path may have begun, since `<` or `::` stands behind it
abbrev pub begins_path : PathOrKeywordTree → Trees → Bool
begins_path (a_path p) others = false
begins_path (keyword i) others = sees 60 others || sees_colons others

-- behind the word of a list stands its group
abbrev pub list_begins_path : MetaListTree → Trees → Bool
list_begins_path l others = false

abbrev pub meta_begins_path : MetaTree → Trees → Bool
meta_begins_path (path_meta p) others = begins_path p others
meta_begins_path (list_meta l) others = list_begins_path l others

abbrev pub nested_begins_path : NestedMetaTree → Trees → Bool
nested_begins_path (nested m) others = meta_begins_path m others
nested_begins_path (lit l) others = false

-- each is too deep, first in this range, but for a keyword at which a path may have begun: it isn't looked for where that path is too
-- deep. The range is a place in the trees, and in front of it more than 128 tokens stand behind which a level may begin
pub record IsDeepMeta {A : Type 0} (S : A → Spelling) (begins : A → Trees → Bool) (limit : ℕ) (ts : Trees) (range : Span) : Type 0 where
  pub first : (x : A) (others : Trees) (m : Marks) → S x ts others m → begins x others ≡ false → first_too_deep m ≡ Some range
  pub place : IsPlaceIn limit ts range
  pub deep : deepest < openers place.front

-- the trees begin with none, and the range is that of the first tree
pub record IsNoMeta {A : Type 0} (S : A → Spelling) (limit : ℕ) (ts : Trees) (range : Span) : Type 0 where
  pub none : (x : A) (others : Trees) (m : Marks) → ¬ S x ts others m
  pub place : range ≡ first_span ts limit

abbrev pub IsUnreadMeta : {A : Type 0} → (A → Spelling) → (A → Trees → Bool) → Kind → Span → ℕ → Trees → Type 0
IsUnreadMeta S begins TooDeep range limit ts = IsDeepMeta S begins limit ts range
IsUnreadMeta S begins Syntax range limit ts = IsNoMeta S limit ts range
IsUnreadMeta S begins _ range limit ts = ⊥

-- why none is given; want of memory is free
abbrev pub NoMeta : {A : Type 0} → (A → Spelling) → (A → Trees → Bool) → Error → ℕ → Trees → Type 0
NoMeta S begins (error.Refused r) limit ts = IsUnreadMeta S begins r.kind r.span limit ts
NoMeta S begins error.NoMemory limit ts = Unit {0}

-- ---- their tokens

abbrev pub path_or_keyword_trees : PathOrKeywordTree → Trees
path_or_keyword_trees (a_path p) = path_trees nowhere p
path_or_keyword_trees (keyword i) = name i

abbrev pub meta_list_trees : MetaListTree → Trees
meta_list_trees l = join (path_or_keyword_trees l.path) (grouped Paren l.tokens.trees)

abbrev pub meta_trees : MetaTree → Trees
meta_trees (path_meta p) = path_or_keyword_trees p
meta_trees (list_meta l) = meta_list_trees l

abbrev pub nested_meta_trees : NestedMetaTree → Trees
nested_meta_trees (nested m) = meta_trees m
nested_meta_trees (lit l) = literal_trees l

-- ---- one identifier alone

-- the keyword, or the only segment of a path without `::` in front and without arguments
abbrev pub ident_of : PathOrKeywordTree → Option Ident
ident_of (a_path p) = path_ident p
ident_of (keyword i) = Some i

-- `r#` says nothing here
abbrev pub is_named : Option Ident → List ℕ → Bool
is_named None text = false
is_named (Some i) text = bytes_eq i.name text

abbrev pub as_path : PathOrKeywordTree → PathTree
as_path (a_path p) = p
as_path (keyword i) = path_tree false (segment_then (segment i absent) no_segments)
