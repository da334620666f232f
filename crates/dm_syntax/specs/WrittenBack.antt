-- What was read is written with the tokens that it was read from.
use Rattle.std.specs.Prelude.{◌≡◌, ℕ, Bool, List, [], ◌∷◌, ◌++◌}
use Rattle.dm_stream.specs.declared.tokens.Delim.TheVariants.{Paren}
use Rattle.dm_stream.specs.Layout.{nowhere}
use Rattle.dm_stream.specs.Trees.{Trees}
use Rattle.dm_ast.specs.Tree.{TypeTree, PathTree}
use Rattle.dm_ast.specs.Declarations.{PredicateTree, Declaration}
use Rattle.dm_ast.specs.Spelling.{Where, Marks}
use Rattle.dm_ast.specs.TypeGrammar.{type_spelled}
use Rattle.dm_ast.specs.TypeTokens.{type_trees, path_trees, grouped}
use Rattle.dm_ast.specs.DeclarationGrammar.{predicate}
use Rattle.dm_ast.specs.DeclarationTokens.{predicate_trees, declaration_trees}
use Rattle.dm_ast.specs.Parsed.{SpelledBy}
use Rattle.dm_ast.specs.Runs.{last_alone}
use Rattle.dm_type_eq.specs.BareTokens.{Bare, unspaced, tokens_of, spelled_of}
use Rattle.dm_read_paths.specs.BarePaths.{bare_path}
use Rattle.dm_syntax.specs.Unread.{Part, whole, cut, in_declaration}
use Rattle.dm_meta.specs.Metas.{PathOrKeywordTree, MetaListTree, MetaTree, NestedMetaTree, path_or_keyword, meta_list, meta_spelled, nested_meta, path_or_keyword_trees, meta_list_trees, meta_trees, nested_meta_trees}

-- the trees have these in front, before the others, ranges aside
abbrev pub Keeps : Trees → Trees → Trees → Type 0
Keeps front ts others = tokens_of ts ≡ tokens_of front ++ tokens_of others

-- the same, spacing aside too
abbrev pub Gives : Trees → Trees → Trees → Type 0
Gives front ts others = spelled_of ts ≡ spelled_of front ++ spelled_of others

-- a path or a keyword, and behind it the group just as it stands
pub record IsListBack (l : MetaListTree) (ts others : Trees) : Type 0 where
  pub behind : Trees
  pub path : Gives (path_or_keyword_trees l.path) ts behind
  pub group : Keeps (grouped Paren l.tokens.trees) behind others
  pub whole : Gives (meta_list_trees l) ts others

-- Tokens that were read, and those that are written: they are the same, but that a punct may be written joint to nothing. These parts stand in
-- both with their spacing; only the last punct of a run is written joint to nothing.
pub data RespacedAround : List Part → List Bare → List Bare → Type 0 where
  nothing : RespacedAround [] [] []
  same : {parts : List Part} {read written : List Bare} (a : Bare) → RespacedAround parts read written → RespacedAround parts (a ∷ read) (a ∷ written)
  alone : {parts : List Part} {read written : List Bare} (a : Bare) → RespacedAround parts read written → RespacedAround parts (a ∷ read) (unspaced a ∷ written)
  stands : {parts : List Part} {read written : List Bare} (p : Trees) → RespacedAround parts read written →
      RespacedAround (whole p ∷ parts) (tokens_of p ++ read) (tokens_of p ++ written)
  cut_off : {parts : List Part} {read written : List Bare} (p : Trees) → RespacedAround parts read written →
      RespacedAround (cut (last_alone p) ∷ parts) (tokens_of p ++ read) (tokens_of (last_alone p) ++ written)

-- a declaration is written with all tokens of its trees, spacing aside; and what is not read with its spacing
pub record IsDeclarationBack (d : Declaration) (ts : Trees) : Type 0 where
  pub spelled : spelled_of ts ≡ spelled_of (declaration_trees d)
  pub spacing : RespacedAround (in_declaration d) (tokens_of ts) (tokens_of (declaration_trees d))

-- whatever types, paths, metas and predicates trees begin with, their tokens are those that stand there; and a declaration has all tokens of
-- its trees
pub record TokensComeBack : Type 0 where
  pub types : (x : TypeTree) (single : Bool) (w : Where) (ts others : Trees) (m : Marks) → type_spelled x single w ts others m → Gives (type_trees x) ts others
  pub paths : (p : PathTree) (w : Where) (ts others : Trees) (m : Marks) → bare_path p w ts others m → Gives (path_trees nowhere p) ts others
  pub words : (x : PathOrKeywordTree) (w : Where) (ts others : Trees) (m : Marks) → path_or_keyword x w ts others m → Gives (path_or_keyword_trees x) ts others
  pub lists : (l : MetaListTree) (w : Where) (ts others : Trees) (m : Marks) → meta_list l w ts others m → IsListBack l ts others
  pub metas : (x : MetaTree) (w : Where) (ts others : Trees) (m : Marks) → meta_spelled x w ts others m → Gives (meta_trees x) ts others
  pub nested : (x : NestedMetaTree) (w : Where) (ts others : Trees) (m : Marks) → nested_meta x w ts others m → Gives (nested_meta_trees x) ts others
  pub predicates : (p : PredicateTree) (w : Where) (ts others : Trees) (m : Marks) → predicate p w ts others m → Gives (predicate_trees p) ts others
  pub declarations : (d : Declaration) (limit : ℕ) (ts : Trees) (m : Marks) → SpelledBy d limit ts m → IsDeclarationBack d ts
