-- Parts of declarations and of heads, without ranges, that their own tokens spell where nothing follows them.
use Rattle.std.specs.Prelude.{◌≡◌, false, List, [], ◌∷◌, Option, Some, None, ⊤}
use Rattle.dm_stream.specs.Layout.{nowhere}
use Rattle.dm_stream.specs.Trees.{Trees, no_trees}
use Rattle.dm_ast.specs.Tree.{TypeTree, PathTree}
use Rattle.dm_ast.specs.TypeTokens.{type_trees, path_trees}
use Rattle.dm_ast.specs.Declarations.{ParamTree, PredicateTree}
use Rattle.dm_ast.specs.Spelling.{Where, Marks, Spelling, deeper, first_too_deep}
use Rattle.dm_ast.specs.TypeGrammar.{type_spelled, path_spelled}
use Rattle.dm_ast.specs.DeclarationGrammar.{param, predicate}
use Rattle.dm_output.specs.Tokens.{param_trees, predicate_trees}
use Rattle.dm_reread.specs.TypeLeaves.{top}

-- these tokens spell it at this place, nothing follows them, and none is too deep
pub record Alone (S : Where → Spelling) (w : Where) (own : Trees) : Type 0 where
  pub marks : Marks
  pub spelled : S w own no_trees marks
  pub within : first_too_deep marks ≡ None

-- between `<` and `>` at the top
abbrev pub inner : Where
inner = deeper top

abbrev pub ParamAlone : ParamTree → Type 0
ParamAlone p = Alone (param p) inner (param_trees p)

abbrev pub PredicateAlone : PredicateTree → Type 0
PredicateAlone x = Alone (predicate x) top (predicate_trees x)

abbrev pub TypeAlone : TypeTree → Type 0
TypeAlone x = Alone (type_spelled x false) top (type_trees x)

abbrev pub TraitAlone : Option PathTree → Type 0
TraitAlone None = ⊤
TraitAlone (Some p) = Alone (path_spelled p) top (path_trees nowhere p)

-- P holds of each
abbrev pub Each : {A : Type 0} → (A → Type 0) → List A → Type 0
Each P [] = ⊤
Each P (x ∷ xs) = P x × Each P xs
