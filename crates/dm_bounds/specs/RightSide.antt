-- What an operator whose right side may be anything declares and asks of that side's type.
use Rattle.std.specs.Prelude.{[], ◌∷◌, false, None, codes}
use Rattle.dm_ast.specs.Tree.{TypeTree}
use Rattle.dm_ast.specs.Declarations.{ParamTree, type_param, PredicateTree, type_predicate}
use Rattle.dm_ast.specs.Implementors.{name_type}
use Rattle.dm_generics.specs.Words.{word}
use Rattle.dm_generics.specs.Lists.{separated}
use Rattle.dm_generics.specs.Bounds.{marker}

-- the parameter that stands for the right side's type
abbrev pub right_type : TypeTree
right_type = name_type (word (codes "__derive_more_Rhs"))

-- that parameter as it is declared
abbrev pub right_param : ParamTree
right_param = type_param [] (word (codes "__derive_more_Rhs")) None None

-- `__derive_more_Rhs: derive_more::core::marker::Copy`
abbrev pub right_copies : PredicateTree
right_copies = type_predicate None right_type (separated (marker false (codes "Copy") ∷ []))
