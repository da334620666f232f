-- What an operator gives, in parts.
use Rattle.std.specs.Prelude.{[], ◌∷◌, codes}
use Rattle.dm_ast.specs.Tree.{TypeTree, ArgumentTree, assoc_type, arguments_absent}
use Rattle.dm_ast.specs.Declarations.{Declaration}
use Rattle.dm_ast.specs.Implementors.{implementor}
use Rattle.dm_output.specs.Output.{AssocTree}
use Rattle.dm_generics.specs.Words.{word}
use Rattle.dm_operators.specs.Heads.{result_of}

-- `Output = T`
abbrev pub output_given : TypeTree → ArgumentTree
output_given t = assoc_type (word (codes "Output")) arguments_absent t

-- `type Output = T;`
abbrev pub named : TypeTree → AssocTree
named t = record { name = word (codes "Output"); ty = t }

-- derive_more::core::result::Result<T, derive_more::UnitError>, for the declared type
abbrev pub unary_result : Declaration → TypeTree
unary_result d = result_of (implementor d) (codes "derive_more" ∷ codes "UnitError" ∷ [])
