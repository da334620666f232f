-- The arguments for some parameters, as they are gathered.
use Rattle.std.specs.Prelude.{Bool, List, map, filter}
use Rattle.dm_ast.specs.Tree.{ArgumentTree}
use Rattle.dm_ast.specs.Declarations.{ParamTree}
use Rattle.dm_ast.specs.Implementors.{bare, argument}

-- those for the parameters that pass a test
abbrev pub arguments_where : (ParamTree → Bool) → List ParamTree → List ArgumentTree
arguments_where k ps = map argument (map bare (filter k ps))
