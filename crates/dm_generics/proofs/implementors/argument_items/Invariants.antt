use Rattle.std.proofs.Common.{◌≡◌, ◌++◌, map, drop}
use Rattle.dm_ast.specs.Tree.{argument_view}
use Rattle.dm_ast.specs.Declarations.{param_view}
use Rattle.dm_ast.specs.Implementors.{argument}
use Rattle.dm_generics.proofs.implementors.argument_items.Given as goal

abbrev pub invariant-loop-param : goal.invariant-loop-param
invariant-loop-param l =
    map argument_view l.out ++ map argument (map param_view (drop l.param-index l.params)) ≡ map argument (map param_view l.params)
