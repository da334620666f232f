use Rattle.std.proofs.Common.{◌≡◌, ◌++◌, map, drop, filter}
use Rattle.dm_ast.specs.Declarations.{param_view}
use Rattle.dm_ast.specs.Implementors.{bare}
use Rattle.dm_generics.specs.Parameters.{chosen}
use Rattle.dm_generics.proofs.parameters.add_bare_ones.Given as goal

abbrev pub invariant-loop-param : goal.invariant-loop-param
invariant-loop-param l =
    map param_view l.out ++ map bare (filter (chosen l.chosen) (map param_view (drop l.param-index l.all))) ≡
    map param_view l.initial.out ++ map bare (filter (chosen l.chosen) (map param_view l.all))
