use Rattle.std.proofs.Common.{◌≡◌, ◌++◌, map, drop, filter}
use Rattle.dm_ast.specs.Declarations.{param_view}
use Rattle.dm_generics.specs.Parameters.{chosen}
use Rattle.dm_generics.proofs.parameters.copies.Given as goal

abbrev pub invariant-loop-param : goal.invariant-loop-param
invariant-loop-param l =
    map param_view l.out ++ filter (chosen l.chosen) (map param_view (drop l.param-index l.all)) ≡ filter (chosen l.chosen) (map param_view l.all)
