use Rattle.std.proofs.Common.{◌≡◌, ◌++◌, map, drop}
use Rattle.dm_ast.specs.Declarations.{param_view}
use Rattle.dm_generics.specs.Extra.{bound}
use Rattle.dm_generics.specs.Additions.{bounded}
use Rattle.dm_generics.proofs.additions.all_bounded.Given as goal

abbrev pub invariant-loop-param : goal.invariant-loop-param
invariant-loop-param l =
    map param_view l.out ++ map (bounded (bound l.extra)) (map param_view (drop l.param-index l.params)) ≡
    map (bounded (bound l.extra)) (map param_view l.params)
