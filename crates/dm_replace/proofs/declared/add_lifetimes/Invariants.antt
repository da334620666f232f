use Rattle.std.proofs.Common.{◌≡◌, ◌++◌, map, drop}
use Rattle.dm_ast.specs.Declarations.{param_view}
use Rattle.dm_ast.specs.Implementors.{is_lifetime}
use Rattle.dm_copy.specs.Segments.{argument_of}
use Rattle.dm_replace.specs.Arguments.{arguments_where}
use Rattle.dm_replace.proofs.declared.add_lifetimes.Given as goal

abbrev pub invariant-loop-param : goal.invariant-loop-param
invariant-loop-param l =
    map argument_of l.found ++ arguments_where is_lifetime (map param_view (drop l.param-index l.params)) ≡
    map argument_of l.initial.found ++ arguments_where is_lifetime (map param_view l.params)
