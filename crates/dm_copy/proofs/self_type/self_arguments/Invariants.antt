use Rattle.std.proofs.Common.{◌≡◌, ◌++◌, map, drop}
use Rattle.dm_ast.specs.Tree.{argument_view}
use Rattle.dm_copy.specs.Segments.{argument_of}
use Rattle.dm_copy.proofs.self_type.self_arguments.Given as goal

abbrev pub invariant-loop-argument : goal.invariant-loop-argument
invariant-loop-argument l = map argument_view l.found ++ map argument_of (drop l.argument-index l.all) ≡ map argument_of l.all
