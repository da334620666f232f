use Rattle.std.proofs.Common.{◌≡◌, ◌==◌, map, drop, true}
use Rattle.dm_ast.specs.TypeTokens.{spaced}
use Rattle.dm_output.specs.Output.{patterns_of}
use Rattle.dm_output.specs.Views.{pattern_view}
use Rattle.dm_output.specs.Tokens.{punct, each_pattern}
use Rattle.dm_print_types.specs.Laying.{lay}
use Rattle.dm_print.proofs.pattern.patterns.Given as goal

abbrev pub invariant-loop-i : goal.invariant-loop-i
invariant-loop-i l =
    lay l.out (spaced (punct 124) (l.i == 0) (each_pattern (patterns_of (map pattern_view (drop l.i l.all))))) ≡ lay l.initial.out (spaced (punct 124) true (each_pattern (patterns_of (map pattern_view l.all))))
