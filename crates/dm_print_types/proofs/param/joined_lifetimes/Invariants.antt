use Rattle.std.proofs.Common.{◌≡◌, ◌==◌, map, drop, true}
use Rattle.dm_ast.specs.TypeTokens.{spaced, lifetime}
use Rattle.dm_output.specs.Tokens.{punct}
use Rattle.dm_print_types.specs.Laying.{lay}
use Rattle.dm_print_types.proofs.param.joined_lifetimes.Given as goal

abbrev pub invariant-loop-i : goal.invariant-loop-i
invariant-loop-i l =
    lay l.out (spaced (punct 43) (l.i == 0) (map lifetime (drop l.i l.all))) ≡ lay l.initial.out (spaced (punct 43) true (map lifetime l.all))
