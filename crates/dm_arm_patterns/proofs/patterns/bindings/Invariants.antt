use Rattle.std.proofs.Common.{◌≡◌, ◌++◌, map, drop}
use Rattle.dm_ast.specs.Declarations.{field_view}
use Rattle.dm_output.specs.Views.{pattern_view}
use Rattle.dm_arm_patterns.specs.ArmPatterns as spec
use Rattle.dm_arm_patterns.proofs.patterns.bindings.Given as goal

abbrev pub invariant-loop-n : goal.invariant-loop-n
invariant-loop-n l =
    map pattern_view l.out ++ spec.bindings l.prefix l.skipped l.n (map field_view (drop l.n l.fields)) ≡ spec.bindings l.prefix l.skipped 0 (map field_view l.fields)
