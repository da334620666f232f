use Rattle.std.proofs.Common.{◌≡◌, map, drop}
use Rattle.dm_print_types.specs.Laying.{lay}
use Rattle.dm_output.specs.Output.{patterns_of}
use Rattle.dm_output.specs.Tokens.{ended, each_pattern}
use Rattle.dm_operands.specs.CaseViews.{field_ref_view, naming}
use Rattle.dm_operands.specs.Sides as spec
use Rattle.dm_sides.proofs.pattern.bindings.Given as goal

abbrev pub invariant-loop-i : goal.invariant-loop-i
invariant-loop-i l =
    lay l.out (ended (each_pattern (patterns_of (spec.bindings (naming l.operand) l.i (map field_ref_view (drop l.i l.fields)))))) ≡
    lay l.initial.out (ended (each_pattern (patterns_of (spec.bindings (naming l.operand) 0 (map field_ref_view l.fields)))))
