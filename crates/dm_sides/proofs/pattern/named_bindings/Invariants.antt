use Rattle.std.proofs.Common.{◌≡◌, map, drop}
use Rattle.dm_print_types.specs.Laying.{lay}
use Rattle.dm_output.specs.Output.{named_of}
use Rattle.dm_output.specs.Tokens.{ended, each_named}
use Rattle.dm_operands.specs.CaseViews.{field_ref_view, naming}
use Rattle.dm_operands.specs.Sides as spec
use Rattle.dm_sides.proofs.pattern.named_bindings.Given as goal

abbrev pub invariant-loop-i : goal.invariant-loop-i
invariant-loop-i l =
    lay l.out (ended (each_named (named_of (spec.named_bindings (naming l.operand) l.i (map field_ref_view (drop l.i l.fields)))))) ≡
    lay l.initial.out (ended (each_named (named_of (spec.named_bindings (naming l.operand) 0 (map field_ref_view l.fields)))))
