use Rattle.std.proofs.Common.{◌≡◌, map, drop}
use Rattle.std.specs.List.{list_any}
use Rattle.dm_ast.specs.Declarations.{field_view}
use Rattle.dm_repeats.specs.Repeats.{is_field_called}
use Rattle.dm_repeats.proofs.repeats.has_field.Given as goal

abbrev pub invariant-loop-field : goal.invariant-loop-field
invariant-loop-field l = list_any (is_field_called l.name) (map field_view l.all) ≡ list_any (is_field_called l.name) (map field_view (drop l.field-index l.all))
