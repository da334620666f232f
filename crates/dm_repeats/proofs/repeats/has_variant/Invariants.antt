use Rattle.std.proofs.Common.{◌≡◌, map, drop}
use Rattle.std.specs.List.{list_any}
use Rattle.dm_ast.specs.Declarations.{variant_view}
use Rattle.dm_repeats.specs.Repeats.{is_variant_called}
use Rattle.dm_repeats.proofs.repeats.has_variant.Given as goal

abbrev pub invariant-loop-variant : goal.invariant-loop-variant
invariant-loop-variant l = list_any (is_variant_called l.name) (map variant_view l.all) ≡ list_any (is_variant_called l.name) (map variant_view (drop l.variant-index l.all))
