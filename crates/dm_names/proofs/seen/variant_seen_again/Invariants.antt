use Rattle.std.proofs.Common.{◌≡◌, ℕ, List, [], map, take, drop}
use Rattle.std.specs.List.{list_any}
use Rattle.dm_ast.specs.Declarations.{variant_view}
use Rattle.dm_repeats.specs.Repeats.{repeats, variant_again, is_variant_called}
use Rattle.dm_names.specs.SeenNames.{was_seen}
use Rattle.dm_names.proofs.seen.variant_seen_again.Given as goal

abbrev pub invariant-loop-variant : goal.invariant-loop-variant
invariant-loop-variant l =
    (repeats variant_again [] (map variant_view l.all) ≡
    repeats variant_again (map variant_view (take l.variant-index l.all)) (map variant_view (drop l.variant-index l.all))) ×
    ((q : List ℕ) → was_seen l.seen q ≡ list_any (is_variant_called q) (map variant_view (take l.variant-index l.all)))
