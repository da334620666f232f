use Rattle.std.proofs.Common.{◌≡◌, ℕ, List, [], map, take, drop}
use Rattle.std.specs.List.{list_any}
use Rattle.dm_ast.specs.Declarations.{field_view}
use Rattle.dm_repeats.specs.Repeats.{repeats, field_again, is_field_called}
use Rattle.dm_names.specs.SeenNames.{was_seen}
use Rattle.dm_names.proofs.seen.field_seen_again.Given as goal

abbrev pub invariant-loop-field : goal.invariant-loop-field
invariant-loop-field l =
    (repeats field_again [] (map field_view l.all) ≡ repeats field_again (map field_view (take l.field-index l.all)) (map field_view (drop l.field-index l.all))) ×
    ((q : List ℕ) → was_seen l.seen q ≡ list_any (is_field_called q) (map field_view (take l.field-index l.all)))
