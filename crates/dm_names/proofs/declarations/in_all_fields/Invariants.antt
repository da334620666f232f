use Rattle.std.proofs.Common.{◌≡◌, map, flat_map, drop}
use Rattle.dm_ast.specs.Declarations.{field_view}
use Rattle.dm_ast.specs.Names.{in_field}
use Rattle.dm_names.specs.NamePlaces.{first_place}
use Rattle.dm_names.proofs.declarations.in_all_fields.Given as goal

abbrev pub invariant-loop-item : goal.invariant-loop-item
invariant-loop-item l =
    first_place l.wanted (flat_map (in_field 0) (map field_view l.all)) ≡ first_place l.wanted (flat_map (in_field 0) (map field_view (drop l.item-index l.all)))
