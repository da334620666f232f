use Rattle.std.proofs.Common.{◌≡◌, map, drop}
use Rattle.dm_ast.specs.Declarations.{variant_view}
use Rattle.dm_ast.specs.Names.{in_variants}
use Rattle.dm_names.specs.NamePlaces.{first_place}
use Rattle.dm_names.proofs.declarations.in_variants.Given as goal

abbrev pub invariant-loop-item : goal.invariant-loop-item
invariant-loop-item l =
    first_place l.wanted (in_variants 0 (map variant_view l.all)) ≡ first_place l.wanted (in_variants 0 (map variant_view (drop l.item-index l.all)))
