use Rattle.std.proofs.Common.{◌≡◌, map, drop}
use Rattle.dm_ast.specs.Names.{name_at, bound}
use Rattle.dm_names.specs.NamePlaces.{first_place}
use Rattle.dm_names.proofs.places.in_lifetimes.Given as goal

abbrev pub invariant-loop-item : goal.invariant-loop-item
invariant-loop-item l =
    first_place l.wanted (map (λ x. name_at bound x.name x.span) l.all) ≡ first_place l.wanted (map (λ x. name_at bound x.name x.span) (drop l.item-index l.all))
