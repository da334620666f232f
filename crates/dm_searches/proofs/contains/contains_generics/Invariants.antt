use Rattle.std.proofs.Common.{◌≡◌, drop}
use Rattle.std.specs.List.{list_any}
use Rattle.dm_ast.specs.Tree.{ty_view}
use Rattle.dm_searches.specs.Contains.{in_type}
use Rattle.dm_searches.specs.Parameters.{lent}
use Rattle.dm_searches.proofs.contains.contains_generics.Given as goal

abbrev pub invariant-loop-item : goal.invariant-loop-item
invariant-loop-item l =
    list_any (λ i. in_type i.name (ty_view l.ty)) (lent l.params) ≡ list_any (λ i. in_type i.name (ty_view l.ty)) (lent (drop l.item-index l.params))
