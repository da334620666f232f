use Rattle.std.proofs.Common.{◌≡◌, drop}
use Rattle.std.specs.List.{list_any}
use Rattle.dm_ast.specs.Tree.{path_view}
use Rattle.dm_searches.specs.Contains.{in_path}
use Rattle.dm_searches.specs.Parameters.{lent}
use Rattle.dm_searches.proofs.contains.path_contains_generics.Given as goal

abbrev pub invariant-loop-item : goal.invariant-loop-item
invariant-loop-item l =
    list_any (λ i. in_path i.name (path_view l.path)) (lent l.params) ≡ list_any (λ i. in_path i.name (path_view l.path)) (lent (drop l.item-index l.params))
