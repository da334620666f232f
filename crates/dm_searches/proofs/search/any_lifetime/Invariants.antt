use Rattle.std.proofs.Common.{◌≡◌}
use Rattle.std.specs.List.{list_any}
use Rattle.std.specs.Slice.Iter.{iter_rest}
use Rattle.dm_ast.specs.Tree.{ty_view}
use Rattle.dm_searches.specs.declared.names.Sort.TheVariants as sort
use Rattle.dm_searches.specs.Mentions.{in_type}
use Rattle.dm_searches.specs.Parameters.{lent}
use Rattle.dm_searches.proofs.search.any_lifetime.Given as goal

abbrev pub invariant-loop-item : goal.invariant-loop-item
invariant-loop-item l =
    list_any (λ m. in_type sort.Lifetime m.name (ty_view l.ty)) (lent l.all) ≡ list_any (λ m. in_type sort.Lifetime m.name (ty_view l.ty)) (lent (iter_rest l.item-iterator))
