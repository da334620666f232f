use Rattle.std.proofs.Common.{◌≡◌, ◌++◌, map, drop}
use Rattle.dm_ast.specs.Declarations.{param_view}
use Rattle.dm_searches.specs.Parameters.{lent, declared_types, declared_lifetimes, declared_consts}
use Rattle.dm_searches.proofs.search.GenericsSearch.from_generics.Given as goal

abbrev pub invariant-loop-param : goal.invariant-loop-param
invariant-loop-param l =
    let all = map param_view l.g.params.items in
    let rest = map param_view (drop l.param-index l.g.params.items) in
    (declared_types all ≡ lent l.types ++ declared_types rest) × (declared_lifetimes all ≡ lent l.lifetimes ++ declared_lifetimes rest) ×
    (declared_consts all ≡ lent l.consts ++ declared_consts rest)
