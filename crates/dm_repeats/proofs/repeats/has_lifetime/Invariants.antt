use Rattle.std.proofs.Common.{◌≡◌, map, drop}
use Rattle.std.specs.List.{list_any}
use Rattle.dm_ast.specs.Declarations.{param_view}
use Rattle.dm_repeats.specs.Repeats.{is_lifetime_called}
use Rattle.dm_repeats.proofs.repeats.has_lifetime.Given as goal

abbrev pub invariant-loop-param : goal.invariant-loop-param
invariant-loop-param l = list_any (is_lifetime_called l.name) (map param_view l.all) ≡ list_any (is_lifetime_called l.name) (map param_view (drop l.param-index l.all))
