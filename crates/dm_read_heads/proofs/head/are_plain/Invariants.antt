use Rattle.std.proofs.Common.{◌≡◌, true, map, drop}
use Rattle.dm_ast.specs.Declarations.{param_view}
use Rattle.dm_reread.specs.HeadLeaves as plain
use Rattle.dm_read_heads.proofs.head.are_plain.Given as goal

abbrev pub invariant-loop-param : goal.invariant-loop-param
invariant-loop-param l =
    plain.are_plain l.lifetimes (map param_view (drop l.param-index l.params)) ≡ plain.are_plain true (map param_view l.params)
