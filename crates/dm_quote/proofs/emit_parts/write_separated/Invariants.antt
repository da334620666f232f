use Rattle.std.proofs.Common.{◌≡◌, ◌==◌, map, drop, true}
use Rattle.dm_stream.specs.Trees.{join}
use Rattle.dm_ast.specs.TypeTokens.{spaced}
use Rattle.dm_quote.specs.Separators.{separator_trees}
use Rattle.dm_quote.proofs.emit_parts.write_separated.Given as goal

abbrev pub invariant-loop-i : goal.invariant-loop-i
invariant-loop-i g l =
    (join l.out.trees (spaced (separator_trees l.separator l.span) (l.i == 0) (map g.T.Item.trees_of (drop l.i l.all))) ≡
    join l.initial.out.trees (spaced (separator_trees l.separator l.span) true (map g.T.Item.trees_of l.all))) × (l.out.limit ≡ l.initial.out.limit)
