use Rattle.std.proofs.Common.{◌≡◌, drop}
use Rattle.dm_stream.specs.Trees.{join}
use Rattle.dm_ast.specs.TypeTokens.{attributes_trees}
use Rattle.dm_quote.proofs.emit_parts.write_attributes.Given as goal

abbrev pub invariant-loop-attribute : goal.invariant-loop-attribute
invariant-loop-attribute l =
    (join l.out.trees (attributes_trees (drop l.attribute-index l.all)) ≡ join l.initial.out.trees (attributes_trees l.all)) ×
    (l.out.limit ≡ l.initial.out.limit)
