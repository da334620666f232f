use Rattle.std.proofs.Common.{drop}
use Rattle.dm_attr.proofs.Folding.{GoesOn}
use Rattle.dm_attr.proofs.fold.parse_attrs_with.Given as goal

-- what is left goes on from what was found
abbrev pub invariant-loop-attr : goal.invariant-loop-attr
invariant-loop-attr g l =
    GoesOn (λ a. g.T.ParseMultiple.reads_attr a (g.P.Parser.meaning l.fn.parser)) g.T.ParseMultiple.merges
    l.fn.name (drop l.attr-index l.attrs) l.found l.fn.attrs
