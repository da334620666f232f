use Rattle.std.proofs.Common.{◌≡◌, ◌++◌, map, drop}
use Rattle.dm_ast.specs.Tree.{segment_view}
use Rattle.dm_generics.specs.Words.{plain_segments}
use Rattle.dm_generics.proofs.names.segments.Given as goal

abbrev pub invariant-loop-name : goal.invariant-loop-name
invariant-loop-name l =
    map segment_view l.out ++ plain_segments (map (λ s. s.now) (drop l.name-index l.names)) ≡ plain_segments (map (λ s. s.now) l.names)
