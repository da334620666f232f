use Rattle.std.proofs.Common.{◌≡◌, ◌==◌, map, drop, true}
use Rattle.dm_ast.specs.Tree.{segment_view, segments_of}
use Rattle.dm_ast.specs.TypeTokens.{spaced, colons, each_segment}
use Rattle.dm_stream.specs.Layout.{nowhere}
use Rattle.dm_print_types.specs.Laying.{lay}
use Rattle.dm_print_types.proofs.path.segments.Given as goal

abbrev pub invariant-loop-i : goal.invariant-loop-i
invariant-loop-i l =
    lay l.out (spaced (colons nowhere) (l.i == 0) (each_segment nowhere (segments_of (map segment_view (drop l.i l.all))))) ≡ lay l.initial.out (spaced (colons nowhere) true (each_segment nowhere (segments_of (map segment_view l.all))))
