use Rattle.std.proofs.Common.{◌≡◌, map, drop}
use Rattle.dm_ast.specs.Tree.{ty_view, segment_view, argument_view, types_of, segments_of, arguments_of}
use Rattle.dm_searches.specs.Inside.{in_types, in_segments, in_arguments}
use Rattle.dm_searches.proofs.structure.+structure.Given as goal

abbrev pub invariant-in_types-loop-item : goal.invariant-in_types-loop-item
invariant-in_types-loop-item l =
    in_types (ty_view l.needle) (types_of (map ty_view l.all)) ≡ in_types (ty_view l.needle) (types_of (map ty_view (drop l.item-index l.all)))

abbrev pub invariant-in_segments-loop-item : goal.invariant-in_segments-loop-item
invariant-in_segments-loop-item l =
    in_segments (ty_view l.needle) (segments_of (map segment_view l.all)) ≡ in_segments (ty_view l.needle) (segments_of (map segment_view (drop l.item-index l.all)))

abbrev pub invariant-in_arguments-loop-item : goal.invariant-in_arguments-loop-item
invariant-in_arguments-loop-item l =
    in_arguments (ty_view l.needle) (arguments_of (map argument_view l.all)) ≡ in_arguments (ty_view l.needle) (arguments_of (map argument_view (drop l.item-index l.all)))
