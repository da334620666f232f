use Rattle.std.proofs.Common.{◌≡◌, ◌==◌, ◌-◌, map, take, drop, true, false}
use Rattle.dm_stream.specs.Trees.{join}
use Rattle.dm_ast.specs.Tree.{ty_view, bound_view, input_view, segment_view, argument_view, types_of, bounds_of, inputs_of, segments_of, arguments_of}
use Rattle.dm_ast.specs.TypeTokens.{spaced, punct, colons, each_type, each_bound, each_input, each_segment, each_argument}
use Rattle.dm_quote.proofs.emit.+emit.Given as goal

abbrev pub invariant-write_types-loop-i : goal.invariant-write_types-loop-i
invariant-write_types-loop-i l =
    (join l.out.trees (spaced (punct 44 l.span) (l.i == 0) (each_type (types_of (map ty_view (drop l.i l.all))))) ≡ join l.initial.out.trees (spaced (punct 44 l.span) true (each_type (types_of (map ty_view l.all))))) ×
    (l.out.limit ≡ l.initial.out.limit)

abbrev pub invariant-write_bounds-loop-i : goal.invariant-write_bounds-loop-i
invariant-write_bounds-loop-i l =
    (join l.out.trees (spaced (punct 43 l.span) (l.i == 0) (each_bound l.span (bounds_of (map bound_view (drop l.i l.all))))) ≡ join l.initial.out.trees (spaced (punct 43 l.span) true (each_bound l.span (bounds_of (map bound_view l.all))))) ×
    (l.out.limit ≡ l.initial.out.limit)

abbrev pub invariant-write_inputs-loop-i : goal.invariant-write_inputs-loop-i
invariant-write_inputs-loop-i l =
    (join l.out.trees (spaced (punct 44 l.span) (l.i == 0) (each_input l.span (inputs_of (map input_view (drop l.i l.all))))) ≡ join l.initial.out.trees (spaced (punct 44 l.span) true (each_input l.span (inputs_of (map input_view l.all))))) ×
    (l.out.limit ≡ l.initial.out.limit)

abbrev pub invariant-write_segments-loop-i : goal.invariant-write_segments-loop-i
invariant-write_segments-loop-i l =
    (join l.out.trees (spaced (colons l.span) (l.i == 0) (each_segment l.span (segments_of (map segment_view (drop l.i l.all))))) ≡ join l.initial.out.trees (spaced (colons l.span) true (each_segment l.span (segments_of (map segment_view l.all))))) ×
    (l.out.limit ≡ l.initial.out.limit)

abbrev pub invariant-write_angle_items-loop-i : goal.invariant-write_angle_items-loop-i
invariant-write_angle_items-loop-i l =
    (join l.out.trees (spaced (punct 44 l.span) (l.i == 0) (each_argument l.span (arguments_of (map argument_view (drop l.i l.all))))) ≡ join l.initial.out.trees (spaced (punct 44 l.span) true (each_argument l.span (arguments_of (map argument_view l.all))))) ×
    (l.out.limit ≡ l.initial.out.limit)

abbrev pub invariant-write_first-loop-i : goal.invariant-write_first-loop-i
invariant-write_first-loop-i l =
    (join l.out.trees (spaced (colons l.span) (l.i == 0) (take (l.position - l.i) (each_segment l.span (segments_of (map segment_view (drop l.i l.all)))))) ≡
    join l.initial.out.trees (spaced (colons l.span) true (take l.position (each_segment l.span (segments_of (map segment_view l.all)))))) ×
    (l.out.limit ≡ l.initial.out.limit)

abbrev pub invariant-write_later-loop-i : goal.invariant-write_later-loop-i
invariant-write_later-loop-i l =
    (join l.out.trees (spaced (colons l.span) false (drop (l.position - l.i) (each_segment l.span (segments_of (map segment_view (drop l.i l.all)))))) ≡
    join l.initial.out.trees (spaced (colons l.span) false (drop l.position (each_segment l.span (segments_of (map segment_view l.all)))))) ×
    (l.out.limit ≡ l.initial.out.limit)
