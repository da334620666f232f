use Rattle.std.proofs.Common.{◌≡◌, ◌==◌, ◌-◌, [], ◌∷◌, map, take, drop, true, false}
use Rattle.dm_ast.specs.Tree.{ty_view, bound_view, input_view, segment_view, argument_view, types_of, bounds_of, inputs_of, segments_of, arguments_of}
use Rattle.dm_type_levels.specs.Passing.{pass}
use Rattle.dm_type_levels.specs.TypeLevels.{two, spaced_levels, each_type, each_bound, each_input, each_segment, each_argument}
use Rattle.dm_type_levels.proofs.ty.+levels.Given as goal

abbrev pub invariant-spaced_types-loop-i : goal.invariant-spaced_types-loop-i
invariant-spaced_types-loop-i l =
    pass (spaced_levels (l.level ∷ []) (l.i == 0) (each_type l.level (types_of (map ty_view (drop l.i l.all))))) l.at.left.now ≡
    pass (spaced_levels (l.level ∷ []) true (each_type l.level (types_of (map ty_view l.all)))) l.initial.rest

abbrev pub invariant-spaced_bounds-loop-i : goal.invariant-spaced_bounds-loop-i
invariant-spaced_bounds-loop-i l =
    pass (spaced_levels (l.level ∷ []) (l.i == 0) (each_bound l.level (bounds_of (map bound_view (drop l.i l.all))))) l.at.left.now ≡
    pass (spaced_levels (l.level ∷ []) true (each_bound l.level (bounds_of (map bound_view l.all)))) l.initial.rest

abbrev pub invariant-spaced_inputs-loop-i : goal.invariant-spaced_inputs-loop-i
invariant-spaced_inputs-loop-i l =
    pass (spaced_levels (l.level ∷ []) (l.i == 0) (each_input l.level (inputs_of (map input_view (drop l.i l.all))))) l.at.left.now ≡
    pass (spaced_levels (l.level ∷ []) true (each_input l.level (inputs_of (map input_view l.all)))) l.initial.rest

abbrev pub invariant-segments-loop-i : goal.invariant-segments-loop-i
invariant-segments-loop-i l =
    pass (spaced_levels (two l.level) (l.i == 0) (each_segment l.level (segments_of (map segment_view (drop l.i l.all))))) l.at.left.now ≡
    pass (spaced_levels (two l.level) true (each_segment l.level (segments_of (map segment_view l.all)))) l.initial.rest

abbrev pub invariant-spaced_arguments-loop-i : goal.invariant-spaced_arguments-loop-i
invariant-spaced_arguments-loop-i l =
    pass (spaced_levels (l.level ∷ []) (l.i == 0) (each_argument l.level (arguments_of (map argument_view (drop l.i l.all))))) l.at.left.now ≡
    pass (spaced_levels (l.level ∷ []) true (each_argument l.level (arguments_of (map argument_view l.all)))) l.initial.rest

abbrev pub invariant-first-loop-i : goal.invariant-first-loop-i
invariant-first-loop-i l =
    pass (spaced_levels (two l.level) (l.i == 0) (take (l.position - l.i) (each_segment l.level (segments_of (map segment_view (drop l.i l.all)))))) l.at.left.now ≡
    pass (spaced_levels (two l.level) true (take l.position (each_segment l.level (segments_of (map segment_view l.all))))) l.initial.rest

abbrev pub invariant-later-loop-i : goal.invariant-later-loop-i
invariant-later-loop-i l =
    pass (spaced_levels (two l.level) false (drop (l.position - l.i) (each_segment l.level (segments_of (map segment_view (drop l.i l.all)))))) l.at.left.now ≡
    pass (spaced_levels (two l.level) false (drop l.position (each_segment l.level (segments_of (map segment_view l.all))))) l.initial.rest
