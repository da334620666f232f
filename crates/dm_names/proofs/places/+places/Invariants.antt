use Rattle.std.proofs.Common.{◌≡◌, map, drop}
use Rattle.dm_ast.specs.Tree.{ty_view, bound_view, input_view, segment_view, argument_view, types_of, bounds_of, inputs_of, segments_of, arguments_of}
use Rattle.dm_ast.specs.Names.{in_types, in_bounds, in_inputs, in_segments, in_arguments}
use Rattle.dm_names.specs.NamePlaces.{first_place}
use Rattle.dm_names.proofs.places.+places.Given as goal

abbrev pub invariant-in_types-loop-item : goal.invariant-in_types-loop-item
invariant-in_types-loop-item l =
    first_place l.wanted (in_types (types_of (map ty_view l.all))) ≡ first_place l.wanted (in_types (types_of (map ty_view (drop l.item-index l.all))))

abbrev pub invariant-in_inputs-loop-item : goal.invariant-in_inputs-loop-item
invariant-in_inputs-loop-item l =
    first_place l.wanted (in_inputs (inputs_of (map input_view l.all))) ≡ first_place l.wanted (in_inputs (inputs_of (map input_view (drop l.item-index l.all))))

abbrev pub invariant-in_bounds-loop-item : goal.invariant-in_bounds-loop-item
invariant-in_bounds-loop-item l =
    first_place l.wanted (in_bounds (bounds_of (map bound_view l.all))) ≡ first_place l.wanted (in_bounds (bounds_of (map bound_view (drop l.item-index l.all))))

abbrev pub invariant-in_segments-loop-item : goal.invariant-in_segments-loop-item
invariant-in_segments-loop-item l =
    first_place l.wanted (in_segments (segments_of (map segment_view l.all))) ≡ first_place l.wanted (in_segments (segments_of (map segment_view (drop l.item-index l.all))))

abbrev pub invariant-in_arguments-loop-item : goal.invariant-in_arguments-loop-item
invariant-in_arguments-loop-item l =
    first_place l.wanted (in_arguments (arguments_of (map argument_view l.all))) ≡
    first_place l.wanted (in_arguments (arguments_of (map argument_view (drop l.item-index l.all))))
