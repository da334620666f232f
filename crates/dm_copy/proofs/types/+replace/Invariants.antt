use Rattle.std.proofs.Common.{◌≡◌, ◌++◌, map, drop}
use Rattle.std.specs.Prelude.{option_copied}
use Rattle.dm_ast.specs.Tree.{ty_view, bound_view, input_view, segment_view, argument_view}
use Rattle.dm_copy.specs.Segments.{own_segment}
use Rattle.dm_copy.specs.Replaced.{replaced_type, replaced_bound, replaced_input, replaced_argument, replaced_segment}
use Rattle.dm_copy.proofs.types.+replace.Given as goal

abbrev pub invariant-replaced_types-loop-ty : goal.invariant-replaced_types-loop-ty
invariant-replaced_types-loop-ty l =
    map ty_view l.items ++ map (replaced_type (own_segment (option_copied l.own))) (map ty_view (drop l.ty-index l.all)) ≡
    map (replaced_type (own_segment (option_copied l.own))) (map ty_view l.all)

abbrev pub invariant-replaced_bounds-loop-bound : goal.invariant-replaced_bounds-loop-bound
invariant-replaced_bounds-loop-bound l =
    map bound_view l.items ++ map (replaced_bound (own_segment (option_copied l.own))) (map bound_view (drop l.bound-index l.all)) ≡
    map (replaced_bound (own_segment (option_copied l.own))) (map bound_view l.all)

abbrev pub invariant-replaced_inputs-loop-input : goal.invariant-replaced_inputs-loop-input
invariant-replaced_inputs-loop-input l =
    map input_view l.items ++ map (replaced_input (own_segment (option_copied l.own))) (map input_view (drop l.input-index l.all)) ≡
    map (replaced_input (own_segment (option_copied l.own))) (map input_view l.all)

abbrev pub invariant-replaced_arguments-loop-argument : goal.invariant-replaced_arguments-loop-argument
invariant-replaced_arguments-loop-argument l =
    map argument_view l.items ++ map (replaced_argument (own_segment (option_copied l.own))) (map argument_view (drop l.argument-index l.all)) ≡
    map (replaced_argument (own_segment (option_copied l.own))) (map argument_view l.all)

abbrev pub invariant-replaced_segments-loop-part : goal.invariant-replaced_segments-loop-part
invariant-replaced_segments-loop-part l =
    map segment_view l.found ++ map (replaced_segment (own_segment (option_copied l.own))) (map segment_view (drop l.part-index l.all)) ≡
    map (replaced_segment (own_segment (option_copied l.own))) (map segment_view l.all)
