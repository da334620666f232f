use Rattle.std.proofs.Common.{◌≡◌, drop}
use Rattle.dm_ast.specs.Tree.{ty_view, bound_view, input_view, segment_view, argument_view}
use Rattle.dm_same.specs.SameTypes.{all_same, same_type, same_bound, same_input, same_segment, same_argument}
use Rattle.dm_same.proofs.same_types.+same.Given as goal

abbrev pub invariant-types_eq-loop-i : goal.invariant-types_eq-loop-i
invariant-types_eq-loop-i l =
    all_same (λ x y. same_type (ty_view x) (ty_view y)) l.a l.b ≡ all_same (λ x y. same_type (ty_view x) (ty_view y)) (drop l.i l.a) (drop l.i l.b)

abbrev pub invariant-bounds_eq-loop-i : goal.invariant-bounds_eq-loop-i
invariant-bounds_eq-loop-i l =
    all_same (λ x y. same_bound (bound_view x) (bound_view y)) l.a l.b ≡ all_same (λ x y. same_bound (bound_view x) (bound_view y)) (drop l.i l.a) (drop l.i l.b)

abbrev pub invariant-inputs_eq-loop-i : goal.invariant-inputs_eq-loop-i
invariant-inputs_eq-loop-i l =
    all_same (λ x y. same_input (input_view x) (input_view y)) l.a l.b ≡ all_same (λ x y. same_input (input_view x) (input_view y)) (drop l.i l.a) (drop l.i l.b)

abbrev pub invariant-segments_eq-loop-i : goal.invariant-segments_eq-loop-i
invariant-segments_eq-loop-i l =
    all_same (λ x y. same_segment (segment_view x) (segment_view y)) l.a l.b ≡ all_same (λ x y. same_segment (segment_view x) (segment_view y)) (drop l.i l.a) (drop l.i l.b)

abbrev pub invariant-arguments_eq-loop-i : goal.invariant-arguments_eq-loop-i
invariant-arguments_eq-loop-i l =
    all_same (λ x y. same_argument (argument_view x) (argument_view y)) l.a l.b ≡ all_same (λ x y. same_argument (argument_view x) (argument_view y)) (drop l.i l.a) (drop l.i l.b)
