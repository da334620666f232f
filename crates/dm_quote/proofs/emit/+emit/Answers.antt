use Rattle.std.proofs.Common.{arith, ◌∙◌}
use Rattle.std.proofs.lemmas.List.{drop_all, drop_more, get_or_default, get_or_read}
use Rattle.std.proofs.lemmas.Bool.Decides.{nat_tests}
use Rattle.dm_stream.specs.Trees.{join_assoc, join-no_trees}
use Rattle.dm_ast.proofs.Split.{take_more, take_none}
use Rattle.dm_ast.proofs.View.{view-Ty, view_TyNode-Paren, view_TyNode-Tuple, view_TyNode-Slice, view_TyNode-Array, view_TyNode-Reference, view_TyNode-Pointer, view_TyNode-BareFn, view_TyNode-TraitObject, view_TyNode-ImplTrait, view_TyNode-Infer, view_TyNode-Never, view_TyNode-Path, view_TyNode-Macro, view_Bound-Lifetime, view_Bound-Trait, view-TraitBound, view-BareFn, view-FnArg, view-Path, view-PathSegment, view_PathArguments-Absent, view_PathArguments-Angle, view_PathArguments-Paren, view_GenericArgument-Lifetime, view_GenericArgument-Ty, view_GenericArgument-Const, view_GenericArgument-AssocTy, view_GenericArgument-AssocConst}
use Rattle.dm_quote.proofs.EmitArguments.{constraint_none, constraint_some}
use Rattle.dm_quote.proofs.EmitLater.{later_kept}
use Rattle.dm_quote.proofs.EmitSteps.{qualified_tokens}
use Rattle.dm_quote.proofs.emit.+emit.Goals as goal

pub write_type-returns : goal.write_type-returns
write_type-returns t c = grind (arith, view-Ty)

pub write_node-returns-in-Paren : goal.write_node-returns-in-Paren
write_node-returns-in-Paren t c = grind (arith, view_TyNode-Paren)

pub write_node-returns-in-Tuple : goal.write_node-returns-in-Tuple
write_node-returns-in-Tuple t c = grind (arith, view_TyNode-Tuple)

pub write_node-returns-in-Slice : goal.write_node-returns-in-Slice
write_node-returns-in-Slice t c = grind (arith, view_TyNode-Slice)

pub write_node-returns-in-Array : goal.write_node-returns-in-Array
write_node-returns-in-Array t c = grind (arith, view_TyNode-Array)

pub write_node-returns-in-Reference : goal.write_node-returns-in-Reference
write_node-returns-in-Reference t c = grind (arith, view_TyNode-Reference)

pub write_node-returns-in-Pointer : goal.write_node-returns-in-Pointer
write_node-returns-in-Pointer t c = grind (arith, view_TyNode-Pointer)

pub write_node-returns-in-BareFn : goal.write_node-returns-in-BareFn
write_node-returns-in-BareFn t c = grind (arith, view_TyNode-BareFn)

pub write_node-returns-in_ok-word-in-TraitObject : goal.write_node-returns-in_ok-word-in-TraitObject
write_node-returns-in_ok-word-in-TraitObject t c = grind (arith, view_TyNode-TraitObject, join_assoc)

pub write_node-returns-in_ok-word-in-ImplTrait : goal.write_node-returns-in_ok-word-in-ImplTrait
write_node-returns-in_ok-word-in-ImplTrait t c = grind (arith, view_TyNode-ImplTrait, join_assoc)

pub write_node-returns-in-Infer : goal.write_node-returns-in-Infer
write_node-returns-in-Infer t c = grind (arith, view_TyNode-Infer)

pub write_node-returns-in-Never : goal.write_node-returns-in-Never
write_node-returns-in-Never t c = grind (arith, view_TyNode-Never)

pub write_node-returns-in-None : goal.write_node-returns-in-None
write_node-returns-in-None t c = grind (arith, view_TyNode-Path)

pub write_node-returns-in_ok-write_self-in-Some : goal.write_node-returns-in_ok-write_self-in-Some
write_node-returns-in_ok-write_self-in-Some t c = grind (arith, qualified_tokens, join_assoc)

pub write_node-returns-in-Macro : goal.write_node-returns-in-Macro
write_node-returns-in-Macro t c = grind (arith, view_TyNode-Macro)

pub write_reference-returns : goal.write_reference-returns
write_reference-returns t c = grind (arith, join_assoc)

pub write_pointer-returns : goal.write_pointer-returns
write_pointer-returns t c = grind (arith, join_assoc)

pub write_enclosed-returns : goal.write_enclosed-returns
write_enclosed-returns t c = grind arith

pub write_array-returns : goal.write_array-returns
write_array-returns t c = grind (arith, join_assoc)

pub write_tuple-returns : goal.write_tuple-returns
write_tuple-returns t c = grind arith

pub write_bound-returns-in-Lifetime : goal.write_bound-returns-in-Lifetime
write_bound-returns-in-Lifetime t c = grind (arith, view_Bound-Lifetime)

pub write_bound-returns-in-Trait : goal.write_bound-returns-in-Trait
write_bound-returns-in-Trait t c = grind (arith, view_Bound-Trait)

pub write_trait_bound-returns-then-bound : goal.write_trait_bound-returns-then-bound
write_trait_bound-returns-then-bound t c = grind (arith, view-TraitBound, join_assoc)

pub write_trait_bound-returns : goal.write_trait_bound-returns
write_trait_bound-returns t c = grind (arith, view-TraitBound, join_assoc)

pub write_fn-returns-in-None : goal.write_fn-returns-in-None
write_fn-returns-in-None t c = grind (arith, view-BareFn, join_assoc, join-no_trees)

pub write_fn-returns-in-Some : goal.write_fn-returns-in-Some
write_fn-returns-in-Some t c = grind (arith, view-BareFn, join_assoc)

pub write_output-returns : goal.write_output-returns
write_output-returns t c = grind (arith, join_assoc)

pub write_input-returns : goal.write_input-returns
write_input-returns t c = grind (arith, view-FnArg, join_assoc)

pub write_path-returns : goal.write_path-returns
write_path-returns t c = grind (arith, view-Path, join_assoc)

pub write_self-returns : goal.write_self-returns
write_self-returns t c = grind (arith, join_assoc)

pub write_behind_self-returns : goal.write_behind_self-returns
write_behind_self-returns t c = grind (arith, join_assoc)

pub write_segment-returns : goal.write_segment-returns
write_segment-returns t c = grind (arith, view-PathSegment, join_assoc)

pub write_arguments-returns-in-Absent : goal.write_arguments-returns-in-Absent
write_arguments-returns-in-Absent t c = grind (arith, view_PathArguments-Absent, join-no_trees)

pub write_arguments-returns-in_ok-colons_if-in-Angle : goal.write_arguments-returns-in_ok-colons_if-in-Angle
write_arguments-returns-in_ok-colons_if-in-Angle t c = grind (arith, view_PathArguments-Angle, join_assoc)

pub write_arguments-returns-in-None : goal.write_arguments-returns-in-None
write_arguments-returns-in-None t c = grind (arith, view_PathArguments-Paren, join-no_trees)

pub write_arguments-returns-in-Some : goal.write_arguments-returns-in-Some
write_arguments-returns-in-Some t c = grind (arith, view_PathArguments-Paren, join_assoc)

pub write_angle-returns : goal.write_angle-returns
write_angle-returns t c = grind (arith, join_assoc)

pub write_equal_type-returns : goal.write_equal_type-returns
write_equal_type-returns t c = grind (arith, join_assoc)

pub write_argument-returns-in-Lifetime : goal.write_argument-returns-in-Lifetime
write_argument-returns-in-Lifetime t c = grind (arith, view_GenericArgument-Lifetime)

pub write_argument-returns-in-Ty : goal.write_argument-returns-in-Ty
write_argument-returns-in-Ty t c = grind (arith, view_GenericArgument-Ty)

pub write_argument-returns-in-Const : goal.write_argument-returns-in-Const
write_argument-returns-in-Const t c = grind (arith, view_GenericArgument-Const)

pub write_argument-returns-after-arguments : goal.write_argument-returns-after-arguments
write_argument-returns-after-arguments t c = grind (arith, view_GenericArgument-AssocTy, join_assoc)

pub write_argument-returns-after-arguments-2 : goal.write_argument-returns-after-arguments-2
write_argument-returns-after-arguments-2 t c = grind (arith, view_GenericArgument-AssocConst, join_assoc)

pub write_argument-returns-in-None : goal.write_argument-returns-in-None
write_argument-returns-in-None t c = grind (arith, constraint_none, join_assoc)

pub write_argument-returns-in_ok-write_angle-in-Some-arguments-2 : goal.write_argument-returns-in_ok-write_angle-in-Some-arguments-2
write_argument-returns-in_ok-write_angle-in-Some-arguments-2 t c = grind (arith, constraint_some, join_assoc)

pub write_constraint-returns : goal.write_constraint-returns
write_constraint-returns t c = grind (arith, join_assoc)

pub write_types-loop-i-preserved : goal.write_types-loop-i-preserved
write_types-loop-i-preserved t c = grind (arith, nat_tests, drop_more, get_or_read, get_or_default, join_assoc, join-no_trees)

pub write_types-returns : goal.write_types-returns
write_types-returns t c = grind (arith, drop_all, join_assoc, join-no_trees)

pub write_bounds-loop-i-preserved : goal.write_bounds-loop-i-preserved
write_bounds-loop-i-preserved t c = grind (arith, nat_tests, drop_more, get_or_read, get_or_default, join_assoc, join-no_trees)

pub write_bounds-returns : goal.write_bounds-returns
write_bounds-returns t c = grind (arith, drop_all, join_assoc, join-no_trees)

pub write_inputs-loop-i-preserved : goal.write_inputs-loop-i-preserved
write_inputs-loop-i-preserved t c = grind (arith, nat_tests, drop_more, get_or_read, get_or_default, join_assoc, join-no_trees)

pub write_inputs-returns : goal.write_inputs-returns
write_inputs-returns t c = grind (arith, drop_all, join_assoc, join-no_trees)

pub write_segments-loop-i-preserved : goal.write_segments-loop-i-preserved
write_segments-loop-i-preserved t c = grind (arith, nat_tests, drop_more, get_or_read, get_or_default, join_assoc, join-no_trees)

pub write_segments-returns : goal.write_segments-returns
write_segments-returns t c = grind (arith, drop_all, join-no_trees)

pub write_angle_items-loop-i-preserved : goal.write_angle_items-loop-i-preserved
write_angle_items-loop-i-preserved t c = grind (arith, nat_tests, drop_more, get_or_read, get_or_default, join_assoc, join-no_trees)

pub write_angle_items-returns : goal.write_angle_items-returns
write_angle_items-returns t c = grind (arith, drop_all, join_assoc, join-no_trees)

pub write_first-loop-i-preserved : goal.write_first-loop-i-preserved
write_first-loop-i-preserved t c = grind (arith, nat_tests, drop_more, get_or_read, get_or_default, take_more, join_assoc, join-no_trees)

pub write_first-returns-then-i-position : goal.write_first-returns-then-i-position
write_first-returns-then-i-position t c = grind (arith, take_none, join-no_trees)

-- The loop's invariant past the trait's segments.
pub write_later-loop-i-preserved : goal.write_later-loop-i-preserved
write_later-loop-i-preserved t c = (
  later_kept _ _ _ _ _ _ _ _ _ c.loop-i-test.true c.index-all-i.is (omega arith) c.in_ok-joint.ensures.added c.in_ok-write_segment.ensures.added c.loop-i.invariant.0,
  c.in_ok-write_segment.ensures.limit ∙ c.in_ok-joint.ensures.limit ∙ c.loop-i.invariant.1,
)
