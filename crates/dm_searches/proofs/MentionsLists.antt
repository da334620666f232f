-- What lists mention a parameter, as the definition goes through them.
use Rattle.std.specs.Prelude.{◌≡◌, ℕ, List, map, refl}
use Rattle.std.specs.List.{list_any}
use Rattle.dm_ast.specs.declared.ty.Bound.{Bound}
use Rattle.dm_ast.specs.declared.ty.FnArg.{FnArg}
use Rattle.dm_ast.specs.declared.ty.GenericArgument.{GenericArgument}
use Rattle.dm_ast.specs.declared.ty.PathSegment.{PathSegment}
use Rattle.dm_ast.specs.declared.ty.Ty.{Ty}
use Rattle.dm_ast.specs.Tree.{types_of, inputs_of, bounds_of, segments_of, arguments_of, ty_view, input_view, bound_view, segment_view, argument_view}
use Rattle.dm_searches.specs.declared.names.Sort.{Sort}
use Rattle.dm_searches.specs.Mentions.{in_type, in_types, in_input, in_inputs, in_bound, in_bounds, in_segment, in_segments, in_argument, in_arguments}
use Rattle.dm_searches.proofs.Steps.{any_is}

pub types_are : (s : Sort) (n : List ℕ) (xs : List Ty) → list_any (λ t. in_type s n (ty_view t)) xs ≡ in_types s n (types_of (map ty_view xs))
types_are s n = any_is (λ t. in_type s n (ty_view t)) (λ ts. in_types s n (types_of (map ty_view ts))) refl (λ y ys. refl)

pub inputs_are : (s : Sort) (n : List ℕ) (xs : List FnArg) → list_any (λ i. in_input s n (input_view i)) xs ≡ in_inputs s n (inputs_of (map input_view xs))
inputs_are s n = any_is (λ i. in_input s n (input_view i)) (λ is. in_inputs s n (inputs_of (map input_view is))) refl (λ y ys. refl)

pub bounds_are : (s : Sort) (n : List ℕ) (xs : List Bound) → list_any (λ b. in_bound s n (bound_view b)) xs ≡ in_bounds s n (bounds_of (map bound_view xs))
bounds_are s n = any_is (λ b. in_bound s n (bound_view b)) (λ bs. in_bounds s n (bounds_of (map bound_view bs))) refl (λ y ys. refl)

pub segments_are : (s : Sort) (n : List ℕ) (xs : List PathSegment) → list_any (λ x. in_segment s n (segment_view x)) xs ≡ in_segments s n (segments_of (map segment_view xs))
segments_are s n = any_is (λ x. in_segment s n (segment_view x)) (λ ss. in_segments s n (segments_of (map segment_view ss))) refl (λ y ys. refl)

pub arguments_are : (s : Sort) (n : List ℕ) (xs : List GenericArgument) → list_any (λ g. in_argument s n (argument_view g)) xs ≡ in_arguments s n (arguments_of (map argument_view xs))
arguments_are s n = any_is (λ g. in_argument s n (argument_view g)) (λ gs. in_arguments s n (arguments_of (map argument_view gs))) refl (λ y ys. refl)
