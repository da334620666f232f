-- Lists whose items are compared one by one.
use Rattle.std.proofs.Common.{◌≡◌, ◌≢◌, suc, Bool, true, false, ◌&&◌, List, [], ◌∷◌, length, map, Option, refl, sym, ap, ap₂, ◌∙◌}
use Rattle.std.proofs.lemmas.Bool.{and_right}
use Rattle.dm_stream.specs.declared.seq.Punctuated.{Punctuated}
use Rattle.dm_stream.specs.declared.tokens.Ident.{Ident}
use Rattle.dm_ast.specs.declared.ty.Bound.{Bound}
use Rattle.dm_ast.specs.declared.ty.GenericArgument.{GenericArgument}
use Rattle.dm_ast.specs.declared.ty.GenericArgument.TheVariants as g
use Rattle.dm_ast.specs.declared.ty.FnArg.{FnArg}
use Rattle.dm_ast.specs.declared.ty.PathSegment.{PathSegment}
use Rattle.dm_ast.specs.declared.ty.Ty.{Ty}
use Rattle.dm_ast.specs.Tree.{ArgumentTree, constraint, ty_view, bound_view, input_view, segment_view, argument_view, maybe_arguments_view, types_of, bounds_of, inputs_of, segments_of, arguments_of}
use Rattle.dm_same.specs.Shapes.{same_binding}
use Rattle.dm_same.specs.SameTypes.{all_same, same_type, same_types, same_name, same_flag, same_maybe_arguments, same_bound, same_bounds, same_input, same_inputs, same_segment, same_segments, same_argument, same_arguments}
use Rattle.dm_ast.proofs.View.{view_steps, view_GenericArgument-Constraint}

pub and_true : (a : Bool) → (a && true) ≡ a
and_true true = refl
and_true false = refl

pub and_none : (a : Bool) → (a && false) ≡ false
and_none true = refl
and_none false = refl

-- ---- lists of the data are lists

-- by what the data say of none and of one item more
alike : {A L : Type 0} (one : A → A → Bool) (all : L → L → Bool) (data_of : List A → L) → all (data_of []) (data_of []) ≡ true →
    ((x y : A) (xs ys : List A) → all (data_of (x ∷ xs)) (data_of (y ∷ ys)) ≡ (one x y && all (data_of xs) (data_of ys))) →
    ((y : A) (ys : List A) → all (data_of []) (data_of (y ∷ ys)) ≡ false) → ((x : A) (xs : List A) → all (data_of (x ∷ xs)) (data_of []) ≡ false) →
    (xs ys : List A) → all (data_of xs) (data_of ys) ≡ all_same one xs ys
alike one all data_of n t l r [] [] = n
alike one all data_of n t l r (x ∷ xs) (y ∷ ys) = t x y xs ys ∙ ap (λ b. one x y && b) (alike one all data_of n t l r xs ys)
alike one all data_of n t l r [] (y ∷ ys) = l y ys
alike one all data_of n t l r (x ∷ xs) [] = r x xs

pub types_alike : (xs ys : List Ty) → same_types (types_of (map ty_view xs)) (types_of (map ty_view ys)) ≡ all_same (λ x y. same_type (ty_view x) (ty_view y)) xs ys
types_alike = alike (λ x y. same_type (ty_view x) (ty_view y)) same_types (λ l. types_of (map ty_view l)) refl (λ _ _ _ _. refl) (λ _ _. refl) (λ _ _. refl)

pub bounds_alike : (xs ys : List Bound) → same_bounds (bounds_of (map bound_view xs)) (bounds_of (map bound_view ys)) ≡ all_same (λ x y. same_bound (bound_view x) (bound_view y)) xs ys
bounds_alike = alike (λ x y. same_bound (bound_view x) (bound_view y)) same_bounds (λ l. bounds_of (map bound_view l)) refl (λ _ _ _ _. refl) (λ _ _. refl) (λ _ _. refl)

pub inputs_alike : (xs ys : List FnArg) → same_inputs (inputs_of (map input_view xs)) (inputs_of (map input_view ys)) ≡ all_same (λ x y. same_input (input_view x) (input_view y)) xs ys
inputs_alike = alike (λ x y. same_input (input_view x) (input_view y)) same_inputs (λ l. inputs_of (map input_view l)) refl (λ _ _ _ _. refl) (λ _ _. refl) (λ _ _. refl)

pub segments_alike : (xs ys : List PathSegment) → same_segments (segments_of (map segment_view xs)) (segments_of (map segment_view ys)) ≡ all_same (λ x y. same_segment (segment_view x) (segment_view y)) xs ys
segments_alike = alike (λ x y. same_segment (segment_view x) (segment_view y)) same_segments (λ l. segments_of (map segment_view l)) refl (λ _ _ _ _. refl) (λ _ _. refl) (λ _ _. refl)

pub arguments_alike : (xs ys : List GenericArgument) → same_arguments (arguments_of (map argument_view xs)) (arguments_of (map argument_view ys)) ≡ all_same (λ x y. same_argument (argument_view x) (argument_view y)) xs ys
arguments_alike = alike (λ x y. same_argument (argument_view x) (argument_view y)) same_arguments (λ l. arguments_of (map argument_view l)) refl (λ _ _ _ _. refl) (λ _ _. refl) (λ _ _. refl)

-- ---- lists of other lengths

pub all_apart : {A B : Type 0} (f : A → B → Bool) (xs : List A) (ys : List B) → length xs ≢ length ys → all_same f xs ys ≡ false
all_apart f [] [] n = absurd (n refl)
all_apart f (x ∷ xs) (y ∷ ys) n = and_right (f x y) (all_same f xs ys) (all_apart f xs ys (λ e. n (ap suc e)))
all_apart f [] (y ∷ ys) n = refl
all_apart f (x ∷ xs) [] n = refl

-- ---- arguments with a name and bounds

pub constraint_alike : (i : Ident) (gs : Option (Punctuated GenericArgument)) (bs : Punctuated Bound) (h : ArgumentTree) →
    same_binding (argument_view (g.Constraint i gs bs)) h ≡ same_argument (constraint i (maybe_arguments_view gs) (bounds_of (map bound_view bs.items)) bs.trailing) h
constraint_alike i gs bs h = ap (λ x. same_binding x h) (view_GenericArgument-Constraint i gs bs)

module _ (i j : Ident) (gs hs : Option (Punctuated GenericArgument)) (bs cs : Punctuated Bound) where
  -- where the names and what is between `<` and `>` are alike, the bounds decide
  pub constraint_is : (k : Bool) → same_name i j ≡ true → same_maybe_arguments (maybe_arguments_view gs) (maybe_arguments_view hs) ≡ true →
      k ≡ (same_bounds (bounds_of (map bound_view bs.items)) (bounds_of (map bound_view cs.items)) && same_flag bs.trailing cs.trailing) →
      k ≡ same_binding (argument_view (g.Constraint i gs bs)) (constraint j (maybe_arguments_view hs) (bounds_of (map bound_view cs.items)) cs.trailing)
  constraint_is k e f h =
      let b : Bool = same_bounds (bounds_of (map bound_view bs.items)) (bounds_of (map bound_view cs.items)) && same_flag bs.trailing cs.trailing in
      h ∙ sym (ap₂ (λ x y. x && y && b) e f) ∙
      sym (constraint_alike i gs bs (constraint j (maybe_arguments_view hs) (bounds_of (map bound_view cs.items)) cs.trailing))

pub ruleset alike_steps = (view_steps, types_alike, bounds_alike, inputs_alike, segments_alike, arguments_alike, all_apart, and_true, and_none, constraint_alike)
