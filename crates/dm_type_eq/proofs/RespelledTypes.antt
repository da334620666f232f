-- Types are spelled again by their own tokens without places, at the same level or a lower one, and so are the parts of types.
use Rattle.std.proofs.Common.{◌≡◌, ℕ, zero, suc, Bool, true, false, cond, ◌==◌, List, ◌∷◌, take, drop, codes, Some, None, IsTrue, refl, sym, ap, ◌∙◌, arith}
use Rattle.std.proofs.lemmas.Bool.{ne_eqb}
use Rattle.dm_stream.specs.declared.tokens.Span.{Span}
use Rattle.dm_stream.specs.declared.tokens.Delim.TheVariants.{Paren, Bracket}
use Rattle.dm_stream.specs.Layout.{nowhere}
use Rattle.dm_stream.specs.Trees.{Trees, no_trees, join, join-no_trees, join_assoc}
use Rattle.dm_ast.specs.Tree.{TypeTree, type_tree, TypeNode, paren, tuple, slice, array, reference, pointer, bare_fn, trait_object, impl_trait, infer, never, path, macro_type, TypeTrees, no_types, type_then, MaybeType, no_type, some_type, no_self, some_self, BoundTree, outlives, implements, BoundTrees, no_bounds, bound_then, TraitBoundTree, trait_bound, FnTree, fn_tree, InputTree, input, InputTrees, no_inputs, input_then, PathTree, path_tree, SegmentTree, segment, SegmentTrees, no_segments, segment_then, ArgumentsTree, absent, angle, parens, ArgumentTree, lifetime_arg, type_arg, const_arg, assoc_type, assoc_const, constraint, ArgumentTrees, no_arguments, argument_then, MaybeArguments, arguments_absent, some_arguments}
use Rattle.dm_ast.specs.Spelling.{Where, Marks, Facing, ◌then◌, at_end, sees, punct, flag}
use Rattle.dm_ast.specs.TypeGrammar.{sees_macro, is_macro, is_tuple, ends_bounds, opaque, kept, type_spelled, node, types, types_left, output, function, input_spelled, inputs, inputs_left, bound, trait_bound_spelled, some_bounds, more_bounds, bounds, bounds_left, path_spelled, segments, segments_left, qualified, trait_segments, some_segments_left, segment_spelled, arguments_of_segment, arguments, arguments_left, argument, maybe_angled, for_lifetimes}
use Rattle.dm_ast.specs.TypeTokens as spell
use Rattle.dm_type_eq.specs.Unplaced.{unplaced_argument, unplaced_arguments, unplaced_arguments_of, unplaced_bound, unplaced_bounds, unplaced_fn, unplaced_ident, unplaced_input, unplaced_inputs, unplaced_lifetimes, unplaced_maybe_arguments, unplaced_maybe_type, unplaced_node, unplaced_opaque, unplaced_path, unplaced_plain, unplaced_segment, unplaced_segments, unplaced_stream, unplaced_trait, unplaced_type, unplaced_types}
use Rattle.dm_type_eq.proofs.Cutting.{Cut, unseen_sees, unseen_word, unseen_colons, unseen_arrow, unseen_arguments, unseen_named, unseen_either, ends_kept}
use Rattle.dm_type_eq.proofs.CutMacros.{unseen_macro, macro_front}
use Rattle.dm_type_eq.proofs.Respelling.{Lower, below, Again, RespellsIf, Respells, Ending, respells_then, respells_as, respells_before, respells_facing, respells_provided, respells_nothing, respells_absent, respells_flag, respells_ident, respells_lifetime, respells_word, plain, respells_punct, respells_colon, respells_equals, respells_colons, respells_arrow, respells_group, respells_kept, respells_length, Left, respells_last, respells_none, respells_first, respells_next, respells_to_end, respells_angles, respells_plain, respells_ranged, respells_attributes, respells_for, respells_constant, respells_name, respells_maybe_lifetime, respells_abi}

-- ---- macro types

macro_again : (n : TypeNode) (single : Bool) (w : Where) (us ts o : Trees) (m : Marks) → Cut us ts → node (unplaced_node n) single w us o m →
    sees_macro ts ≡ is_macro n →
    sees_macro us ≡ is_macro (unplaced_node n)
macro_again (macro_type p d s) single w us ts o m c x e =
    macro_front w (unplaced_plain p) us x.middle x.rest.middle o x.first_marks x.rest.first_marks x.rest.rest_marks d (kept (unplaced_stream s)) x.first x.rest.first x.rest.rest
macro_again _ single w us ts o m c x e = unseen_macro us ts c e

facing_again : (n : TypeNode) (single : Bool) (v w : Where) → Respells (node n single w) (node (unplaced_node n) single v) (spell.node_trees nowhere (unplaced_node n)) →
    (range : Span) →
    Respells (type_spelled (type_tree n range) single w) (type_spelled (unplaced_type (type_tree n range)) single v)
    (spell.type_trees (unplaced_type (type_tree n range)))
facing_again n single v w f range = respells_ranged range faced
  where
    faced : Respells (Facing (λ ts. sees_macro ts ≡ is_macro n) (node n single w))
        (Facing (λ ts. sees_macro ts ≡ is_macro (unplaced_node n)) (node (unplaced_node n) single v)) (spell.node_trees nowhere (unplaced_node n))
    faced ts others m s o c h =
        let x : Again (node (unplaced_node n) single v) (spell.node_trees nowhere (unplaced_node n)) ts o m = f ts others m s.part o c h in
        record {
          marks = x.marks;
          spelled = record {
            fact = macro_again n single v (join (spell.node_trees nowhere (unplaced_node n)) o) ts o x.marks x.cut x.spelled s.fact;
            part = x.spelled;
          };
          lower = x.lower;
          cut = x.cut;
        }

tuple_again : (ts : TypeTrees) (u : Bool) → IsTrue (is_tuple ts u) → IsTrue (is_tuple (unplaced_types ts) u)
tuple_again no_types u h = h
tuple_again (type_then t no_types) u h = h
tuple_again (type_then t (type_then v ts)) u h = h

-- ---- qualified paths: the segments of the trait, `>`, and the others

abbrev Cleft : ℕ → List Trees → Trees
Cleft n xs =
    join (spell.spaced (spell.colons nowhere) true (take (suc n) xs)) (join (spell.punct 62 nowhere) (spell.spaced (spell.colons nowhere) false (drop (suc n) xs)))

suc_apart : (n : ℕ) → (suc n == 0) ≡ false
suc_apart n = ne_eqb (suc n) 0 (λ e. omega (arith, e))

behind_as : (n : ℕ) (b : Bool) (xs : List Trees) →
    join (spell.word (codes "as") nowhere) (join (spell.given b (spell.colons nowhere)) (Cleft n xs)) ≡ spell.behind_self_trees nowhere (suc n) b xs
behind_as n b xs =
    let front : Trees = spell.given b (spell.colons nowhere) in
    let first : Trees = spell.spaced (spell.colons nowhere) true (take (suc n) xs) in
    let behind : Trees = join (spell.punct 62 nowhere) (spell.spaced (spell.colons nowhere) false (drop (suc n) xs)) in
    ap (λ v. join (spell.word (codes "as") nowhere) v) (sym (join_assoc front first behind)) ∙
    sym (join_assoc (spell.word (codes "as") nowhere) (join front first) behind) ∙
    ap (λ z. join (cond z no_trees (join (spell.word (codes "as") nowhere) (join front first))) behind) (sym (suc_apart n))

cleft_last : (x : Trees) (xs : List Trees) → join x (join (spell.punct 62 nowhere) (spell.spaced (spell.colons nowhere) false xs)) ≡ Cleft zero (x ∷ xs)
cleft_last x xs = ap (λ v. join v (join (spell.punct 62 nowhere) (spell.spaced (spell.colons nowhere) false xs))) (sym (join-no_trees x))

cleft_next : (n : ℕ) (x y : Trees) (ys : List Trees) → join x (join (spell.colons nowhere) (Cleft n (y ∷ ys))) ≡ Cleft (suc n) (x ∷ y ∷ ys)
cleft_next n x y ys =
    let first : Trees = spell.spaced (spell.colons nowhere) true (take (suc n) (y ∷ ys)) in
    let behind : Trees = join (spell.punct 62 nowhere) (spell.spaced (spell.colons nowhere) false (drop (suc n) (y ∷ ys))) in
    ap (λ v. join x v) (sym (join_assoc (spell.colons nowhere) first behind)) ∙ sym (join_assoc x (join (spell.colons nowhere) first) behind)

no_trait : (n : ℕ) (w : Where) (ts o : Trees) (m : Marks) → trait_segments n no_segments w ts o m → ⊥
no_trait zero w ts o m s = s.fact
no_trait (suc n) w ts o m s = s.fact

-- by what is known of the segments
qualified_again : (ss : SegmentTrees) (n : ℕ) (b : Bool) {v w : Where} → Lower v w →
    ((k : ℕ) → Respells (trait_segments k ss w) (trait_segments k (unplaced_segments ss) v) (Cleft k (spell.each_segment nowhere (unplaced_segments ss)))) →
    Respells (some_segments_left ss w) (some_segments_left (unplaced_segments ss) v)
    (spell.spaced (spell.colons nowhere) false (spell.each_segment nowhere (unplaced_segments ss))) →
    Respells (qualified n (path_tree b ss) w) (qualified n (path_tree b (unplaced_segments ss)) v)
    (spell.behind_self_trees nowhere n b (spell.each_segment nowhere (unplaced_segments ss)))
qualified_again ss zero b l first later = respells_provided (λ e. e) (λ _. respells_then (respells_punct 62 (plain 62 refl) l) later)
qualified_again ss (suc n) b l first later =
    respells_as (behind_as n b (spell.each_segment nowhere (unplaced_segments ss)))
    (respells_then (respells_word (below l) (codes "as")) (respells_then (respells_flag b unseen_colons (respells_colons (below l))) (first n)))

-- ---- types

mutual
  pub again_type : (t : TypeTree) (single : Bool) {v w : Where} → Lower v w →
      Respells (type_spelled t single w) (type_spelled (unplaced_type t) single v) (spell.type_trees (unplaced_type t))
  again_type (type_tree n range) single {v} {w} l = facing_again n single v w (again_node n single l) range

  again_node : (n : TypeNode) (single : Bool) {v w : Where} → Lower v w →
      Respells (node n single w) (node (unplaced_node n) single v) (spell.node_trees nowhere (unplaced_node n))
  again_node (paren t) single l = respells_group (λ v. type_spelled t false v) (λ v. type_spelled (unplaced_type t) false v) l Paren (λ x y k. again_type t false k)
  again_node (tuple ts u) single l =
      respells_provided (tuple_again ts u) (λ _. respells_group (λ v. types ts u v) (λ v. types (unplaced_types ts) u v) l Paren (λ x y k. again_types ts u k))
  again_node (slice t) single l = respells_group (λ v. type_spelled t false v) (λ v. type_spelled (unplaced_type t) false v) l Bracket (λ x y k. again_type t false k)
  again_node (array t x) single l =
      respells_group (λ v. type_spelled t false v then (punct v 59 then opaque v x))
      (λ v. type_spelled (unplaced_type t) false v then (punct v 59 then opaque v (unplaced_opaque x))) l Bracket
      (λ y z k. respells_then (again_type t false k) (respells_length k x))
  again_node (reference a b t) single l =
      respells_then (respells_punct 38 (plain 38 refl) l)
      (respells_then (respells_maybe_lifetime (below l) a)
      (respells_then (respells_flag b (unseen_word (codes "mut")) (respells_word (below l) (codes "mut"))) (again_type t true (below l))))
  again_node (pointer true t) single l =
      respells_then (respells_punct 42 (plain 42 refl) l) (respells_then (respells_word (below l) (codes "mut")) (again_type t true (below l)))
  again_node (pointer false t) single l =
      respells_then (respells_punct 42 (plain 42 refl) l) (respells_then (respells_word (below l) (codes "const")) (again_type t true (below l)))
  again_node (bare_fn f) single l = again_function f l
  again_node (trait_object bs u) single l =
      respells_provided (λ e. e) (λ e. respells_then (respells_word l (codes "dyn")) (again_some_bounds bs single u (below l) e))
  again_node (impl_trait bs u) single l =
      respells_provided (λ e. e) (λ e. respells_then (respells_word l (codes "impl")) (again_some_bounds bs single u (below l) e))
  again_node infer single l = respells_word l (codes "_")
  again_node never single l = respells_punct 33 (plain 33 refl) l
  again_node (path no_self p) single l = again_path p l
  again_node (path (some_self t n) (path_tree b ss)) single l =
      respells_then (respells_punct 60 (plain 60 refl) l) (respells_then (again_type t false (below l)) (qualified_again ss n b l (λ k. again_trait_segments ss k l) (again_some_left ss l)))
  again_node (macro_type p d x) single l = respells_then (respells_plain l p) (respells_then (respells_punct 33 (plain 33 refl) l) (respells_kept l d x))

  -- ---- lists of types

  again_types : (ts : TypeTrees) (u : Bool) {v w : Where} → Lower v w →
      Respells (types ts u w) (types (unplaced_types ts) u v) (spell.listed 44 nowhere (spell.each_type (unplaced_types ts)) u)
  again_types no_types u l = respells_to_end (respells_none 44 (plain 44 refl) at_end l u)
  again_types (type_then t ts) u l =
      respells_to_end (respells_first 44 (plain 44 refl) at_end l (spell.each_type (unplaced_types ts)) u (again_type t false l) (again_types_left ts u l))

  again_types_left : (ts : TypeTrees) (u : Bool) {v w : Where} → Lower v w →
      RespellsIf (Ending at_end) (types_left ts u w) (types_left (unplaced_types ts) u v) (Left 44 (spell.each_type (unplaced_types ts)) u)
  again_types_left no_types u l = respells_last 44 (plain 44 refl) at_end l u
  again_types_left (type_then t ts) u l =
      respells_next 44 (plain 44 refl) at_end l (spell.each_type (unplaced_types ts)) u (again_type t false l) (again_types_left ts u l)

  again_output : (t : MaybeType) {v w y z : Where} → Lower v w → Lower y z →
      Respells (output t w z) (output (unplaced_maybe_type t) v y) (spell.output_trees nowhere (unplaced_maybe_type t))
  again_output no_type l k = respells_absent unseen_arrow
  again_output (some_type t) l k = respells_then (respells_arrow l) (again_type t true k)

  again_function : (f : FnTree) {v w : Where} → Lower v w →
      Respells (function f w) (function (unplaced_fn f) v) (spell.fn_trees nowhere (unplaced_fn f))
  again_function (fn_tree ls b abi is u out) l =
      respells_then (respells_for l ls)
      (respells_then (respells_flag b (unseen_word (codes "unsafe")) (respells_word l (codes "unsafe")))
      (respells_then (respells_abi l abi)
      (respells_then (respells_word l (codes "fn"))
      (respells_then (respells_group (λ v. inputs is u v) (λ v. inputs (unplaced_inputs is) u v) (below l) Paren (λ x y k. again_inputs is u k))
      (again_output out (below l) (below l))))))

  again_input : (i : InputTree) {v w : Where} → Lower v w →
      Respells (input_spelled i w) (input_spelled (unplaced_input i) v) (spell.input_trees nowhere (unplaced_input i))
  again_input (input attrs None t) l = respells_then (respells_attributes l attrs) (respells_facing unseen_named (again_type t false l))
  again_input (input attrs (Some i) t) l =
      respells_then (respells_attributes l attrs)
      (respells_as (sym (join_assoc (spell.name (unplaced_ident i)) (spell.punct 58 nowhere) (spell.type_trees (unplaced_type t))))
      (respells_then (respells_provided (λ e. e) (λ _. respells_ident l i)) (respells_then (respells_colon l) (again_type t false l))))

  again_inputs : (is : InputTrees) (u : Bool) {v w : Where} → Lower v w →
      Respells (inputs is u w) (inputs (unplaced_inputs is) u v) (spell.listed 44 nowhere (spell.each_input nowhere (unplaced_inputs is)) u)
  again_inputs no_inputs u l = respells_to_end (respells_none 44 (plain 44 refl) at_end l u)
  again_inputs (input_then i is) u l =
      respells_to_end
      (respells_first 44 (plain 44 refl) at_end l (spell.each_input nowhere (unplaced_inputs is)) u (again_input i l) (again_inputs_left is u l))

  again_inputs_left : (is : InputTrees) (u : Bool) {v w : Where} → Lower v w →
      RespellsIf (Ending at_end) (inputs_left is u w) (inputs_left (unplaced_inputs is) u v) (Left 44 (spell.each_input nowhere (unplaced_inputs is)) u)
  again_inputs_left no_inputs u l = respells_last 44 (plain 44 refl) at_end l u
  again_inputs_left (input_then i is) u l =
      respells_next 44 (plain 44 refl) at_end l (spell.each_input nowhere (unplaced_inputs is)) u (again_input i l) (again_inputs_left is u l)

  -- ---- bounds

  again_bound : (b : BoundTree) {v w : Where} → Lower v w → Respells (bound b w) (bound (unplaced_bound b) v) (spell.bound_trees nowhere (unplaced_bound b))
  again_bound (outlives a) l = respells_lifetime l a
  again_bound (implements b) l = again_trait b l

  again_trait : (b : TraitBoundTree) {v w : Where} → Lower v w →
      Respells (trait_bound_spelled b w) (trait_bound_spelled (unplaced_trait b) v) (spell.trait_bound_trees nowhere (unplaced_trait b))
  again_trait (trait_bound true b ls p) l =
      respells_group (λ v. flag (sees 63) b (punct v 63) then (for_lifetimes v ls then path_spelled p v))
      (λ v. flag (sees 63) b (punct v 63) then (for_lifetimes v (unplaced_lifetimes ls) then path_spelled (unplaced_path p) v)) l Paren
      (λ x y k. respells_then (respells_flag b (unseen_sees 63) (respells_punct 63 (plain 63 refl) k)) (respells_then (respells_for k ls) (again_path p k)))
  again_trait (trait_bound false b ls p) l =
      respells_then (respells_flag b (unseen_sees 63) (respells_punct 63 (plain 63 refl) l)) (respells_then (respells_for l ls) (again_path p l))

  again_some_bounds : (bs : BoundTrees) (single u : Bool) {v w : Where} → Lower v w → u ≡ false →
      Respells (some_bounds bs single w) (some_bounds (unplaced_bounds bs) single v) (spell.listed 43 nowhere (spell.each_bound nowhere (unplaced_bounds bs)) u)
  again_some_bounds no_bounds single u l e = λ ts others m s. absurd s.fact
  again_some_bounds (bound_then b bs) single u l e =
      respells_as
      (sym (join_assoc (spell.bound_trees nowhere (unplaced_bound b)) (spell.spaced (spell.punct 43 nowhere) false (spell.each_bound nowhere (unplaced_bounds bs)))
      (spell.given u (spell.punct 43 nowhere)))) (respells_then (again_bound b l) (again_more_bounds bs single u l e))

  again_more_bounds : (bs : BoundTrees) (single u : Bool) {v w : Where} → Lower v w → u ≡ false →
      Respells (more_bounds bs single w) (more_bounds (unplaced_bounds bs) single v) (Left 43 (spell.each_bound nowhere (unplaced_bounds bs)) u)
  again_more_bounds no_bounds single true l e = λ ts others m s. absurd (cc)
  again_more_bounds no_bounds true false l e = respells_before (λ o others c h f. refl) respells_nothing
  again_more_bounds no_bounds false false l e = respells_before (λ o others c h f. unseen_sees 43 o others c f) respells_nothing
  again_more_bounds (bound_then b bs) single u l e =
      respells_provided (λ f. f)
      (λ _.
      respells_as
      (ap (λ z. join (spell.punct 43 nowhere) z)
      (sym (join_assoc (spell.bound_trees nowhere (unplaced_bound b)) (spell.spaced (spell.punct 43 nowhere) false (spell.each_bound nowhere (unplaced_bounds bs)))
      (spell.given u (spell.punct 43 nowhere)))))
      (respells_then (respells_punct 43 (plain 43 refl) l) (respells_then (again_bound b l) (again_more_bounds bs single u l e))))

  again_bounds_left : (bs : BoundTrees) (u : Bool) {v w : Where} → Lower v w →
      RespellsIf (Ending ends_bounds) (bounds_left bs u w) (bounds_left (unplaced_bounds bs) u v) (Left 43 (spell.each_bound nowhere (unplaced_bounds bs)) u)
  again_bounds_left no_bounds u l = respells_last 43 (plain 43 refl) ends_bounds l u
  again_bounds_left (bound_then b bs) u l =
      respells_next 43 (plain 43 refl) ends_bounds l (spell.each_bound nowhere (unplaced_bounds bs)) u (again_bound b l) (again_bounds_left bs u l)

  pub again_bounds : (bs : BoundTrees) (u : Bool) {v w : Where} → Lower v w →
      RespellsIf (Ending ends_bounds) (bounds bs u w) (bounds (unplaced_bounds bs) u v) (spell.listed 43 nowhere (spell.each_bound nowhere (unplaced_bounds bs)) u)
  again_bounds no_bounds u l = respells_none 43 (plain 43 refl) ends_bounds l u
  again_bounds (bound_then b bs) u l =
      respells_first 43 (plain 43 refl) ends_bounds l (spell.each_bound nowhere (unplaced_bounds bs)) u (again_bound b l) (again_bounds_left bs u l)

  -- ---- paths

  again_path : (p : PathTree) {v w : Where} → Lower v w → Respells (path_spelled p w) (path_spelled (unplaced_path p) v) (spell.path_trees nowhere (unplaced_path p))
  again_path (path_tree b ss) l = respells_then (respells_flag b unseen_colons (respells_colons l)) (again_segments ss l)

  again_segments : (ss : SegmentTrees) {v w : Where} → Lower v w →
      Respells (segments ss w) (segments (unplaced_segments ss) v) (spell.spaced (spell.colons nowhere) true (spell.each_segment nowhere (unplaced_segments ss)))
  again_segments no_segments l = λ ts others m s. absurd s.fact
  again_segments (segment_then x ss) l = respells_then (again_segment x l) (again_segments_left ss l)

  again_segments_left : (ss : SegmentTrees) {v w : Where} → Lower v w →
      Respells (segments_left ss w) (segments_left (unplaced_segments ss) v)
      (spell.spaced (spell.colons nowhere) false (spell.each_segment nowhere (unplaced_segments ss)))
  again_segments_left no_segments l = respells_absent unseen_colons
  again_segments_left (segment_then x ss) l = respells_then (respells_colons l) (respells_then (again_segment x l) (again_segments_left ss l))

  again_some_left : (ss : SegmentTrees) {v w : Where} → Lower v w →
      Respells (some_segments_left ss w) (some_segments_left (unplaced_segments ss) v)
      (spell.spaced (spell.colons nowhere) false (spell.each_segment nowhere (unplaced_segments ss)))
  again_some_left no_segments l = λ ts others m s. absurd s.fact
  again_some_left (segment_then x ss) l = respells_then (respells_colons l) (respells_then (again_segment x l) (again_segments_left ss l))

  again_trait_segments : (ss : SegmentTrees) (n : ℕ) {v w : Where} → Lower v w →
      Respells (trait_segments n ss w) (trait_segments n (unplaced_segments ss) v) (Cleft n (spell.each_segment nowhere (unplaced_segments ss)))
  again_trait_segments no_segments zero l = λ ts others m s. absurd s.fact
  again_trait_segments no_segments (suc n) l = λ ts others m s. absurd s.fact
  again_trait_segments (segment_then x ss) zero l =
      respells_as (cleft_last (spell.segment_trees nowhere (unplaced_segment x)) (spell.each_segment nowhere (unplaced_segments ss)))
      (respells_then (again_segment x (below l)) (respells_then (respells_punct 62 (plain 62 refl) l) (again_some_left ss l)))
  again_trait_segments (segment_then x no_segments) (suc n) {v} {w} l =
      λ ts others m s. absurd (no_trait n w s.rest.middle others s.rest.rest_marks s.rest.rest)
  again_trait_segments (segment_then x (segment_then y ss)) (suc n) l =
      respells_as
      (cleft_next n (spell.segment_trees nowhere (unplaced_segment x)) (spell.segment_trees nowhere (unplaced_segment y)) (spell.each_segment nowhere (unplaced_segments ss)))
      (respells_then (again_segment x (below l)) (respells_then (respells_colons (below l)) (again_trait_segments (segment_then y ss) n l)))

  again_segment : (x : SegmentTree) {v w : Where} → Lower v w →
      Respells (segment_spelled x w) (segment_spelled (unplaced_segment x) v) (spell.segment_trees nowhere (unplaced_segment x))
  again_segment (segment i gs) l = respells_then (respells_provided (λ e. e) (λ _. respells_ident l i)) (again_arguments_of gs l)

  again_arguments_of : (gs : ArgumentsTree) {v w : Where} → Lower v w →
      Respells (arguments_of_segment gs w) (arguments_of_segment (unplaced_arguments_of gs) v) (spell.arguments_trees nowhere (unplaced_arguments_of gs))
  again_arguments_of absent l = respells_absent unseen_arguments
  again_arguments_of (angle b gs u) l =
      respells_then (respells_flag b unseen_colons (respells_colons l))
      (respells_angles (λ v. arguments gs u v) (λ v. arguments (unplaced_arguments gs) u v) l (again_arguments gs u (below l)))
  again_arguments_of (parens ts u out) l =
      respells_then (respells_group (λ v. types ts u v) (λ v. types (unplaced_types ts) u v) l Paren (λ x y k. again_types ts u k)) (again_output out l (below l))

  again_arguments : (gs : ArgumentTrees) (u : Bool) {v w : Where} → Lower v w →
      RespellsIf (Ending (sees 62)) (arguments gs u w) (arguments (unplaced_arguments gs) u v)
      (spell.listed 44 nowhere (spell.each_argument nowhere (unplaced_arguments gs)) u)
  again_arguments no_arguments u l = respells_none 44 (plain 44 refl) (sees 62) l u
  again_arguments (argument_then g gs) u l =
      respells_first 44 (plain 44 refl) (sees 62) l (spell.each_argument nowhere (unplaced_arguments gs)) u (again_argument g l) (again_arguments_left gs u l)

  again_arguments_left : (gs : ArgumentTrees) (u : Bool) {v w : Where} → Lower v w →
      RespellsIf (Ending (sees 62)) (arguments_left gs u w) (arguments_left (unplaced_arguments gs) u v)
      (Left 44 (spell.each_argument nowhere (unplaced_arguments gs)) u)
  again_arguments_left no_arguments u l = respells_last 44 (plain 44 refl) (sees 62) l u
  again_arguments_left (argument_then g gs) u l =
      respells_next 44 (plain 44 refl) (sees 62) l (spell.each_argument nowhere (unplaced_arguments gs)) u (again_argument g l) (again_arguments_left gs u l)

  again_maybe_angled : (gs : MaybeArguments) {v w : Where} → Lower v w →
      Respells (maybe_angled gs w) (maybe_angled (unplaced_maybe_arguments gs) v) (spell.maybe_angle_trees nowhere (unplaced_maybe_arguments gs))
  again_maybe_angled arguments_absent l = respells_nothing
  again_maybe_angled (some_arguments gs u) l =
      respells_angles (λ v. arguments gs u v) (λ v. arguments (unplaced_arguments gs) u v) l (again_arguments gs u (below l))

  again_argument : (g : ArgumentTree) {v w : Where} → Lower v w →
      Respells (argument g w) (argument (unplaced_argument g) v) (spell.argument_trees nowhere (unplaced_argument g))
  again_argument (lifetime_arg a) l = respells_lifetime l a
  again_argument (type_arg t) l = respells_before (λ o others c h e. unseen_either o others c e) (again_type t false l)
  again_argument (const_arg c) l = respells_constant l c
  again_argument (assoc_type i gs t) l =
      respells_then (respells_name l i) (respells_then (again_maybe_angled gs l) (respells_then (respells_equals l) (again_type t false l)))
  again_argument (assoc_const i gs c) l =
      respells_then (respells_name l i) (respells_then (again_maybe_angled gs l) (respells_then (respells_equals l) (respells_constant l c)))
  again_argument (constraint i gs bs u) l =
      respells_then (respells_name l i)
      (respells_then (again_maybe_angled gs l)
      (respells_then (respells_colon l) (λ ts others m s o c h. again_bounds bs u l ts others m s o c (ends_kept o others c))))
