-- Lists in which each part was replaced.
use Rattle.std.proofs.Common.{◌≡◌, ℕ, ◌+◌, ◌<◌, ◌==◌, false, List, [], ◌∷◌, ◌++◌, map, drop, length, get_or, Option, Some, Result, Ok, IfOk, refl, sym, ap, ◌∙◌, append_assoc}
use Rattle.std.proofs.lemmas.List.{map-append, drop_more}
use Rattle.std.proofs.lemmas.Result.{IfOk-at_ok, IfOk-weaker}
use Rattle.std.specs.declared.boxed.Box.{Box}
use Rattle.std.specs.declared.alloc.Global.{Global}
use Rattle.dm_ast.specs.declared.ty.QSelf.{QSelf}
use Rattle.dm_ast.specs.declared.ty.Path.{Path}
use Rattle.dm_ast.specs.declared.ty.TyNode.TheVariants as n
use Rattle.dm_ast.specs.Tree.{PathTree, path, some_self, self_view, path_view, node_view, TypeTree, type_then, types_of, BoundTree, bound_then, bounds_of, InputTree, input_then, inputs_of, SegmentTree, segment_then, segments_of, ArgumentTree, argument_then, arguments_of, angle}
use Rattle.dm_copy.specs.Segments.{bracketed}
use Rattle.dm_copy.specs.Replaced.{replaced_type, replaced_types, replaced_bound, replaced_bounds, replaced_input, replaced_inputs, replaced_segment, replaced_segments, replaced_argument, replaced_arguments}
use Rattle.dm_ast.proofs.View.{view_TyNode-Path}

pub qualified : (b : Box QSelf Global) (q : Path) (x : TypeTree × ℕ) (p : PathTree) → self_view b.value ≡ x → path_view q ≡ p →
    node_view (n.Path (Some b) q) ≡ path (some_self x.0 x.1) p
qualified b q x p self rest =
    view_TyNode-Path (Some b) q ∙ ap (λ (y : TypeTree × ℕ). path (some_self y.0 y.1) (path_view q)) self ∙ ap (λ z. path (some_self x.0 x.1) z) rest

pub each_type : (own : Option SegmentTree) (ts : List TypeTree) → replaced_types own (types_of ts) ≡ types_of (map (replaced_type own) ts)
each_type own [] = refl
each_type own (t ∷ ts) = ap (λ z. type_then (replaced_type own t) z) (each_type own ts)

pub each_bound : (own : Option SegmentTree) (bs : List BoundTree) → replaced_bounds own (bounds_of bs) ≡ bounds_of (map (replaced_bound own) bs)
each_bound own [] = refl
each_bound own (b ∷ bs) = ap (λ z. bound_then (replaced_bound own b) z) (each_bound own bs)

pub each_input : (own : Option SegmentTree) (is : List InputTree) → replaced_inputs own (inputs_of is) ≡ inputs_of (map (replaced_input own) is)
each_input own [] = refl
each_input own (i ∷ is) = ap (λ z. input_then (replaced_input own i) z) (each_input own is)

pub each_segment : (own : Option SegmentTree) (ss : List SegmentTree) → replaced_segments own (segments_of ss) ≡ segments_of (map (replaced_segment own) ss)
each_segment own [] = refl
each_segment own (g ∷ ss) = ap (λ z. segment_then (replaced_segment own g) z) (each_segment own ss)

pub each_argument : (own : Option SegmentTree) (gs : List ArgumentTree) →
    replaced_arguments own (arguments_of gs) ≡ arguments_of (map (replaced_argument own) gs)
each_argument own [] = refl
each_argument own (g ∷ gs) = ap (λ z. argument_then (replaced_argument own g) z) (each_argument own gs)

-- arguments that are some stand in brackets
pub bracketed_some : {A : Type 0} (f : A → ArgumentTree) (xs : List A) → (length xs == 0) ≡ false →
    bracketed (map f xs) ≡ angle false (arguments_of (map f xs)) false
bracketed_some f [] some = absurd cc
bracketed_some f (x ∷ xs) some = refl

-- one part more of a list in which each is replaced
pub each_more : {A S E : Type 0} (view : A → S) (f : S → S) (found new all : List A) (i : ℕ) (x : A) (made : Result A E) →
    map view found ++ map f (map view (drop i all)) ≡ map f (map view all) → i < length all → x ≡ get_or all i x →
    IfOk made (λ r. view r ≡ f (view x)) → (t : A) × (made ≡ Ok t) × (new ≡ found ++ t ∷ []) →
    map view new ++ map f (map view (drop (i + 1) all)) ≡ map f (map view all)
each_more view f found new all i x made known within is replaced grown =
    let t = grown.0 in let behind = map f (map view (drop (i + 1) all)) in
    let there : view t ≡ f (view x) = IfOk-at_ok _ grown.1 replaced in
    let next : x ∷ drop (i + 1) all ≡ drop i all = ap (λ z. z ∷ drop (i + 1) all) is ∙ sym (drop_more all i x within) in
    ap (λ z. map view z ++ behind) grown.2 ∙ ap (λ z. z ++ behind) (map-append view found (t ∷ [])) ∙
    append_assoc (map view found) (view t ∷ []) behind ∙ ap (λ z. map view found ++ z ∷ behind) there ∙
    ap (λ z. map view found ++ map f (map view z)) next ∙ known

-- one value more
pub one_more : {A S E : Type 0} (view : A → S) (found : List A) (made : Result A E) (r : Result (List A) E) (s : S) (ss : List S) → ss ≡ s ∷ [] →
    IfOk r (λ all. (t : A) × (made ≡ Ok t) × (all ≡ found ++ t ∷ [])) → IfOk made (λ t. view t ≡ s) → IfOk r (λ all. map view all ≡ map view found ++ ss)
one_more view found made r s ss is grown known =
    IfOk-weaker r _ _
    (λ all h.
    ap (map view) h.2 ∙ map-append view found (h.0 ∷ []) ∙ ap (λ z. map view found ++ z ∷ []) (IfOk-at_ok _ h.1 known) ∙
    ap (λ z. map view found ++ z) (sym is))
    grown
