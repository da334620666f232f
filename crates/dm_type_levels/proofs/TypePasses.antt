-- How the functions that follow types go on: one equation for each part of more than two steps.
use Rattle.std.proofs.Common.{◌≡◌, ℕ, suc, ◌+◌, ◌-◌, ◌<◌, ◌≤◌, List, [], ◌∷◌, ◌++◌, map, drop, length, get_or, Bool, true, false, cond, Some, None, option_map, Result, Ok, Err, sym, ap, ◌∙◌, append_assoc, add-one}
use Rattle.std.specs.Prelude.{IsErrAnd}
use Rattle.std.proofs.Math.Seq.{drop-cons}
use Rattle.std.specs.declared.boxed.Box.{Box}
use Rattle.std.specs.declared.alloc.Global.{Global}
use denote.Ref.{Bor}
use Rattle.dm_stream.specs.declared.seq.Punctuated.{Punctuated}
use Rattle.dm_stream.specs.declared.tokens.Span.{Span}
use Rattle.dm_stream.specs.declared.tokens.Ident.{Ident}
use Rattle.dm_stream.specs.declared.tokens.Entry.{Entry}
use Rattle.dm_ast.specs.declared.plain.ConstArg.{ConstArg}
use Rattle.dm_ast.specs.declared.ty.Bound.{Bound}
use Rattle.dm_ast.specs.declared.ty.GenericArgument.{GenericArgument}
use Rattle.dm_ast.specs.declared.ty.GenericArgument.TheVariants as g
use Rattle.dm_ast.specs.declared.ty.TyNode.TheVariants as n
use Rattle.dm_ast.specs.declared.ty.TyNode.{TyNode}
use Rattle.dm_ast.specs.declared.ty.BareFn.{BareFn}
use Rattle.dm_ast.specs.declared.ty.FnArg.{FnArg}
use Rattle.dm_ast.specs.declared.ty.Path.{Path}
use Rattle.dm_ast.specs.declared.ty.PathSegment.{PathSegment}
use Rattle.dm_ast.specs.declared.ty.QSelf.{QSelf}
use Rattle.dm_ast.specs.declared.ty.TraitBound.{TraitBound}
use Rattle.dm_ast.specs.declared.ty.Ty.{Ty}
use Rattle.dm_ast.specs.declared.ty.Bound.TheViews.{out-Path, out-TraitBound, out-BareFn}
use Rattle.dm_ast.specs.Tree.{path, some_self, some_type, maybe_type, inputs_of, segments_of, arguments_of, bounds_of, maybe_self_view, bound_view, argument_view, node_view, fn_view, input_view, segment_view, path_view, trait_view, ty_view}
use Rattle.dm_ast.proofs.Split.{drop_none, drop_later}
use Rattle.dm_ast.proofs.View.{view_TyNode-Path, view_GenericArgument-AssocTy, view_GenericArgument-AssocConst, view_GenericArgument-Constraint, view-Path, view-TraitBound, view-BareFn, view-some_self}
use Rattle.dm_type_levels.specs.Passing.{pass, pass_then, Passes, given}
use Rattle.dm_type_levels.specs.TypeLevels.{two, grouped_levels, spaced_levels, listed_levels, angle_levels, for_levels, const_levels, abi_levels, as_levels, bare_levels, type_levels, node_levels, each_bound, trait_bound_levels, fn_levels, each_input, output_levels, path_levels, each_segment, segment_levels, each_argument, argument_levels}
use Rattle.dm_type_levels.proofs.Passes.{pass_both}
use Rattle.dm_type_levels.proofs.Grouped.{pass_next, passes_as, passes_group}

-- ---- steps in general

pub passes_equal : (ls ms : List ℕ) (es : List Entry) (r : Result (Bor (List Entry)) Span) → ls ≡ ms → Passes ms es r → Passes ls es r
passes_equal ls ms es r e p = rw e p

pub passes_next : (ls ms : List ℕ) (es e1 : List Entry) (r : Result (Bor (List Entry)) Span) → pass ls es ≡ Ok e1 → Passes ms e1 r → Passes (ls ++ ms) es r
passes_next ls ms es e1 r h p = passes_as (ls ++ ms) ms es e1 r (pass_next ls ms es e1 h) p

pub pass_stops : (ls ms : List ℕ) (es : List Entry) (s : Span) → pass ls es ≡ Err s → pass (ls ++ ms) es ≡ Err s
pass_stops ls ms es s h = pass_both ls ms es ∙ ap (pass_then ms) h

pub passes_failed : (ls : List ℕ) (es : List Entry) (s : Span) (r : Result (Bor (List Entry)) Span) → pass ls es ≡ Err s → IsErrAnd r (λ d. d ≡ s) →
    Passes ls es r
passes_failed ls es s (Ok b) h i = absurd i
passes_failed ls es s (Err d) h i = h ∙ ap Err (sym i)

-- ---- generic arguments with arguments of their own

pub named_passes : (k : ℕ) (ls ms : List ℕ) (es e1 e2 : List Entry) (r : Result (Bor (List Entry)) Span) →
    pass (k ∷ []) es ≡ Ok e1 → pass ls e1 ≡ Ok e2 → Passes ms e2 r → Passes (k ∷ (ls ++ ms)) es r
named_passes k ls ms es e1 e2 r h i p = passes_next (k ∷ []) (ls ++ ms) es e1 r h (passes_next ls ms e1 e2 r i p)

abbrev angle_of : ℕ → List GenericArgument → Bool → List ℕ
angle_of k items trailing = angle_levels k (each_argument (k + 1) (arguments_of (map argument_view items))) trailing

pub assoc_type_passes : (k : ℕ) (i : Ident) (gs : Punctuated GenericArgument) (t : Ty) (items : List GenericArgument) (es e1 e2 : List Entry)
    (r : Result (Bor (List Entry)) Span) → items ≡ gs.items → pass (k ∷ []) es ≡ Ok e1 → pass (angle_of k items gs.trailing) e1 ≡ Ok e2 →
    Passes (k ∷ type_levels k (ty_view t)) e2 r → Passes (argument_levels k (argument_view (g.AssocTy i (Some gs) t))) es r
assoc_type_passes k i gs t items es e1 e2 r a h j p =
    passes_equal _ _ es r (ap (argument_levels k) (view_GenericArgument-AssocTy i (Some gs) t))
    (named_passes k (angle_of k gs.items gs.trailing) (k ∷ type_levels k (ty_view t)) es e1 e2 r h (ap (λ l. pass (angle_of k l gs.trailing) e1) (sym a) ∙ j) p)

pub assoc_const_passes : (k : ℕ) (i : Ident) (gs : Punctuated GenericArgument) (v : ConstArg) (items : List GenericArgument) (es e1 e2 : List Entry)
    (r : Result (Bor (List Entry)) Span) → items ≡ gs.items → pass (k ∷ []) es ≡ Ok e1 → pass (angle_of k items gs.trailing) e1 ≡ Ok e2 →
    Passes (k ∷ const_levels k v) e2 r → Passes (argument_levels k (argument_view (g.AssocConst i (Some gs) v))) es r
assoc_const_passes k i gs v items es e1 e2 r a h j p =
    passes_equal _ _ es r (ap (argument_levels k) (view_GenericArgument-AssocConst i (Some gs) v))
    (named_passes k (angle_of k gs.items gs.trailing) (k ∷ const_levels k v) es e1 e2 r h (ap (λ l. pass (angle_of k l gs.trailing) e1) (sym a) ∙ j) p)

abbrev bounds_in : ℕ → List Bound → Bool → List ℕ
bounds_in k items trailing = k ∷ listed_levels k (each_bound k (bounds_of (map bound_view items))) trailing

pub constraint_passes : (k : ℕ) (i : Ident) (gs : Punctuated GenericArgument) (bs : Punctuated Bound) (items : List GenericArgument) (found : List Bound)
    (es e1 e2 : List Entry) (r : Result (Bor (List Entry)) Span) → items ≡ gs.items → found ≡ bs.items → pass (k ∷ []) es ≡ Ok e1 →
    pass (angle_of k items gs.trailing) e1 ≡ Ok e2 → Passes (bounds_in k found bs.trailing) e2 r →
    Passes (argument_levels k (argument_view (g.Constraint i (Some gs) bs))) es r
constraint_passes k i gs bs items found es e1 e2 r a b h j p =
    passes_equal _ _ es r (ap (argument_levels k) (view_GenericArgument-Constraint i (Some gs) bs))
    (named_passes k (angle_of k gs.items gs.trailing) (bounds_in k bs.items bs.trailing) es e1 e2 r h (ap (λ l. pass (angle_of k l gs.trailing) e1) (sym a) ∙ j)
    (passes_equal _ _ e2 r (ap (λ l. bounds_in k l bs.trailing) (sym b)) p))

-- ---- function types

abbrev front : ℕ → BareFn → List ℕ
front k f = for_levels k (out-BareFn f).lifetimes ++ (given (out-BareFn f).is_unsafe (k ∷ []) ++ abi_levels k (out-BareFn f).abi)

abbrev params_in : ℕ → List FnArg → Bool → List ℕ
params_in k items trailing = grouped_levels k (listed_levels (k + 1) (each_input (k + 1) (inputs_of (map input_view items))) trailing)

abbrev behind_fn : ℕ → BareFn → List ℕ
behind_fn k f =
    params_in (k + 1) (out-BareFn f).inputs.items (out-BareFn f).inputs.trailing ++ output_levels (k + 1) (k + 1) (maybe_type (option_map ty_view (out-BareFn f).output))

fn_shown : (k : ℕ) (f : BareFn) → fn_levels k (fn_view f) ≡ front k f ++ ((k ∷ []) ++ behind_fn k f)
fn_shown k f =
    ap (fn_levels k) (view-BareFn f) ∙
    sym (append_assoc (for_levels k (out-BareFn f).lifetimes) (given (out-BareFn f).is_unsafe (k ∷ []) ++ abi_levels k (out-BareFn f).abi) (k ∷ behind_fn k f) ∙
    ap (λ l. for_levels k (out-BareFn f).lifetimes ++ l) (append_assoc (given (out-BareFn f).is_unsafe (k ∷ [])) (abi_levels k (out-BareFn f).abi) (k ∷ behind_fn k f)))

pub fn_passes : (k : ℕ) (f : BareFn) (items : List FnArg) (output : Ty) (es e1 e2 e3 : List Entry) (r : Result (Bor (List Entry)) Span) →
    items ≡ (out-BareFn f).inputs.items → (out-BareFn f).output ≡ Some output → pass (front k f) es ≡ Ok e1 → pass (k ∷ []) e1 ≡ Ok e2 →
    pass (params_in (k + 1) items (out-BareFn f).inputs.trailing) e2 ≡ Ok e3 → Passes (output_levels (k + 1) (k + 1) (some_type (ty_view output))) e3 r →
    Passes (fn_levels k (fn_view f)) es r
fn_passes k f items output es e1 e2 e3 r a o h i j p =
    passes_equal _ _ es r (fn_shown k f)
    (passes_next (front k f) ((k ∷ []) ++ behind_fn k f) es e1 r h
    (passes_next (k ∷ []) (behind_fn k f) e1 e2 r i
    (passes_next (params_in (k + 1) (out-BareFn f).inputs.items (out-BareFn f).inputs.trailing)
    (output_levels (k + 1) (k + 1) (maybe_type (option_map ty_view (out-BareFn f).output))) e2 e3 r
    (ap (λ l. pass (params_in (k + 1) l (out-BareFn f).inputs.trailing) e2) (sym a) ∙ j)
    (passes_equal _ _ e3 r (ap (λ q. output_levels (k + 1) (k + 1) (maybe_type (option_map ty_view q))) o) p))))

pub fn_fails : (k : ℕ) (f : BareFn) (items : List FnArg) (es e1 e2 : List Entry) (s : Span) (r : Result (Bor (List Entry)) Span) →
    items ≡ (out-BareFn f).inputs.items → pass (front k f) es ≡ Ok e1 → pass (k ∷ []) e1 ≡ Ok e2 →
    pass (params_in (k + 1) items (out-BareFn f).inputs.trailing) e2 ≡ Err s → IsErrAnd r (λ d. d ≡ s) → Passes (fn_levels k (fn_view f)) es r
fn_fails k f items es e1 e2 s r a h i j q =
    passes_equal _ _ es r (fn_shown k f)
    (passes_next (front k f) ((k ∷ []) ++ behind_fn k f) es e1 r h
    (passes_next (k ∷ []) (behind_fn k f) e1 e2 r i
    (passes_failed (behind_fn k f) e2 s r
    (pass_stops (params_in (k + 1) (out-BareFn f).inputs.items (out-BareFn f).inputs.trailing)
    (output_levels (k + 1) (k + 1) (maybe_type (option_map ty_view (out-BareFn f).output))) e2 s
    (ap (λ l. pass (params_in (k + 1) l (out-BareFn f).inputs.trailing) e2) (sym a) ∙ j)) q)))

pub fn_front_fails : (k : ℕ) (f : BareFn) (es : List Entry) (s : Span) (r : Result (Bor (List Entry)) Span) → pass (front k f) es ≡ Err s →
    IsErrAnd r (λ d. d ≡ s) → Passes (fn_levels k (fn_view f)) es r
fn_front_fails k f es s r h q =
    passes_equal _ _ es r (fn_shown k f)
    (passes_failed (front k f ++ ((k ∷ []) ++ behind_fn k f)) es s r (pass_stops (front k f) ((k ∷ []) ++ behind_fn k f) es s h) q)

pub fn_word_fails : (k : ℕ) (f : BareFn) (es e1 : List Entry) (s : Span) (r : Result (Bor (List Entry)) Span) → pass (front k f) es ≡ Ok e1 →
    pass (k ∷ []) e1 ≡ Err s → IsErrAnd r (λ d. d ≡ s) → Passes (fn_levels k (fn_view f)) es r
fn_word_fails k f es e1 s r h i q =
    passes_equal _ _ es r (fn_shown k f)
    (passes_next (front k f) ((k ∷ []) ++ behind_fn k f) es e1 r h
    (passes_failed ((k ∷ []) ++ behind_fn k f) e1 s r (pass_stops (k ∷ []) (behind_fn k f) e1 s i) q))

-- without an output
pub fn_alone : (k : ℕ) (f : BareFn) (items : List FnArg) (es e1 e2 e3 : List Entry) → items ≡ (out-BareFn f).inputs.items →
    (out-BareFn f).output ≡ None → pass (front k f) es ≡ Ok e1 → pass (k ∷ []) e1 ≡ Ok e2 →
    pass (params_in (k + 1) items (out-BareFn f).inputs.trailing) e2 ≡ Ok e3 → pass (fn_levels k (fn_view f)) es ≡ Ok e3
fn_alone k f items es e1 e2 e3 a o h i j =
    ap (λ l. pass l es) (fn_shown k f) ∙ pass_next (front k f) ((k ∷ []) ++ behind_fn k f) es e1 h ∙ pass_next (k ∷ []) (behind_fn k f) e1 e2 i ∙
    pass_next (params_in (k + 1) (out-BareFn f).inputs.items (out-BareFn f).inputs.trailing)
    (output_levels (k + 1) (k + 1) (maybe_type (option_map ty_view (out-BareFn f).output))) e2 e3
    (ap (λ l. pass (params_in (k + 1) l (out-BareFn f).inputs.trailing) e2) (sym a) ∙ j) ∙
    ap (λ q. pass (output_levels (k + 1) (k + 1) (maybe_type (option_map ty_view q))) e3) o

-- ---- qualified paths

abbrev behind_in : ℕ → ℕ → Bool → List PathSegment → List ℕ
behind_in k position leading_colon all =
    as_levels (k + 1) position leading_colon (each_segment (k + 1) (segments_of (map segment_view all))) ++
    k ∷ spaced_levels (two k) false (drop position (each_segment k (segments_of (map segment_view all))))

qualified_shown : (k : ℕ) (b : Box QSelf Global) (p : Path) →
    node_levels k (path (maybe_self_view (Some b)) (path_view p)) ≡
    (k ∷ type_levels (k + 1) (ty_view b.value.ty)) ++ behind_in k b.value.position (out-Path p).leading_colon (out-Path p).segments
qualified_shown k b p =
    ap (λ q. node_levels k (path q (path_view p))) (view-some_self b) ∙
    ap (λ q. node_levels k (path (some_self (ty_view b.value.ty) b.value.position) q)) (view-Path p)

pub qualified_passes : (k : ℕ) (b : Box QSelf Global) (p : Path) (q : QSelf) (all : List PathSegment) (es e1 : List Entry) (r : Result (Bor (List Entry)) Span) →
    q ≡ b.value → all ≡ (out-Path p).segments → pass (k ∷ type_levels (k + 1) (ty_view q.ty)) es ≡ Ok e1 →
    Passes (behind_in k b.value.position (out-Path p).leading_colon all) e1 r → Passes (node_levels k (path (maybe_self_view (Some b)) (path_view p))) es r
qualified_passes k b p q all es e1 r a c h j =
    passes_equal _ _ es r (qualified_shown k b p)
    (passes_next (k ∷ type_levels (k + 1) (ty_view b.value.ty)) (behind_in k b.value.position (out-Path p).leading_colon (out-Path p).segments) es e1 r
    (ap (λ (x : QSelf). pass (k ∷ type_levels (k + 1) (ty_view x.ty)) es) (sym a) ∙ h)
    (passes_equal _ _ e1 r (ap (behind_in k b.value.position (out-Path p).leading_colon) (sym c)) j))

pub qualified_fails : (k : ℕ) (b : Box QSelf Global) (p : Path) (q : QSelf) (es : List Entry) (s : Span) (r : Result (Bor (List Entry)) Span) →
    q ≡ b.value → pass (k ∷ type_levels (k + 1) (ty_view q.ty)) es ≡ Err s → IsErrAnd r (λ d. d ≡ s) →
    Passes (node_levels k (path (maybe_self_view (Some b)) (path_view p))) es r
qualified_fails k b p q es s r a h i =
    passes_equal _ _ es r (qualified_shown k b p)
    (passes_failed ((k ∷ type_levels (k + 1) (ty_view b.value.ty)) ++ behind_in k b.value.position (out-Path p).leading_colon (out-Path p).segments) es s r
    (pass_stops (k ∷ type_levels (k + 1) (ty_view b.value.ty)) (behind_in k b.value.position (out-Path p).leading_colon (out-Path p).segments) es s
    (ap (λ (x : QSelf). pass (k ∷ type_levels (k + 1) (ty_view x.ty)) es) (sym a) ∙ h)) i)

pub node_shown : (k : ℕ) (b : Box QSelf Global) (p : Path) (x : TyNode) → x ≡ n.Path (Some b) p →
    node_levels k (node_view x) ≡ node_levels k (path (maybe_self_view (Some b)) (path_view p))
node_shown k b p x e = ap (λ y. node_levels k (node_view y)) e ∙ ap (node_levels k) (view_TyNode-Path (Some b) p)

-- ---- bounds in parentheses

pub trait_group : (k : ℕ) (b : TraitBound) (es e1 e2 : List Entry) (r : Result (Bor (List Entry)) Span) → (out-TraitBound b).parens ≡ true →
    pass (k ∷ []) es ≡ Ok e1 →
    pass (bare_levels (k + 1) (out-TraitBound b).maybe (out-TraitBound b).lifetimes (path_levels (k + 1) (path_view (out-TraitBound b).path))) e1 ≡ Ok e2 →
    Passes (k ∷ []) e2 r → Passes (trait_bound_levels k (trait_view b)) es r
trait_group k b es e1 e2 r a h i p =
    let inside : ℕ → List ℕ = λ j. bare_levels j (out-TraitBound b).maybe (out-TraitBound b).lifetimes (path_levels j (path_view (out-TraitBound b).path)) in
    passes_equal _ _ es r
    (ap (trait_bound_levels k) (view-TraitBound b) ∙ ap (λ t. cond t (grouped_levels k (inside (k + 1))) (inside k)) a)
    (passes_group k (inside (k + 1)) es e1 e2 r h i p)

-- ---- the later segments of a qualified path

split_at : (all : List PathSegment) (x : PathSegment) (i : ℕ) → i < length all → x ≡ get_or all i x → drop i all ≡ x ∷ drop (i + 1) all
split_at all x i h e = drop-cons all i x h ∙ ap (λ y. y ∷ drop (suc i) all) (sym e) ∙ ap (λ k. x ∷ drop k all) (sym (add-one i))

abbrev later_from : ℕ → List PathSegment → ℕ → ℕ → List ℕ
later_from k all position i = spaced_levels (two k) false (drop (position - i) (each_segment k (segments_of (map segment_view (drop i all)))))

abbrev pub later_all : ℕ → List PathSegment → ℕ → List ℕ
later_all k all position = spaced_levels (two k) false (drop position (each_segment k (segments_of (map segment_view all))))

later_step : (k : ℕ) (all : List PathSegment) (x : PathSegment) (i position : ℕ) → i < length all → x ≡ get_or all i x → position ≤ i →
    later_from k all position i ≡ two k ++ (segment_levels k (segment_view x) ++ later_from k all position (i + 1))
later_step k all x i position h e p =
    ap (λ l. spaced_levels (two k) false l) (drop_none position i (each_segment k (segments_of (map segment_view (drop i all)))) p) ∙
    ap (λ l. spaced_levels (two k) false (each_segment k (segments_of (map segment_view l)))) (split_at all x i h e) ∙
    ap (λ l. two k ++ (segment_levels k (segment_view x) ++ spaced_levels (two k) false l))
    (sym (drop_later position i (each_segment k (segments_of (map segment_view (drop (i + 1) all)))) p))

later_reached : (k : ℕ) (all : List PathSegment) (x : PathSegment) (i position : ℕ) (es e1 : List Entry) → i < length all → x ≡ get_or all i x → position ≤ i →
    pass (two k) es ≡ Ok e1 → pass (later_from k all position i) es ≡ pass (segment_levels k (segment_view x) ++ later_from k all position (i + 1)) e1
later_reached k all x i position es e1 h e p a =
    ap (λ l. pass l es) (later_step k all x i position h e p) ∙ pass_next (two k) (segment_levels k (segment_view x) ++ later_from k all position (i + 1)) es e1 a

pub later_kept : (k : ℕ) (all : List PathSegment) (x : PathSegment) (i position : ℕ) (es e1 e2 : List Entry) (j : Result (List Entry) Span) →
    i < length all → x ≡ get_or all i x → position ≤ i → pass (two k) es ≡ Ok e1 → pass (segment_levels k (segment_view x)) e1 ≡ Ok e2 →
    pass (later_from k all position i) es ≡ j → pass (later_from k all position (i + 1)) e2 ≡ j
later_kept k all x i position es e1 e2 j h e p a b v =
    sym (later_reached k all x i position es e1 h e p a ∙ pass_next (segment_levels k (segment_view x)) (later_from k all position (i + 1)) e1 e2 b) ∙ v

pub later_fails : (k : ℕ) (all : List PathSegment) (x : PathSegment) (i position : ℕ) (es e1 : List Entry) (s : Span) (j : Result (List Entry) Span) →
    i < length all → x ≡ get_or all i x → position ≤ i → pass (two k) es ≡ Ok e1 → pass (segment_levels k (segment_view x)) e1 ≡ Err s →
    pass (later_from k all position i) es ≡ j → j ≡ Err s
later_fails k all x i position es e1 s j h e p a b v =
    sym v ∙ later_reached k all x i position es e1 h e p a ∙ pass_stops (segment_levels k (segment_view x)) (later_from k all position (i + 1)) e1 s b
