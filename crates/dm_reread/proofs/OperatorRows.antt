-- `*`, `&`, operators between two, chains and `return`, read back.
use Rattle.std.specs.Prelude.{◌≡◌, ℕ, suc, ◌≤◌, Bool, true, false, not, ◌||◌, T, List, codes, Some, None, refl}
use Rattle.std.proofs.Common.{ap, ◌∙◌}
use native.Mathlib.Omega.{arith}
use Rattle.dm_stream.specs.declared.tokens.Delim.TheVariants.{Paren, Brace}
use Rattle.dm_stream.specs.Layout.{nowhere}
use Rattle.dm_stream.specs.Trees.{Trees, join, join_assoc}
use Rattle.dm_ast.specs.Tree.{MaybeSelf, no_self, some_self, PathTree, path_tree, segment, no_segments, segment_then, absent}
use Rattle.dm_ast.specs.TypeTokens.{name, spaced, path_trees}
use Rattle.dm_output.specs.Output.{ExprTree, return_expr, or_expr, and_expr, equal, unequal, ref_opaque, ref_expr, deref, member, method_call, map_expr, map_err, question, path_expr, call, build, build_named, paren, tuple, opaque_call, str_expr, bool, match_expr, unsafe_expr, write_expr, format_args, ExprTrees, no_exprs, expr_then}
use Rattle.dm_output.specs.Tokens as k
use Rattle.dm_output.specs.Tokens.{expr_trees, each_expr, ended, each_named_expr, member_trees, path_expr_trees, fmt_trees}
use Rattle.dm_reread.specs.Next.{next}
use Rattle.dm_reread.specs.Leaves.{Answer, LeafGrammar}
use Rattle.dm_reread.specs.Reading.{then, Readers, goes_on, more_ands, more_ors, read_pre, read_cmp, read_and, read_or}
use Rattle.dm_reread.specs.Grammar.{at_or, at_and, at_cmp, at_pre, at_post, is_group, Stops, Fits, IsPlainPath, IsPath, IsExpr, Each}
use Rattle.dm_reread.specs.Need.{need, needs}
use Rattle.dm_reread.proofs.Words.{plainly, word-next, name-path, derive-more-name}
use Rattle.dm_reread.proofs.Passing.{pre-stops, cmp-stops, and-stops, ands-stop, ors-stop, and-or, cmp-and, pre-cmp, is_return, return-pre, or-some, ref_ready, ref-pre, mut-ref-pre, opaque-stops, some-opaque}
use Rattle.dm_reread.proofs.Posts.{closure_trees}
use Rattle.dm_reread.proofs.Laws.{Laws, tail, colons_tail}
use Rattle.dm_reread.proofs.PostRows.{post-row}

-- ---- `*` and `&`

-- a path begins with no group and no `mut`
plain-ready : (p : PathTree) (rest : Trees) → IsPlainPath p → T (ref_ready (next (join (path_trees nowhere p) rest)))
plain-ready (path_tree leading no_segments) rest p = absurd p.0
plain-ready (path_tree true (segment_then (segment i absent) ss)) rest p = tt
plain-ready (path_tree false (segment_then (segment i absent) ss)) rest p = rw (word-next i (join (colons_tail ss) rest) p.1.0) tt
plain-ready (path_tree leading (segment_then (segment i x) ss)) rest p = absurd p.1

path-ready : (g : LeafGrammar) (q : MaybeSelf) (p : PathTree) (rest : Trees) → IsPath g q p →
    T (ref_ready (next (join (path_expr_trees q p) rest)))
path-ready g no_self p rest h = plain-ready p rest h
path-ready g (some_self t position) (path_tree leading ss) rest h = tt

path-ready-then : (g : LeafGrammar) (q : MaybeSelf) (p : PathTree) (more rest : Trees) → IsPath g q p →
    T (ref_ready (next (join (join (path_expr_trees q p) more) rest)))
path-ready-then g q p more rest h = rw (join_assoc (path_expr_trees q p) more rest) (path-ready g q p (join more rest) h)

macro-ready : (called : List ℕ) (inside rest : Trees) → T (ref_ready (next (join (k.macro_trees called inside) rest)))
macro-ready called inside rest =
    let end : Trees = join (k.word called) (join (k.punct 33) (k.enclosed Paren inside)) in
    let behind : Trees = join (k.joint 58 58) (join (k.word (codes "core")) (join (k.joint 58 58) end)) in
    rw (word-next (plainly (codes "derive_more")) (join behind rest) (name-path (plainly (codes "derive_more")) derive-more-name)) tt

post-fits : (a : ExprTree) → Fits at_post a → Fits at_pre a
post-fits (or_expr es) f = absurd f
post-fits (and_expr es) f = absurd f
post-fits (equal a c) f = absurd f
post-fits (unequal a c) f = absurd f
post-fits (return_expr a) f = absurd f
post-fits _ f = tt

either : (c : Bool) → T (c || false) → T c
either true h = tt
either false h = absurd h

second : (c d : Bool) → T d → T (c || d)
second true d h = tt
second false d h = h

ready : (g : LeafGrammar) (b : Bool) (a : ExprTree) (rest : Trees) → IsExpr g b a → Fits at_pre a →
    T (goes_on (next rest) || not (is_group a)) →
    T (ref_ready (next (join (expr_trees a) rest)))
ready g b (or_expr es) rest h f w = absurd f
ready g b (and_expr es) rest h f w = absurd f
ready g b (equal a c) rest h f w = absurd f
ready g b (unequal a c) rest h f w = absurd f
ready g b (return_expr a) rest h f w = absurd f
ready g b (tuple es) rest h f w = either (goes_on (next rest)) w
ready g b (paren a) rest h f w = either (goes_on (next rest)) w
ready g b (deref a) rest h f w = tt
ready g b (ref_opaque o) rest h f w = tt
ready g b (ref_expr is_mut a) rest h f w = tt
ready g b (path_expr q p) rest h f w = path-ready g q p rest h
ready g b (call q p es) rest h f w = path-ready-then g q p (k.enclosed Paren (spaced k.comma true (each_expr es))) rest h.0
ready g b (build q p es) rest h f w = path-ready-then g q p (k.enclosed Paren (ended (each_expr es))) rest h.0
ready g b (build_named q p es) rest h f w = path-ready-then g q p (k.enclosed Brace (ended (each_named_expr es))) rest h.1.0
ready g b (str_expr l) rest h f w = tt
ready g b (bool true) rest h f w = tt
ready g b (bool false) rest h f w = tt
ready g b (match_expr a arms) rest h f w = tt
ready g b (unsafe_expr a) rest h f w = tt
ready g b (opaque_call o a) rest h f w = tt
ready g b (write_expr i x) rest h f w = macro-ready (codes "write") (join (name i) (join k.comma (fmt_trees x))) rest
ready g b (format_args x) rest h f w = macro-ready (codes "format_args") (fmt_trees x) rest
ready g b (member a x) rest h f w =
    let post : Trees = join (k.punct 46) (member_trees x) in
    rw (join_assoc (expr_trees a) post rest) (ready g b a (join post rest) h.0.0 (post-fits a h.0.1) tt)
ready g b (method_call a i es) rest h f w =
    let post : Trees = join (k.punct 46) (join (name i) (k.enclosed Paren (spaced k.comma true (each_expr es)))) in
    rw (join_assoc (expr_trees a) post rest) (ready g b a (join post rest) h.0.0 (post-fits a h.0.1) tt)
ready g b (map_expr a e) rest h f w =
    let post : Trees = join (k.punct 46) (join (k.word (codes "map")) (k.enclosed Paren (closure_trees e))) in
    rw (join_assoc (expr_trees a) post rest) (ready g b a (join post rest) h.0.0 (post-fits a h.0.1) tt)
ready g b (map_err a o) rest h f w =
    let post : Trees = join (k.punct 46) (join (k.word (codes "map_err")) (k.enclosed Paren o)) in
    rw (join_assoc (expr_trees a) post rest) (ready g b a (join post rest) h.0.0 (post-fits a h.0.1) tt)
ready g b (question a) rest h f w =
    rw (join_assoc (expr_trees a) (k.punct 63) rest) (ready g b a (join (k.punct 63) rest) h.0 (post-fits a h.1) tt)

ref-row : (g : LeafGrammar) (r : Readers) (n : ℕ) (L : Laws g r n) (b w : Bool) (a : ExprTree) (rest : Trees) → IsExpr g b a →
    Fits at_pre a → T (not (is_group a)) →
    need a ≤ n → Stops at_pre b (next rest) →
    read_pre r b (join (expr_trees (ref_expr w a)) rest) (next (join (expr_trees (ref_expr w a)) rest)) ≡ Some (ref_expr w a, rest)
ref-row g r n L b true a rest h f c m s =
    let here : Trees = join (expr_trees a) rest in
    let begins : T (ref_ready (next here)) = ready g b a rest h f (second (goes_on (next rest)) (not (is_group a)) c) in
    mut-ref-pre r b here (next here) begins ∙ rw (L.pre b a rest h f m s) refl
ref-row g r n L b false a rest h f c m s =
    let here : Trees = join (expr_trees a) rest in
    let begins : T (ref_ready (next here)) = ready g b a rest h f (second (goes_on (next rest)) (not (is_group a)) c) in
    ref-pre r b here (next here) begins ∙ rw (L.pre b a rest h f m s) refl

pub pre-row : (g : LeafGrammar) (r : Readers) (n : ℕ) (L : Laws g r n) (b : Bool) (e : ExprTree) (rest : Trees) → IsExpr g b e →
    Fits at_pre e → need e ≤ suc n →
    Stops at_pre b (next rest) → read_pre r b (join (expr_trees e) rest) (next (join (expr_trees e) rest)) ≡ Some (e, rest)
pre-row g r n L b (or_expr es) rest h f m s = absurd f
pre-row g r n L b (and_expr es) rest h f m s = absurd f
pre-row g r n L b (equal a c) rest h f m s = absurd f
pre-row g r n L b (unequal a c) rest h f m s = absurd f
pre-row g r n L b (return_expr a) rest h f m s = absurd f
pre-row g r n L b (deref a) rest h f m s = rw (L.pre b a rest h.0 h.1 (omega arith) s) refl
pre-row g r n L b (ref_opaque o) rest h f m s = rw (opaque-stops b (next rest) s) (some-opaque o (Some (ref_opaque o, rest)) h)
pre-row g r n L b (ref_expr w a) rest h f m s = ref-row g r n L b w a rest h.0.0 h.0.1 h.1 (omega arith) s
pre-row g r n L b e rest h f m s = post-row g r n L b e rest h f m s

-- ---- `==` and `!=`

alone-cmp : (g : LeafGrammar) (r : Readers) (n : ℕ) (L : Laws g r n) (b : Bool) (e : ExprTree) (rest : Trees) → IsExpr g b e →
    Fits at_pre e → need e ≤ suc n →
    Stops at_cmp b (next rest) → read_cmp r b (join (expr_trees e) rest) ≡ Some (e, rest)
alone-cmp g r n L b e rest h f m s = rw (pre-row g r n L b e rest h f m (pre-cmp b (next rest) s)) (pre-stops r b e rest (next rest) s)

pub cmp-row : (g : LeafGrammar) (r : Readers) (n : ℕ) (L : Laws g r n) (b : Bool) (e : ExprTree) (rest : Trees) → IsExpr g b e →
    Fits at_cmp e → need e ≤ suc n →
    Stops at_cmp b (next rest) → read_cmp r b (join (expr_trees e) rest) ≡ Some (e, rest)
cmp-row g r n L b (or_expr es) rest h f m s = absurd f
cmp-row g r n L b (and_expr es) rest h f m s = absurd f
cmp-row g r n L b (equal a c) rest h f m s =
    let behind : Trees = join (k.joint 61 61) (join (expr_trees c) rest) in
    ap (read_cmp r b) (join_assoc (expr_trees a) (join (k.joint 61 61) (expr_trees c)) rest) ∙
    rw (pre-row g r n L b a behind h.0.0 h.0.1 (omega arith) tt, L.pre b c rest h.1.0 h.1.1 (omega arith) (pre-cmp b (next rest) s)) refl
cmp-row g r n L b (unequal a c) rest h f m s =
    let behind : Trees = join (k.joint 33 61) (join (expr_trees c) rest) in
    ap (read_cmp r b) (join_assoc (expr_trees a) (join (k.joint 33 61) (expr_trees c)) rest) ∙
    rw (pre-row g r n L b a behind h.0.0 h.0.1 (omega arith) tt, L.pre b c rest h.1.0 h.1.1 (omega arith) (pre-cmp b (next rest) s)) refl
cmp-row g r n L b e rest h f m s = alone-cmp g r n L b e rest h f m s

-- ---- chains

-- behind its sign, an expression and those that follow it
one-more : (read : Trees → Answer ExprTree) (later : Trees → Answer ExprTrees) (e : ExprTree) (es : ExprTrees) (more rest : Trees) →
    read (join (expr_trees e) (join more rest)) ≡ Some (e, join more rest) → later (join more rest) ≡ Some (es, rest) →
    then {B = ExprTrees × Trees} (read (join (join (expr_trees e) more) rest))
    (λ a. then {B = ExprTrees × Trees} (later a.1) (λ s. Some (expr_then a.0 s.0, s.1))) ≡
    Some (expr_then e es, rest)
one-more read later e es more rest h k = rw (join_assoc (expr_trees e) more rest, h, k) refl

ands-stops : (b : Bool) (es : ExprTrees) (rest : Trees) → Stops at_and b (next rest) →
    Stops at_cmp b (next (join (tail (k.joint 38 38) es) rest))
ands-stops b no_exprs rest s = cmp-and b (next rest) s
ands-stops b (expr_then e es) rest s = tt

ors-stops : (b : Bool) (es : ExprTrees) (rest : Trees) → Stops at_or b (next rest) →
    Stops at_and b (next (join (tail (k.joint 124 124) es) rest))
ors-stops b no_exprs rest s = and-or b (next rest) s
ors-stops b (expr_then e es) rest s = tt

pub ands-row : (g : LeafGrammar) (r : Readers) (n : ℕ) (L : Laws g r n) (b : Bool) (es : ExprTrees) (rest : Trees) → Each g at_cmp b es →
    needs es ≤ suc n →
    Stops at_and b (next rest) →
    more_ands r b (join (tail (k.joint 38 38) es) rest) (next (join (tail (k.joint 38 38) es) rest)) ≡ Some (es, rest)
ands-row g r n L b no_exprs rest h m s = ands-stop r b rest (next rest) s
ands-row g r n L b (expr_then e es) rest h m s =
    let more : Trees = tail (k.joint 38 38) es in
    one-more (read_cmp r b) (r.ands b) e es more rest
    (cmp-row g r n L b e (join more rest) h.0.0 h.0.1 (omega arith) (ands-stops b es rest s)) (L.ands b es rest h.1 (omega arith) s)

alone-and : (g : LeafGrammar) (r : Readers) (n : ℕ) (L : Laws g r n) (b : Bool) (e : ExprTree) (rest : Trees) → IsExpr g b e →
    Fits at_cmp e → need e ≤ suc n →
    Stops at_and b (next rest) → read_and r b (join (expr_trees e) rest) ≡ Some (e, rest)
alone-and g r n L b e rest h f m s = rw (cmp-row g r n L b e rest h f m (cmp-and b (next rest) s)) (cmp-stops r b e rest (next rest) s)

pub and-row : (g : LeafGrammar) (r : Readers) (n : ℕ) (L : Laws g r n) (b : Bool) (e : ExprTree) (rest : Trees) → IsExpr g b e →
    Fits at_and e → need e ≤ suc n →
    Stops at_and b (next rest) → read_and r b (join (expr_trees e) rest) ≡ Some (e, rest)
and-row g r n L b (or_expr es) rest h f m s = absurd f
and-row g r n L b (and_expr no_exprs) rest h f m s = absurd h.0
and-row g r n L b (and_expr (expr_then e no_exprs)) rest h f m s = absurd h.0
and-row g r n L b (and_expr (expr_then e (expr_then e' es))) rest h f m s =
    let more : Trees = tail (k.joint 38 38) (expr_then e' es) in
    ap (read_and r b) (join_assoc (expr_trees e) more rest) ∙
    rw (cmp-row g r n L b e (join more rest) h.1.0.0 h.1.0.1 (omega arith) tt, L.ands b (expr_then e' es) rest h.1.1 (omega arith) s) refl
and-row g r n L b e rest h f m s = alone-and g r n L b e rest h f m s

pub ors-row : (g : LeafGrammar) (r : Readers) (n : ℕ) (L : Laws g r n) (b : Bool) (es : ExprTrees) (rest : Trees) → Each g at_and b es →
    needs es ≤ suc n →
    Stops at_or b (next rest) →
    more_ors r b (join (tail (k.joint 124 124) es) rest) (next (join (tail (k.joint 124 124) es) rest)) ≡ Some (es, rest)
ors-row g r n L b no_exprs rest h m s = ors-stop r b rest (next rest) s
ors-row g r n L b (expr_then e es) rest h m s =
    let more : Trees = tail (k.joint 124 124) es in
    one-more (read_and r b) (r.ors b) e es more rest
    (and-row g r n L b e (join more rest) h.0.0 h.0.1 (omega arith) (ors-stops b es rest s)) (L.ors b es rest h.1 (omega arith) s)

-- what reads as a chain begins with no `return`
no-return : (r : Readers) (b : Bool) (ts : Trees) (x : ExprTree × Trees) → read_and r b ts ≡ Some x → T (is_return (next ts)) → ⊥
no-return r b ts x h c = let e : read_and r b ts ≡ None = rw (return-pre r b ts (next ts) c) refl in cc

alone-or : (g : LeafGrammar) (r : Readers) (n : ℕ) (L : Laws g r n) (b : Bool) (e : ExprTree) (rest : Trees) → IsExpr g b e →
    Fits at_and e → need e ≤ suc n →
    Stops at_or b (next rest) → read_or r b (join (expr_trees e) rest) ≡ Some (e, rest)
alone-or g r n L b e rest h f m s =
    let got : read_and r b (join (expr_trees e) rest) ≡ Some (e, rest) = and-row g r n L b e rest h f m (and-or b (next rest) s) in
    or-some r b (join (expr_trees e) rest) (next (join (expr_trees e) rest)) (no-return r b (join (expr_trees e) rest) (e, rest) got) ∙
    rw got (and-stops r b e rest (next rest) s)

pub or-row : (g : LeafGrammar) (r : Readers) (n : ℕ) (L : Laws g r n) (b : Bool) (e : ExprTree) (rest : Trees) → IsExpr g b e →
    need e ≤ suc n →
    Stops at_or b (next rest) → read_or r b (join (expr_trees e) rest) ≡ Some (e, rest)
or-row g r n L b (or_expr no_exprs) rest h m s = absurd h.0
or-row g r n L b (or_expr (expr_then e no_exprs)) rest h m s = absurd h.0
or-row g r n L b (or_expr (expr_then e (expr_then e' es))) rest h m s =
    let more : Trees = tail (k.joint 124 124) (expr_then e' es) in
    let here : Trees = join (expr_trees e) (join more rest) in
    let got : read_and r b here ≡ Some (e, join more rest) = and-row g r n L b e (join more rest) h.1.0.0 h.1.0.1 (omega arith) tt in
    ap (read_or r b) (join_assoc (expr_trees e) more rest) ∙ or-some r b here (next here) (no-return r b here (e, join more rest) got) ∙
    rw (got, L.ors b (expr_then e' es) rest h.1.1 (omega arith) s) refl
or-row g r n L b (return_expr a) rest h m s = rw (L.expr b a rest h (omega arith) s) refl
or-row g r n L b e rest h m s = alone-or g r n L b e rest h tt m s
