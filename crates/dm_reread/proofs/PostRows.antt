-- Members, methods and `?`, read back.
use Rattle.std.specs.Prelude.{cond, ◌≡◌, ℕ, suc, ◌≤◌, Bool, true, false, not, ◌&&◌, T, codes, Some, None, refl}
use Rattle.std.proofs.Common.{ap, ◌∙◌, sym}
use native.Mathlib.Omega.{arith}
use Rattle.dm_stream.specs.declared.tokens.Delim.TheVariants.{Paren}
use Rattle.dm_stream.specs.declared.tokens.Ident.{Ident}
use Rattle.dm_stream.specs.Trees.{Trees, no_trees, join, join-no_trees, join_assoc}
use Rattle.dm_ast.specs.TypeTokens.{spaced}
use Rattle.dm_output.specs.declared.expr.Member.TheVariants as m
use Rattle.dm_output.specs.Output.{ExprTree, or_expr, and_expr, equal, unequal, deref, return_expr, ref_opaque, ref_expr, ExprTrees, no_exprs, expr_then}
use Rattle.dm_output.specs.Tokens as k
use Rattle.dm_output.specs.Tokens.{expr_trees, each_expr}
use Rattle.dm_reread.specs.Next.{next}
use Rattle.dm_reread.specs.Leaves.{LeafGrammar}
use Rattle.dm_reread.specs.Reading.{Posts, no_posts, p_member, p_call, p_map, p_map_err, p_question, Readers, method_from, map_from, map_err_from, call_from, is_map, is_map_err, read_posts, read_base, read_pre}
use Rattle.dm_reread.specs.Grammar.{at_or, at_pre, at_post, Stops, Fits, may_take, is_any, IsExpr, Each}
use Rattle.dm_reread.specs.Need.{need, needs}
use Rattle.dm_reread.proofs.Words.{plainly, name-next, map-name, map-err-name, v-name}
use Rattle.dm_reread.proofs.Passing.{post-pre, posts-stop, not_parens, no-parens, member-stops, pre-base, is_bar, map-method, bar-start, map-err-some}
use Rattle.dm_reread.proofs.Posts.{posts_trees, ArePosts, posts_need, closure_trees, is_base, Spine, spine}
use Rattle.dm_reread.proofs.Laws.{Laws, tail}
use Rattle.dm_reread.proofs.PathRows.{all-args}
use Rattle.dm_reread.proofs.BaseRows.{inside-row, base-row}

posts-open : (b : Bool) (ps : Posts) (rest : Trees) → Stops at_pre b (next rest) → T (not_parens (next (join (posts_trees ps) rest)))
posts-open b no_posts rest s = no-parens b (next rest) (post-pre b (next rest) s)
posts-open b (p_member x ps) rest s = tt
posts-open b (p_call i es ps) rest s = tt
posts-open b (p_map e ps) rest s = tt
posts-open b (p_map_err o ps) rest s = tt
posts-open b (p_question ps) rest s = tt

posts-follow : (b : Bool) (ps : Posts) (rest : Trees) → Stops at_pre b (next rest) → Stops at_post b (next (join (posts_trees ps) rest))
posts-follow b no_posts rest s = post-pre b (next rest) s
posts-follow b (p_member x ps) rest s = tt
posts-follow b (p_call i es ps) rest s = tt
posts-follow b (p_map e ps) rest s = tt
posts-follow b (p_map_err o ps) rest s = tt
posts-follow b (p_question ps) rest s = tt

-- ---- methods

-- arguments begin with no closure
no-bar : (g : LeafGrammar) (r : Readers) (n : ℕ) (L : Laws g r n) (es : ExprTrees) → Each g at_or true es → needs es ≤ suc n →
    T (is_bar (next (spaced k.comma true (each_expr es)))) → ⊥
no-bar g r n L no_exprs h m c = c
no-bar g r n L (expr_then e no_exprs) h m c =
    let got : r.expr true (join (expr_trees e) no_trees) ≡ Some (e, no_trees) = L.expr true e no_trees h.0.0 (omega arith) tt in
    let none : r.expr true (join (expr_trees e) no_trees) ≡ None = L.refuses (join (expr_trees e) no_trees) (bar-start (next (join (expr_trees e) no_trees)) c) in
    cc
no-bar g r n L (expr_then e (expr_then e' es)) h m c =
    let more : Trees = tail k.comma (expr_then e' es) in
    let got : r.expr true (join (expr_trees e) more) ≡ Some (e, more) = L.expr true e more h.0.0 (omega arith) tt in
    let none : r.expr true (join (expr_trees e) more) ≡ None = L.refuses (join (expr_trees e) more) (bar-start (next (join (expr_trees e) more)) c) in
    cc

-- a method without arguments takes nothing that is not read
err-method : (r : Readers) (i : Ident) (es : ExprTrees) (behind : Trees) → T (not (is_any es)) →
    map_err_from r i (spaced k.comma true (each_expr es)) behind ≡ method_from r i (spaced k.comma true (each_expr es)) behind
err-method r i no_exprs behind h = refl
err-method r i (expr_then e es) behind h = absurd h

may-not : (c d : Bool) → T (not (c && d)) → c ≡ true → T (not d)
may-not true d h e = h
may-not false d h e = absurd (cc)

-- any other name than `map_err` or with no argument, and `map` without a closure
plain-call : (g : LeafGrammar) (r : Readers) (n : ℕ) (L : Laws g r n) (i : Ident) (es : ExprTrees) (behind : Trees) →
    Each g at_or true es → needs es ≤ suc n →
    T (may_take i es) →
    call_from r i (spaced k.comma true (each_expr es)) behind ≡ method_from r i (spaced k.comma true (each_expr es)) behind
plain-call g r n L i es behind h m c = by_name (is_map_err i) (is_map i) refl
  where
    inside : Trees
    inside = spaced k.comma true (each_expr es)

    by_name : (err mapped : Bool) → is_map_err i ≡ err →
        cond err (map_err_from r i inside behind) (cond mapped (map_from r i inside behind (next inside)) (method_from r i inside behind)) ≡
        method_from r i inside behind
    by_name true mapped e = err-method r i es behind (may-not (is_map_err i) (is_any es) c e)
    by_name false true e = map-method r i inside behind (next inside) (no-bar g r n L es h m)
    by_name false false e = refl

pub posts-row : (g : LeafGrammar) (r : Readers) (n : ℕ) (L : Laws g r n) (b : Bool) (ps : Posts) (rest : Trees) → ArePosts g ps →
    posts_need ps ≤ suc n →
    Stops at_pre b (next rest) → read_posts r (join (posts_trees ps) rest) (next (join (posts_trees ps) rest)) ≡ Some (ps, rest)
posts-row g r n L b no_posts rest h m s = posts-stop r b rest (next rest) s
posts-row g r n L b (p_member (m.Named i) ps) rest h m s =
    let behind : Trees = join (posts_trees ps) rest in
    rw (
      name-next i behind h.0,
      h.0,
    ) (member-stops r i behind (next behind) (posts-open b ps rest s) ∙ rw (L.posts b ps rest h.1 (omega arith) s) refl)
posts-row g r n L b (p_member (m.Index l) ps) rest h m s = rw (h.0, L.posts b ps rest h.1 (omega arith) s) refl
posts-row g r n L b (p_call i es ps) rest h m s =
    let behind : Trees = join (posts_trees ps) rest in
    rw (name-next i (join (k.enclosed Paren (spaced k.comma true (each_expr es))) behind) h.0.0.0, h.0.0.0)
    (plain-call g r n L i es behind h.0.1 (omega arith) h.0.0.1 ∙ rw (all-args g r n L es h.0.1 (omega arith), L.posts b ps rest h.1 (omega arith) s) refl)
posts-row g r n L b (p_map e ps) rest h m s =
    rw (
      name-next (plainly (codes "map")) (join (k.enclosed Paren (closure_trees e)) (join (posts_trees ps) rest)) map-name,
      map-name,
      name-next (plainly (codes "v")) (join (k.punct 124) (expr_trees e)) v-name,
      inside-row g r n L e h.0 (omega arith),
      L.posts b ps rest h.1 (omega arith) s,
    ) refl
posts-row g r n L b (p_map_err o ps) rest h m s =
    let behind : Trees = join (posts_trees ps) rest in
    rw (name-next (plainly (codes "map_err")) (join (k.enclosed Paren o) behind) map-err-name, map-err-name)
    (map-err-some r (plainly (codes "map_err")) o behind h.0 ∙ rw (L.posts b ps rest h.1 (omega arith) s) refl)
posts-row g r n L b (p_question ps) rest h m s = rw (L.posts b ps rest h (omega arith) s) refl

-- ---- an expression with what stands behind it

base-needs : (e : ExprTree) → T (is_base e) → 2 ≤ need e
base-needs (or_expr es) f = absurd f
base-needs (and_expr es) f = absurd f
base-needs (equal a c) f = absurd f
base-needs (unequal a c) f = absurd f
base-needs (deref a) f = absurd f
base-needs (ref_opaque o) f = absurd f
base-needs (ref_expr w a) f = absurd f
base-needs (return_expr a) f = absurd f
base-needs _ f = omega arith

posts-some : (ps : Posts) → 1 ≤ posts_need ps
posts-some no_posts = omega arith
posts-some _ = omega arith

pub post-row : (g : LeafGrammar) (r : Readers) (n : ℕ) (L : Laws g r n) (b : Bool) (e : ExprTree) (rest : Trees) → IsExpr g b e →
    Fits at_post e → need e ≤ suc n →
    Stops at_pre b (next rest) → read_pre r b (join (expr_trees e) rest) (next (join (expr_trees e) rest)) ≡ Some (e, rest)
post-row g r n L b e rest h f m s =
    let p : Spine g b e no_posts = spine g b e no_posts h f tt in
    let behind : Trees = join (posts_trees p.posts) rest in
    let front : Trees = join (expr_trees p.base) behind in
    let first : read_base r b front (next front) ≡ Some (p.base, behind) =
    base-row g r n L b p.base behind p.base_is p.is_inner (omega (arith, p.needed, posts-some p.posts)) (posts-follow b p.posts rest s) in
    let shape : join (expr_trees e) rest ≡ front =
    ap (λ ts. join ts rest) (sym (p.spelled ∙ join-no_trees (expr_trees e))) ∙
    join_assoc (expr_trees p.base) (posts_trees p.posts) rest in
    ap (λ ts. read_pre r b ts (next ts)) shape ∙ pre-base r b front (next front) (p.base, behind) first ∙
    rw (
      first,
      L.posts b p.posts rest p.posts_are (omega (arith, p.needed, base-needs p.base p.is_inner)) s,
    ) (ap (λ x. Some (x, rest)) p.made)
