-- Receivers and what stands behind them.
use Rattle.std.specs.Prelude.{◌≡◌, ℕ, suc, ◌+◌, ◌≤◌, Bool, true, false, T, codes, refl}
use Rattle.std.proofs.Common.{◌∙◌, sym}
use native.Mathlib.Omega.{arith}
use Rattle.dm_stream.specs.declared.tokens.Delim.TheVariants.{Paren}
use Rattle.dm_stream.specs.Trees.{Trees, no_trees, join, join_assoc}
use Rattle.dm_ast.specs.TypeTokens.{name, spaced}
use Rattle.dm_output.specs.Output.{ExprTree, or_expr, and_expr, equal, unequal, deref, return_expr, ref_opaque, ref_expr, member, method_call, map_expr, map_err, question}
use Rattle.dm_output.specs.Tokens as k
use Rattle.dm_output.specs.Tokens.{expr_trees, each_expr, member_trees}
use Rattle.dm_reread.specs.Leaves.{LeafGrammar}
use Rattle.dm_reread.specs.Reading.{Posts, no_posts, p_member, p_call, p_map, p_map_err, p_question, apply}
use Rattle.dm_reread.specs.Grammar.{at_or, at_post, Fits, IsExpr, Each, IsName, IsMember, IsOpaque, may_take}
use Rattle.dm_reread.specs.Need.{need, needs}

-- the inside of the parentheses of `map`
abbrev pub closure_trees : ExprTree → Trees
closure_trees e = join (k.punct 124) (join (k.word (codes "v")) (join (k.punct 124) (expr_trees e)))

abbrev pub posts_trees : Posts → Trees
posts_trees no_posts = no_trees
posts_trees (p_member x ps) = join (k.punct 46) (join (member_trees x) (posts_trees ps))
posts_trees (p_call i es ps) =
    join (k.punct 46) (join (name i) (join (k.enclosed Paren (spaced k.comma true (each_expr es))) (posts_trees ps)))
posts_trees (p_map e ps) = join (k.punct 46) (join (k.word (codes "map")) (join (k.enclosed Paren (closure_trees e)) (posts_trees ps)))
posts_trees (p_map_err o ps) = join (k.punct 46) (join (k.word (codes "map_err")) (join (k.enclosed Paren o) (posts_trees ps)))
posts_trees (p_question ps) = join (k.punct 63) (posts_trees ps)

abbrev pub ArePosts : LeafGrammar → Posts → Type 0
ArePosts g no_posts = Unit {0}
ArePosts g (p_member x ps) = IsMember x × ArePosts g ps
ArePosts g (p_call i es ps) = ((IsName i × T (may_take i es)) × Each g at_or true es) × ArePosts g ps
ArePosts g (p_map e ps) = IsExpr g true e × ArePosts g ps
ArePosts g (p_map_err o ps) = IsOpaque o × ArePosts g ps
ArePosts g (p_question ps) = ArePosts g ps

abbrev pub posts_need : Posts → ℕ
posts_need no_posts = 1
posts_need (p_member x ps) = suc (posts_need ps)
posts_need (p_call i es ps) = suc (needs es + posts_need ps)
posts_need (p_map e ps) = suc (need e + posts_need ps)
posts_need (p_map_err o ps) = suc (posts_need ps)
posts_need (p_question ps) = suc (posts_need ps)

-- what nothing stands behind
abbrev pub is_base : ExprTree → Bool
is_base (member a x) = false
is_base (method_call a i es) = false
is_base (map_expr a e) = false
is_base (map_err a o) = false
is_base (question a) = false
is_base (or_expr es) = false
is_base (and_expr es) = false
is_base (equal a c) = false
is_base (unequal a c) = false
is_base (return_expr a) = false
is_base (deref a) = false
is_base (ref_opaque o) = false
is_base (ref_expr w a) = false
is_base e = true

-- an expression with more behind it, from its innermost receiver
pub record Spine (g : LeafGrammar) (b : Bool) (e : ExprTree) (acc : Posts) : Type 0 where
  pub base : ExprTree
  pub posts : Posts
  pub base_is : IsExpr g b base
  pub is_inner : T (is_base base)
  pub posts_are : ArePosts g posts
  pub made : apply base posts ≡ apply e acc
  pub spelled : join (expr_trees base) (posts_trees posts) ≡ join (expr_trees e) (posts_trees acc)
  pub needed : need base + posts_need posts ≤ need e + posts_need acc

alone : (g : LeafGrammar) (b : Bool) (e : ExprTree) (acc : Posts) → IsExpr g b e → T (is_base e) → ArePosts g acc → Spine g b e acc
alone g b e acc h i a =
    record { base = e; posts = acc; base_is = h; is_inner = i; posts_are = a; made = refl; spelled = refl; needed = omega arith }

-- the same of a longer expression
longer : (g : LeafGrammar) (b : Bool) (a e : ExprTree) (acc acc' : Posts) (s : Spine g b a acc') → apply a acc' ≡ apply e acc →
    join (expr_trees a) (posts_trees acc') ≡ join (expr_trees e) (posts_trees acc) → need a + posts_need acc' ≤ need e + posts_need acc →
    Spine g b e acc
longer g b a e acc acc' s m t n = record {
  base = s.base;
  posts = s.posts;
  base_is = s.base_is;
  is_inner = s.is_inner;
  posts_are = s.posts_are;
  made = s.made ∙ m;
  spelled = s.spelled ∙ t;
  needed = omega (arith, s.needed, n);
}

pub spine : (g : LeafGrammar) (b : Bool) (e : ExprTree) (acc : Posts) → IsExpr g b e → Fits at_post e → ArePosts g acc → Spine g b e acc
spine g b (or_expr es) acc h f s = absurd f
spine g b (and_expr es) acc h f s = absurd f
spine g b (equal a c) acc h f s = absurd f
spine g b (unequal a c) acc h f s = absurd f
spine g b (return_expr a) acc h f s = absurd f
spine g b (deref a) acc h f s = absurd f
spine g b (ref_opaque o) acc h f s = absurd f
spine g b (ref_expr w a) acc h f s = absurd f
spine g b (member a x) acc h f s =
    longer g b a (member a x) acc (p_member x acc) (spine g b a (p_member x acc) h.0.0 h.0.1 (h.1, s)) refl
    (sym (join_assoc (expr_trees a) (join (k.punct 46) (member_trees x)) (posts_trees acc))) (omega arith)
spine g b (method_call a i es) acc h f s =
    longer g b a (method_call a i es) acc (p_call i es acc) (spine g b a (p_call i es acc) h.0.0 h.0.1 (h.1, s)) refl
    (sym (join_assoc (expr_trees a) (join (k.punct 46) (join (name i) (k.enclosed Paren (spaced k.comma true (each_expr es))))) (posts_trees acc))) (omega arith)
spine g b (map_expr a e) acc h f s =
    longer g b a (map_expr a e) acc (p_map e acc) (spine g b a (p_map e acc) h.0.0 h.0.1 (h.1, s)) refl
    (sym (join_assoc (expr_trees a) (join (k.punct 46) (join (k.word (codes "map")) (k.enclosed Paren (closure_trees e)))) (posts_trees acc))) (omega arith)
spine g b (map_err a o) acc h f s =
    longer g b a (map_err a o) acc (p_map_err o acc) (spine g b a (p_map_err o acc) h.0.0 h.0.1 (h.1, s)) refl
    (sym (join_assoc (expr_trees a) (join (k.punct 46) (join (k.word (codes "map_err")) (k.enclosed Paren o))) (posts_trees acc))) (omega arith)
spine g b (question a) acc h f s =
    longer g b a (question a) acc (p_question acc) (spine g b a (p_question acc) h.0 h.1 s) refl
    (sym (join_assoc (expr_trees a) (k.punct 63) (posts_trees acc))) (omega arith)
spine g b e acc h f s = alone g b e acc h tt s
