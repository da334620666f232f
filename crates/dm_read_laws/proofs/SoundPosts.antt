-- Members, methods and `?`: what is read of them is in the grammar, and has the tokens that were read.
use Rattle.std.specs.Prelude.{◌≡◌, Bool, true, false, not, ◌&&◌, T, codes, Some, refl}
use Rattle.std.proofs.Common.{ap, ◌∙◌, sym, subst}
use Rattle.std.proofs.lemmas.Bool.{not-true}
use Rattle.dm_stream.specs.declared.tokens.Delim.TheVariants.{Paren}
use Rattle.dm_stream.specs.declared.tokens.Ident.{Ident}
use Rattle.dm_stream.specs.declared.tokens.LitKind.{LitKind}
use Rattle.dm_stream.specs.declared.tokens.LitKind.TheVariants.{Int}
use Rattle.dm_stream.specs.Layout.{nowhere}
use Rattle.dm_stream.specs.Trees.{Trees, no_trees, token, group, join, join-no_trees, join_assoc}
use Rattle.dm_ast.specs.Keywords.{is_name}
use Rattle.dm_ast.specs.Spelling.{is_word}
use Rattle.dm_ast.specs.TypeTokens as syntax
use Rattle.dm_ast.specs.TypeTokens.{name, spaced}
use Rattle.dm_output.specs.declared.expr.Member.TheVariants as m
use Rattle.dm_output.specs.Output.{ExprTree, member, method_call, map_expr, map_err, question, ExprTrees, no_exprs}
use Rattle.dm_output.specs.Tokens as k
use Rattle.dm_output.specs.Tokens.{expr_trees, each_expr}
use Rattle.dm_reread.specs.Next.{Next, dot, asks, bar, in_parens, literal, a_name, next}
use Rattle.dm_reread.specs.Leaves.{LeafGrammar}
use Rattle.dm_reread.specs.Reading.{then, Posts, no_posts, p_member, p_call, p_map, p_map_err, p_question, apply, Readers, is_int, is_map, is_map_err, method_from, closure_bar, closure_from, map_from, map_err_from, call_from, after_member, member_from, read_posts}
use Rattle.dm_reread.specs.Grammar.{at_post, Fits, IsName, IsOpaque, is_any, may_take, IsExpr}
use Rattle.dm_reread.proofs.Words.{plainly}
use Rattle.dm_reread.proofs.Posts.{closure_trees, posts_trees, ArePosts}
use Rattle.dm_read_laws.specs.Sound.{IsBare, Spells}
use Rattle.dm_read_laws.proofs.SoundRows.{Sound}
use Rattle.dm_read_laws.proofs.SoundSteps.{is_word_same, Front, Begins, next_begins}
use Rattle.dm_read_laws.proofs.SoundFronts.{Gives, gives_some, gives_none, gives_then, gives_provided, gives_cond, gives_whole, gives_as, nothing, behind, ends_with, SomePosts, reads_expr, reads_posts}
use Rattle.dm_read_laws.proofs.SoundArguments.{args_trees, args_row}

pub int_kind : (x : LitKind) → is_int x ≡ true → x ≡ Int
int_kind Int e = refl
int_kind _ e = absurd (cc)

-- ---- an expression with what stands behind it

pub applied : (g : LeafGrammar) (b : Bool) (e : ExprTree) (ps : Posts) → IsExpr g b e → Fits at_post e → ArePosts g ps →
    IsExpr g b (apply e ps) × Fits at_post (apply e ps)
applied g b e no_posts h f s = (h, f)
applied g b e (p_member x ps) h f s = applied g b (member e x) ps ((h, f), s.0) tt s.1
applied g b e (p_call i es ps) h f s = applied g b (method_call e i es) ps ((h, f), s.0) tt s.1
applied g b e (p_map a ps) h f s = applied g b (map_expr e a) ps ((h, f), s.0) tt s.1
applied g b e (p_map_err o ps) h f s = applied g b (map_err e o) ps ((h, f), s.0) tt s.1
applied g b e (p_question ps) h f s = applied g b (question e) ps (h, f) tt s

pub applied_trees : (e : ExprTree) (ps : Posts) → join (expr_trees e) (posts_trees ps) ≡ expr_trees (apply e ps)
applied_trees e no_posts = join-no_trees (expr_trees e)
applied_trees e (p_member x ps) =
    sym (join_assoc (expr_trees e) (join (k.punct 46) (k.member_trees x)) (posts_trees ps)) ∙ applied_trees (member e x) ps
applied_trees e (p_call i es ps) =
    sym (join_assoc (expr_trees e) (join (k.punct 46) (join (name i) (k.enclosed Paren (spaced k.comma true (each_expr es))))) (posts_trees ps)) ∙
    applied_trees (method_call e i es) ps
applied_trees e (p_map a ps) =
    sym (join_assoc (expr_trees e) (join (k.punct 46) (join (k.word (codes "map")) (k.enclosed Paren (closure_trees a)))) (posts_trees ps)) ∙
    applied_trees (map_expr e a) ps
applied_trees e (p_map_err o ps) =
    sym (join_assoc (expr_trees e) (join (k.punct 46) (join (k.word (codes "map_err")) (k.enclosed Paren o))) (posts_trees ps)) ∙
    applied_trees (map_err e o) ps
applied_trees e (p_question ps) = sym (join_assoc (expr_trees e) (k.punct 63) (posts_trees ps)) ∙ applied_trees (question e) ps

-- ---- methods

-- the tokens of a call behind `.`
abbrev call_trees : Ident → Trees → Trees
call_trees i inside = join (k.punct 46) (join (name i) (k.enclosed Paren inside))

-- only `map_err` may not take an argument
plain_may : (i : Ident) (es : ExprTrees) → is_map_err i ≡ false → T (may_take i es)
plain_may i es e = subst (λ c. T (not (c && is_any es))) (sym e) tt

empty_may : (i : Ident) → is_map_err i ≡ true → T (may_take i no_exprs)
empty_may i e = subst (λ c. T (not (c && false))) (sym e) tt

module _ (g : LeafGrammar) (r : Readers) (S : Sound g r) where
  -- a method whose arguments are read
  method_row : (ts us : Trees) (i : Ident) (inside : Trees) → IsName i → is_map_err i ≡ false → IsBare inside →
      Front (call_trees i inside) ts us →
      Gives (method_from r i inside us) (SomePosts g ts)
  method_row ts us i inside c n h f =
      gives_then (args_row g r S inside h) (λ a p.
      gives_provided (not a.1) (λ last.
      gives_then (reads_posts g r S us f.1) (λ s q.
      gives_some (p_call i a.0 s.0, s.1) (
        (((c, plain_may i a.0 n), p.1.0), q.0),
        subst (λ x. Front (join (call_trees i x) (posts_trees s.0)) ts s.1) (p.1.1 ∙ ap (args_trees a.0) (not-true a.1 last))
            (behind (call_trees i inside) (posts_trees s.0) f q.1),
      ))))

  -- ---- closures

  bar_row : (ts us : Trees) (x : Next) → Front (join (k.punct 124) (k.word (codes "v"))) ts us → Begins us x →
      Gives (closure_bar r x) (λ e. IsExpr g true e × (ts ≡ closure_trees e))
  bar_row ts us (bar vs) f h =
      gives_as (λ e p. (
        p.0,
        ends_with (join (k.punct 124) (join (k.word (codes "v")) (k.punct 124))) (expr_trees e)
            (behind (join (k.punct 124) (k.word (codes "v"))) (k.punct 124) f h) (p.1.0 ∙ join-no_trees (expr_trees e)),
      ))
      (gives_whole (reads_expr g r S true vs h.1))
  bar_row ts us _ f h = gives_none

  closure_row : (ts us : Trees) (x : Next) → Front (k.punct 124) ts us → Begins us x →
      Gives (closure_from r x) (λ e. IsExpr g true e × (ts ≡ closure_trees e))
  closure_row ts us (a_name i vs) f h =
      gives_provided (is_word (codes "v") i) (λ c.
      bar_row ts vs (next vs)
      (subst (λ j. Front (join (k.punct 124) (name j)) ts vs) (is_word_same (codes "v") i c h.1.1) (behind (k.punct 124) (name i) f h.0))
      (next_begins vs h.0.1))
  closure_row ts us _ f h = gives_none

  -- ---- `map`, `map_err` and the others

  map_row : (ts us : Trees) (i : Ident) (inside : Trees) (x : Next) → IsName i → is_map_err i ≡ false → is_map i ≡ true →
      i.span ≡ nowhere → IsBare inside → Front (call_trees i inside) ts us → Begins inside x →
      Gives (map_from r i inside us x) (SomePosts g ts)
  map_row ts us i inside (bar vs) c n w s h f x =
      gives_then (closure_row inside vs (next vs) x (next_begins vs x.1)) (λ e p.
      gives_then (reads_posts g r S us f.1) (λ q t.
      gives_some (p_map e q.0, q.1) (
        (p.0, t.0),
        subst (λ o. Front (join (call_trees (plainly (codes "map")) o) (posts_trees q.0)) ts q.1) p.1
            (subst (λ j. Front (join (call_trees j inside) (posts_trees q.0)) ts q.1) (is_word_same (codes "map") i w s)
            (behind (call_trees i inside) (posts_trees q.0) f t.1)),
      )))
  map_row ts us i inside _ c n w s h f x = method_row ts us i inside c n h f

  opaque_row : (ts us : Trees) (i : Ident) (inside : Trees) → is_map_err i ≡ true → i.span ≡ nowhere → IsOpaque inside →
      Front (call_trees i inside) ts us →
      Gives (then (r.posts us) (λ s. Some (p_map_err inside s.0, s.1))) (SomePosts g ts)
  opaque_row ts us i inside w s o f =
      gives_then (reads_posts g r S us f.1) (λ q t.
      gives_some (p_map_err inside q.0, q.1) (
        (o, t.0),
        subst (λ j. Front (join (call_trees j inside) (posts_trees q.0)) ts q.1) (is_word_same (codes "map_err") i w s)
            (behind (call_trees i inside) (posts_trees q.0) f t.1),
      ))

  err_row : (ts us : Trees) (i : Ident) (inside : Trees) → IsName i → is_map_err i ≡ true → i.span ≡ nowhere →
      Front (call_trees i inside) ts us →
      Gives (map_err_from r i inside us) (SomePosts g ts)
  err_row ts us i no_trees c w s f =
      gives_then (reads_posts g r S us f.1) (λ q t.
      gives_some (p_call i no_exprs q.0, q.1)
      ((((c, empty_may i w), tt), t.0), behind (call_trees i no_trees) (posts_trees q.0) f t.1))
  err_row ts us i (token j vs) c w s f = opaque_row ts us i (token j vs) w s tt f
  err_row ts us i (group d from o upto vs) c w s f = opaque_row ts us i (group d from o upto vs) w s tt f

  call_row : (ts us : Trees) (i : Ident) (inside : Trees) → IsName i → i.span ≡ nowhere → IsBare inside → Front (call_trees i inside) ts us →
      Gives (call_from r i inside us) (SomePosts g ts)
  call_row ts us i inside c s h f =
      gives_cond (is_map_err i) (λ w. err_row ts us i inside c w s f) (λ n.
      gives_cond (is_map i) (λ w. map_row ts us i inside (next inside) c n w s h f (next_begins inside h))
      (λ w. method_row ts us i inside c n h f))

  -- ---- all that stands behind a receiver

  -- behind a name
  after_row : (ts us : Trees) (i : Ident) (x : Next) → IsName i → i.span ≡ nowhere → Front (join (k.punct 46) (name i)) ts us → Begins us x →
      Gives (after_member r i us x) (SomePosts g ts)
  after_row ts us i (in_parens inside vs) c s f x =
      call_row ts vs i inside c s x.1 (behind (join (k.punct 46) (name i)) (k.enclosed Paren inside) f x.0)
  after_row ts us i _ c s f x =
      gives_then (reads_posts g r S us f.1) (λ q t.
      gives_some (p_member (m.Named i) q.0, q.1) ((c, t.0), behind (join (k.punct 46) (name i)) (posts_trees q.0) f t.1))

  -- behind `.`
  member_row : (ts us : Trees) (x : Next) → Front (k.punct 46) ts us → Begins us x → Gives (member_from r x) (SomePosts g ts)
  member_row ts us (a_name i vs) f x =
      gives_provided (is_name i) (λ c.
      after_row ts vs i (next vs) c x.1.1 (behind (k.punct 46) (name i) f x.0) (next_begins vs x.0.1))
  member_row ts us (literal l vs) f x =
      gives_provided (is_int l.kind) (λ c.
      gives_then (reads_posts g r S vs x.0.1) (λ q t.
      gives_some (p_member (m.Index l) q.0, q.1) (
        (int_kind l.kind c, t.0),
        behind (join (k.punct 46) (syntax.literal l)) (posts_trees q.0) (behind (k.punct 46) (syntax.literal l) f x.0) t.1,
      )))
  member_row ts us _ f x = gives_none

  posts_row : (ts : Trees) (x : Next) → IsBare ts → Begins ts x → Gives (read_posts r ts x) (SomePosts g ts)
  posts_row ts (dot us) h x = member_row ts us (next us) x (next_begins us x.1)
  posts_row ts (asks us) h x =
      gives_then (reads_posts g r S us x.1) (λ q t. gives_some (p_question q.0, q.1) (t.0, behind (k.punct 63) (posts_trees q.0) x t.1))
  posts_row ts _ h x = gives_some (no_posts, ts) (tt, nothing ts h)

  pub sound_posts : (ts us : Trees) (ps : Posts) → IsBare ts → read_posts r ts (next ts) ≡ Some (ps, us) →
      ArePosts g ps × Spells (posts_trees ps) ts us
  sound_posts ts us ps h e = let p : SomePosts g ts (ps, us) = (posts_row ts (next ts) h (next_begins ts h)).at (ps, us) e in (p.0, p.1.0)
