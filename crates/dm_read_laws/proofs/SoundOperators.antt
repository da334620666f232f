-- `*`, `&`, operators between two, chains and `return`: what is read of them is in the grammar, and has the tokens that were read.
use Rattle.std.specs.Prelude.{◌≡◌, Bool, true, false, not, T, codes, Some, refl}
use Rattle.std.proofs.Common.{sym, subst}
use Rattle.dm_stream.specs.declared.tokens.Delim.TheVariants.{Paren}
use Rattle.dm_stream.specs.declared.tokens.Ident.{Ident}
use Rattle.dm_stream.specs.Trees.{Trees, no_trees, token, group, join}
use Rattle.dm_ast.specs.Keywords.{is_name}
use Rattle.dm_ast.specs.TypeTokens.{given}
use Rattle.dm_output.specs.declared.expr.Member.TheVariants as m
use Rattle.dm_output.specs.Output.{ExprTree, return_expr, or_expr, and_expr, equal, unequal, ref_opaque, ref_expr, deref, member, method_call, map_expr, map_err, question, paren, tuple, opaque_call, ExprTrees, no_exprs, expr_then}
use Rattle.dm_output.specs.Tokens as k
use Rattle.dm_output.specs.Tokens.{expr_trees}
use Rattle.dm_reread.specs.Next.{Next, k_mut, k_return, oror, andand, equals, differs, star, amp, dot, asks, bar, in_parens, literal, a_name, a_word, next}
use Rattle.dm_reread.specs.Leaves.{LeafGrammar, Answer}
use Rattle.dm_reread.specs.Reading.{then, whole, closure_from, Posts, no_posts, p_member, p_call, p_map, p_map_err, p_question, apply, Readers, is_int, is_some_trees, is_map, is_map_err, method_from, map_from, map_err_from, after_member, member_from, read_posts, read_args, group_from, tuple_of, read_post, goes_on, ref_from_pre, read_mut_ref, read_ref, read_pre, after_pre, read_cmp, after_cmp, read_and, after_and, or_from, read_or, more_ands, more_ors, step}
use Rattle.dm_reread.specs.Grammar.{Level, at_and, at_cmp, at_pre, at_post, Fits, is_group, is_two, is_any, IsExpr, Each}
use Rattle.dm_reread.proofs.Passing.{not_parens}
use Rattle.dm_reread.proofs.Posts.{posts_trees}
use Rattle.dm_reread.proofs.Laws.{tail}
use Rattle.dm_read_laws.specs.Sound.{IsBare, Spells}
use Rattle.dm_read_laws.proofs.SoundRows.{Sound}
use Rattle.dm_read_laws.proofs.SoundSteps.{Front, Begins, next_begins}
use Rattle.dm_read_laws.proofs.SoundFronts.{Gives, gives_some, gives_none, gives_then, gives_provided, gives_cond, gives_as, gives_both, gives_after, nothing, behind, AnExpr, AnOperand, AChain, reads_expr, reads_pre, reads_ors, reads_ands, reads_posts}
use Rattle.dm_read_laws.proofs.SoundPosts.{applied, applied_trees}
use Rattle.dm_read_laws.proofs.SoundBase.{holds, base_row}

-- ---- rows

pre_fits : (e : ExprTree) → Fits at_post e → Fits at_pre e
pre_fits (or_expr es) f = absurd f
pre_fits (and_expr es) f = absurd f
pre_fits (equal a c) f = absurd f
pre_fits (unequal a c) f = absurd f
pre_fits (return_expr a) f = absurd f
pre_fits _ f = tt

cmp_fits : (e : ExprTree) → Fits at_pre e → Fits at_cmp e
cmp_fits (or_expr es) f = absurd f
cmp_fits (and_expr es) f = absurd f
cmp_fits (return_expr a) f = absurd f
cmp_fits _ f = tt

and_fits : (e : ExprTree) → Fits at_cmp e → Fits at_and e
and_fits (or_expr es) f = absurd f
and_fits (return_expr a) f = absurd f
and_fits _ f = tt

two : (e : ExprTree) (es : ExprTrees) → T (is_any es) → T (is_two (expr_then e es))
two e no_exprs h = absurd h
two e (expr_then e' es) h = tt

-- ---- where readers go on

abbrev is_oror : Next → Bool
is_oror (oror ts) = true
is_oror _ = false

abbrev is_andand : Next → Bool
is_andand (andand ts) = true
is_andand _ = false

-- what stands behind a receiver begins here
abbrev is_post : Next → Bool
is_post (dot ts) = true
is_post (asks ts) = true
is_post _ = false

abbrev is_some_post : Posts → Bool
is_some_post no_posts = false
is_some_post _ = true

-- where an operator stands next, something is read behind it; and a group with which something goes on is not read alone
pub record GoesOn (r : Readers) : Type 0 where
  pub ors : (b : Bool) (ts : Trees) → T (is_oror (next ts)) → Gives (r.ors b ts) (λ a. T (is_any a.0))
  pub ands : (b : Bool) (ts : Trees) → T (is_andand (next ts)) → Gives (r.ands b ts) (λ a. T (is_any a.0))
  pub posts : (ts : Trees) → T (is_post (next ts)) → Gives (r.posts ts) (λ a. T (is_some_post a.0))
  pub pre : (b : Bool) (ts inside us : Trees) → next ts ≡ in_parens inside us → T (goes_on (next us)) →
      Gives (r.pre b ts) (λ a. T (not (is_group a.0)))

group_kept : (e : ExprTree) (ps : Posts) → T (not (is_group e)) → T (not (is_group (apply e ps)))
group_kept e no_posts h = h
group_kept e (p_member x ps) h = group_kept (member e x) ps tt
group_kept e (p_call i es ps) h = group_kept (method_call e i es) ps tt
group_kept e (p_map a ps) h = group_kept (map_expr e a) ps tt
group_kept e (p_map_err o ps) h = group_kept (map_err e o) ps tt
group_kept e (p_question ps) h = group_kept (question e) ps tt

group_gone : (e : ExprTree) (ps : Posts) → T (is_some_post ps) → T (not (is_group (apply e ps)))
group_gone e no_posts h = absurd h
group_gone e (p_member x ps) h = group_kept (member e x) ps tt
group_gone e (p_call i es ps) h = group_kept (method_call e i es) ps tt
group_gone e (p_map a ps) h = group_kept (map_expr e a) ps tt
group_gone e (p_map_err o ps) h = group_kept (map_err e o) ps tt
group_gone e (p_question ps) h = group_kept (question e) ps tt

module _ (r : Readers) where
  abbrev SomePost : Posts × Trees → Type 0
  SomePost a = T (is_some_post a.0)

  method_on : (i : Ident) (inside ts : Trees) → Gives (method_from r i inside ts) SomePost
  method_on i inside ts =
      gives_after (read_args r false inside) (λ a.
      gives_provided (not a.1) (λ c. gives_after (r.posts ts) (λ s. gives_some (p_call i a.0 s.0, s.1) tt)))

  err_on : (i : Ident) (inside ts : Trees) → Gives (map_err_from r i inside ts) SomePost
  err_on i no_trees ts = method_on i no_trees ts
  err_on i (token j us) ts = gives_after (r.posts ts) (λ s. gives_some (p_map_err (token j us) s.0, s.1) tt)
  err_on i (group d from o upto us) ts = gives_after (r.posts ts) (λ s. gives_some (p_map_err (group d from o upto us) s.0, s.1) tt)

  map_on : (i : Ident) (inside ts : Trees) (x : Next) → Gives (map_from r i inside ts x) SomePost
  map_on i inside ts (bar us) =
      gives_after (closure_from r (next us)) (λ e. gives_after (r.posts ts) (λ s. gives_some (p_map e s.0, s.1) tt))
  map_on i inside ts _ = method_on i inside ts

  member_on : (i : Ident) (ts : Trees) (x : Next) → Gives (after_member r i ts x) SomePost
  member_on i ts (in_parens inside us) =
      gives_cond (is_map_err i) (λ c. err_on i inside us)
      (λ c. gives_cond (is_map i) (λ d. map_on i inside us (next inside)) (λ d. method_on i inside us))
  member_on i ts _ = gives_after (r.posts ts) (λ s. gives_some (p_member (m.Named i) s.0, s.1) tt)

  dot_on : (x : Next) → Gives (member_from r x) SomePost
  dot_on (a_name i ts) = gives_provided (is_name i) (λ c. member_on i ts (next ts))
  dot_on (literal l ts) =
      gives_provided (is_int l.kind) (λ c. gives_after (r.posts ts) (λ s. gives_some (p_member (m.Index l) s.0, s.1) tt))
  dot_on _ = gives_none

  posts_on : (ts : Trees) (x : Next) → T (is_post x) → Gives (read_posts r ts x) SomePost
  posts_on ts (dot us) h = dot_on (next us)
  posts_on ts (asks us) h = gives_after (r.posts us) (λ s. gives_some (p_question s.0, s.1) tt)
  posts_on ts _ h = absurd h

  ands_on : (b : Bool) (ts : Trees) (x : Next) → T (is_andand x) → Gives (more_ands r b ts x) (λ a. T (is_any a.0))
  ands_on b ts (andand us) h =
      gives_after (read_cmp r b us) (λ a. gives_after (r.ands b a.1) (λ s. gives_some (expr_then a.0 s.0, s.1) tt))
  ands_on b ts _ h = absurd h

  ors_on : (b : Bool) (ts : Trees) (x : Next) → T (is_oror x) → Gives (more_ors r b ts x) (λ a. T (is_any a.0))
  ors_on b ts (oror us) h =
      gives_after (read_and r b us) (λ a. gives_after (r.ors b a.1) (λ s. gives_some (expr_then a.0 s.0, s.1) tt))
  ors_on b ts _ h = absurd h

  -- what is read in a group leaves what is behind the group
  tuple_left : (us : Trees) (es : ExprTrees) (last : Bool) → Gives (tuple_of us es last) (λ a. us ≡ a.1)
  tuple_left us no_exprs last = gives_some (tuple no_exprs, us) refl
  tuple_left us (expr_then e no_exprs) true = gives_none
  tuple_left us (expr_then e no_exprs) false = gives_some (paren e, us) refl
  tuple_left us (expr_then e (expr_then e' es)) true = gives_none
  tuple_left us (expr_then e (expr_then e' es)) false = gives_some (tuple (expr_then e (expr_then e' es)), us) refl

module _ (r : Readers) (O : GoesOn r) where
  -- an expression, and what is read behind it
  abbrev followed : Answer ExprTree → Answer ExprTree
  followed o = then o (λ a. then (r.posts a.1) (λ s. Some (apply a.0 s.0, s.1)))

  abbrev NoGroup : ExprTree × Trees → Type 0
  NoGroup a = T (not (is_group a.0))

  -- a group, and what stands behind it
  behind_group : (us inside : Trees) → T (is_post (next us)) →
      Gives (followed (then (read_args r false inside) (λ a. tuple_of us a.0 a.1))) NoGroup
  behind_group us inside h =
      gives_then {P = λ a. us ≡ a.1} (gives_after (read_args r false inside) (λ a. tuple_left r us a.0 a.1)) (λ a p.
      gives_then (O.posts a.1 (subst (λ vs. T (is_post (next vs))) p h))
      (λ s q. gives_some (apply a.0 s.0, s.1) (group_gone a.0 s.0 q)))

  group_on : (us inside : Trees) (x : Next) → next us ≡ x → T (goes_on x) → Gives (followed (group_from r inside us x)) NoGroup
  group_on us inside (in_parens second vs) e h =
      gives_then {P = NoGroup}
      (gives_provided (is_some_trees inside) (λ c. gives_after (whole (r.expr true second)) (λ a. gives_some (opaque_call inside a, vs) tt)))
      (λ a p. gives_after (r.posts a.1) (λ s. gives_some (apply a.0 s.0, s.1) (group_kept a.0 s.0 p)))
  group_on us inside (dot vs) e h = behind_group us inside (subst (λ y. T (is_post y)) (sym e) tt)
  group_on us inside (asks vs) e h = behind_group us inside (subst (λ y. T (is_post y)) (sym e) tt)
  group_on us inside _ e h = absurd h

  pre_on : (b : Bool) (ts : Trees) (x : Next) (inside us : Trees) → x ≡ in_parens inside us → T (goes_on (next us)) →
      Gives (read_pre r b ts x) NoGroup
  pre_on b ts x inside us e h = subst (λ y. Gives (read_pre r b ts y) NoGroup) (sym e) (group_on us inside (next us) refl h)

  pub goes_further : GoesOn (step r)
  goes_further = record {
    ors = λ b ts h. ors_on r b ts (next ts) h;
    ands = λ b ts h. ands_on r b ts (next ts) h;
    posts = λ ts h. posts_on r ts (next ts) h;
    pre = λ b ts inside us e h. pre_on b ts (next ts) inside us e h;
  }

-- an expression with other tokens than a group's in front is no group
no_group : (e : ExprTree) (ts us : Trees) → ts ≡ join (expr_trees e) us → T (not_parens (next ts)) → T (not (is_group e))
no_group (paren a) ts us e h = absurd (subst (λ x. T (not_parens (next x))) e h)
no_group (tuple es) ts us e h = absurd (subst (λ x. T (not_parens (next x))) e h)
no_group _ ts us e h = tt

module _ (g : LeafGrammar) (r : Readers) (S : Sound g r) (O : GoesOn r) where
  -- ---- `*` and `&`

  post_row : (b : Bool) (ts : Trees) (x : Next) → IsBare ts → Begins ts x → Gives (read_post r b ts x) (AnOperand g at_pre b ts)
  post_row b ts x h f =
      gives_then (base_row g r S b ts x h f) (λ a p.
      gives_then (reads_posts g r S a.1 p.1.1) (λ s q.
      let w : IsExpr g b (apply a.0 s.0) × Fits at_post (apply a.0 s.0) = applied g b a.0 s.0 p.0.0 p.0.1 q.0 in
      gives_some (apply a.0 s.0, s.1) (
        (w.0, pre_fits (apply a.0 s.0) w.1),
        subst (λ o. Front o ts s.1) (applied_trees a.0 s.0) (behind (expr_trees a.0) (posts_trees s.0) p.1 q.1),
      )))

  -- an operand of `&`, which is no group
  operand_row : (b w : Bool) (ts us : Trees) → Front (join (k.punct 38) (given w (k.word (codes "mut")))) ts us →
      Gives (r.pre b us) (λ a. T (not (is_group a.0))) →
      Gives (ref_from_pre r b w us) (AnOperand g at_pre b ts)
  operand_row b w ts us f c =
      gives_then (gives_both (reads_pre g r S b us f.1) c) (λ a p.
      gives_some (ref_expr w a.0, a.1)
      (((p.0.0, p.1), tt), behind (join (k.punct 38) (given w (k.word (codes "mut")))) (expr_trees a.0) f p.0.1))

  other_operand : (b : Bool) (us : Trees) (x : Next) → next us ≡ x → IsBare us → T (not_parens x) →
      Gives (r.pre b us) (λ a. T (not (is_group a.0)))
  other_operand b us x e h c =
      gives_as (λ a p. no_group a.0 us a.1 p.1.0 (subst (λ n. T (not_parens n)) (sym e) c)) (reads_pre g r S b us h)

  mut_row : (b : Bool) (ts us : Trees) (x : Next) → next us ≡ x → Front (join (k.punct 38) (k.word (codes "mut"))) ts us →
      Gives (read_mut_ref r b us x) (AnOperand g at_pre b ts)
  mut_row b ts us (in_parens inside vs) e f =
      gives_provided (goes_on (next vs)) (λ c. operand_row b true ts us f (O.pre b us inside vs e (holds (goes_on (next vs)) c)))
  mut_row b ts us x e f = operand_row b true ts us f (other_operand b us x e f.1 tt)

  ref_row : (b : Bool) (ts us : Trees) (x : Next) → next us ≡ x → Front (k.punct 38) ts us → Begins us x →
      Gives (read_ref r b us x) (AnOperand g at_pre b ts)
  ref_row b ts us (a_word k_mut vs) e f x = mut_row b ts vs (next vs) refl (behind (k.punct 38) (k.word (codes "mut")) f x)
  ref_row b ts us (in_parens inside vs) e f x =
      gives_cond (goes_on (next vs)) (λ c. operand_row b false ts us f (O.pre b us inside vs e (holds (goes_on (next vs)) c)))
      (λ c.
      gives_provided (is_some_trees inside) (λ d.
      gives_some (ref_opaque inside, vs) ((holds (is_some_trees inside) d, tt), behind (k.punct 38) (k.enclosed Paren inside) f x.0)))
  ref_row b ts us n e f x = operand_row b false ts us f (other_operand b us n e f.1 tt)

  pub pre_row : (b : Bool) (ts : Trees) (x : Next) → IsBare ts → Begins ts x → Gives (read_pre r b ts x) (AnOperand g at_pre b ts)
  pre_row b ts (star us) h x =
      gives_then (reads_pre g r S b us x.1) (λ a p. gives_some (deref a.0, a.1) ((p.0, tt), behind (k.punct 42) (expr_trees a.0) x p.1))
  pre_row b ts (amp us) h x = ref_row b ts us (next us) refl x (next_begins us x.1)
  pre_row b ts n h x = post_row b ts n h x

  pub sound_pre : (b : Bool) (ts us : Trees) (e : ExprTree) → IsBare ts → read_pre r b ts (next ts) ≡ Some (e, us) →
      (IsExpr g b e × Fits at_pre e) × Spells (expr_trees e) ts us
  sound_pre b ts us e h q =
      let p : AnOperand g at_pre b ts (e, us) = (pre_row b ts (next ts) h (next_begins ts h)).at (e, us) q in (p.0, p.1.0)

  -- ---- `==` and `!=`

  compared_row : (b : Bool) (e : ExprTree) (ts us : Trees) (x : Next) → IsExpr g b e × Fits at_pre e → Front (expr_trees e) ts us →
      Begins us x →
      Gives (after_pre r b e us x) (AnOperand g at_cmp b ts)
  compared_row b e ts us (equals vs) c f x =
      gives_then (reads_pre g r S b vs x.1) (λ a p.
      gives_some (equal e a.0, a.1)
      (((c, p.0), tt), behind (expr_trees e) (join (k.joint 61 61) (expr_trees a.0)) f (behind (k.joint 61 61) (expr_trees a.0) x p.1)))
  compared_row b e ts us (differs vs) c f x =
      gives_then (reads_pre g r S b vs x.1) (λ a p.
      gives_some (unequal e a.0, a.1)
      (((c, p.0), tt), behind (expr_trees e) (join (k.joint 33 61) (expr_trees a.0)) f (behind (k.joint 33 61) (expr_trees a.0) x p.1)))
  compared_row b e ts us _ c f x = gives_some (e, us) ((c.0, cmp_fits e c.1), f)

  cmp_row : (b : Bool) (ts : Trees) → IsBare ts → Gives (read_cmp r b ts) (AnOperand g at_cmp b ts)
  cmp_row b ts h =
      gives_then (pre_row b ts (next ts) h (next_begins ts h)) (λ a p.
      compared_row b a.0 ts a.1 (next a.1) p.0 p.1 (next_begins a.1 p.1.1))

  -- ---- chains

  anded_row : (b : Bool) (e : ExprTree) (ts us : Trees) (x : Next) → next us ≡ x → IsExpr g b e × Fits at_cmp e → Front (expr_trees e) ts us →
      Gives (after_cmp r b e us x) (AnOperand g at_and b ts)
  anded_row b e ts us (andand vs) n c f =
      gives_then (gives_both (reads_ands g r S b us f.1) (O.ands b us (subst (λ y. T (is_andand y)) (sym n) tt))) (λ a p.
      gives_some (and_expr (expr_then e a.0), a.1)
      (((two e a.0 p.1, (c, p.0.0)), tt), behind (expr_trees e) (tail (k.joint 38 38) a.0) f p.0.1))
  anded_row b e ts us _ n c f = gives_some (e, us) ((c.0, and_fits e c.1), f)

  and_row : (b : Bool) (ts : Trees) → IsBare ts → Gives (read_and r b ts) (AnOperand g at_and b ts)
  and_row b ts h = gives_then (cmp_row b ts h) (λ a p. anded_row b a.0 ts a.1 (next a.1) refl p.0 p.1)

  ored_row : (b : Bool) (e : ExprTree) (ts us : Trees) (x : Next) → next us ≡ x → IsExpr g b e × Fits at_and e → Front (expr_trees e) ts us →
      Gives (after_and r b e us x) (AnExpr g b ts)
  ored_row b e ts us (oror vs) n c f =
      gives_then (gives_both (reads_ors g r S b us f.1) (O.ors b us (subst (λ y. T (is_oror y)) (sym n) tt))) (λ a p.
      gives_some (or_expr (expr_then e a.0), a.1)
      ((two e a.0 p.1, (c, p.0.0)), behind (expr_trees e) (tail (k.joint 124 124) a.0) f p.0.1))
  ored_row b e ts us _ n c f = gives_some (e, us) (c.0, f)

  or_row : (b : Bool) (ts : Trees) (x : Next) → IsBare ts → Begins ts x → Gives (or_from r b ts x) (AnExpr g b ts)
  or_row b ts (a_word k_return us) h x =
      gives_then (reads_expr g r S b us x.1) (λ a p.
      gives_some (return_expr a.0, a.1) (p.0, behind (k.word (codes "return")) (expr_trees a.0) x p.1))
  or_row b ts _ h x = gives_then (and_row b ts h) (λ a p. ored_row b a.0 ts a.1 (next a.1) refl p.0 p.1)

  pub sound_expr : (b : Bool) (ts us : Trees) (e : ExprTree) → IsBare ts → read_or r b ts ≡ Some (e, us) →
      IsExpr g b e × Spells (expr_trees e) ts us
  sound_expr b ts us e h q = let p : AnExpr g b ts (e, us) = (or_row b ts (next ts) h (next_begins ts h)).at (e, us) q in (p.0, p.1.0)

  -- ---- the tails of chains

  -- one more operand behind its sign, and those behind it
  chain_row : (l : Level) (sign : Trees) (b : Bool) (ts us : Trees) (first : Answer ExprTree) (others : Trees → Answer ExprTrees) →
      Front sign ts us → Gives first (AnOperand g l b us) → ((vs : Trees) → IsBare vs → Gives (others vs) (AChain g l b sign vs)) →
      Gives (then first (λ a. then (others a.1) (λ s. Some (expr_then a.0 s.0, s.1)))) (AChain g l b sign ts)
  chain_row l sign b ts us first others x f m =
      gives_then f (λ a p.
      gives_then (m a.1 p.1.1) (λ s q.
      gives_some (expr_then a.0 s.0, s.1)
      ((p.0, q.0), behind sign (join (expr_trees a.0) (tail sign s.0)) x (behind (expr_trees a.0) (tail sign s.0) p.1 q.1))))

  ands_row : (b : Bool) (ts : Trees) (x : Next) → IsBare ts → Begins ts x → Gives (more_ands r b ts x) (AChain g at_cmp b (k.joint 38 38) ts)
  ands_row b ts (andand us) h x =
      chain_row at_cmp (k.joint 38 38) b ts us (read_cmp r b us) (r.ands b) x (cmp_row b us x.1) (reads_ands g r S b)
  ands_row b ts _ h x = gives_some (no_exprs, ts) (tt, nothing ts h)

  ors_row : (b : Bool) (ts : Trees) (x : Next) → IsBare ts → Begins ts x → Gives (more_ors r b ts x) (AChain g at_and b (k.joint 124 124) ts)
  ors_row b ts (oror us) h x =
      chain_row at_and (k.joint 124 124) b ts us (read_and r b us) (r.ors b) x (and_row b us x.1) (reads_ors g r S b)
  ors_row b ts _ h x = gives_some (no_exprs, ts) (tt, nothing ts h)

  pub sound_ands : (b : Bool) (ts us : Trees) (es : ExprTrees) → IsBare ts → more_ands r b ts (next ts) ≡ Some (es, us) →
      Each g at_cmp b es × Spells (tail (k.joint 38 38) es) ts us
  sound_ands b ts us es h q =
      let p : AChain g at_cmp b (k.joint 38 38) ts (es, us) = (ands_row b ts (next ts) h (next_begins ts h)).at (es, us) q in (p.0, p.1.0)

  pub sound_ors : (b : Bool) (ts us : Trees) (es : ExprTrees) → IsBare ts → more_ors r b ts (next ts) ≡ Some (es, us) →
      Each g at_and b es × Spells (tail (k.joint 124 124) es) ts us
  sound_ors b ts us es h q =
      let p : AChain g at_and b (k.joint 124 124) ts (es, us) = (ors_row b ts (next ts) h (next_begins ts h)).at (es, us) q in (p.0, p.1.0)
