-- Rows of expressions give the same of the same tokens, ranges aside, over readers that do.
use Rattle.std.specs.Prelude.{◌≡◌, Bool, true, false, option_map, Some, refl}
use Rattle.dm_stream.specs.declared.tokens.Ident.{Ident}
use Rattle.dm_stream.specs.Trees.{Trees, no_trees, token, group}
use Rattle.dm_lexer.specs.Written.{unplaced}
use Rattle.dm_ast.specs.Keywords.{is_name}
use Rattle.dm_ast.specs.Tree.{MaybeSelf, no_self, PathTree}
use Rattle.dm_output.specs.declared.expr.Member.TheVariants as m
use Rattle.dm_output.specs.Output.{ExprTree, ExprTrees, no_exprs, expr_then}
use Rattle.dm_type_eq.specs.Unplaced.{unplaced_ident, unplaced_path, unplaced_self}
use Rattle.dm_reread.specs.Bare.{bare_expr, bare_exprs}
use Rattle.dm_reread.specs.BareReading.{bare_next, bare_posts, bare_answer}
use Rattle.dm_reread.specs.Next.{Word, k_match, k_unsafe, k_true, k_false, k_mut, k_return, Next, oror, andand, equals, differs, star, amp, dot, asks, bangs, less, bar, colons, in_parens, in_braces, literal, a_name, a_word, next}
use Rattle.dm_reread.specs.Reading.{Posts, no_posts, p_member, p_call, p_map, p_map_err, p_question, apply, then, read_args, Readers, is_map, is_map_err, called, after_path, path_base, qualified_base, tuple_of, unsafe_of, match_of, word_base, group_from, read_base, method_from, closure_bar, closure_from, map_from, map_err_from, call_from, after_member, member_from, read_posts, read_post, ref_from_pre, read_mut_ref, read_ref, read_pre, after_pre, read_cmp, after_cmp, read_and, after_and, or_from, read_or, more_ands, more_ors}
use Rattle.dm_reread.proofs.BareNext.{next-bare, some-bare, passing, map-cond, chained, provided-bare, either, whole-bare, goes-on-bare}
use Rattle.dm_reread.proofs.BareRows.{Natural, plain-path-bare, args-bare, macro-bare}

-- ---- what is made of the parts

apply-bare : (e : ExprTree) (ps : Posts) → apply (bare_expr e) (bare_posts ps) ≡ bare_expr (apply e ps)
apply-bare e no_posts = refl
apply-bare e (p_member i ps) = apply-bare _ ps
apply-bare e (p_call i es ps) = apply-bare _ ps
apply-bare e (p_map a ps) = apply-bare _ ps
apply-bare e (p_map_err o ps) = apply-bare _ ps
apply-bare e (p_question ps) = apply-bare _ ps

called-bare : (q : MaybeSelf) (p : PathTree) (es : ExprTrees) (b : Bool) →
    called (unplaced_self q) (unplaced_path p) (bare_exprs es) b ≡ bare_expr (called q p es b)
called-bare q p es true = refl
called-bare q p es false = refl

tuple-bare : (ts : Trees) (es : ExprTrees) (b : Bool) → tuple_of (unplaced ts) (bare_exprs es) b ≡ bare_answer bare_expr (tuple_of ts es b)
tuple-bare ts no_exprs b = refl
tuple-bare ts (expr_then e no_exprs) false = refl
tuple-bare ts es false = refl
tuple-bare ts es true = refl

module _ (r : Readers) (N : Natural r) where
  -- ---- what stands first

  after-path-bare : (b : Bool) (q : MaybeSelf) (p : PathTree) (ts : Trees) (n : Next) →
      after_path r b (unplaced_self q) (unplaced_path p) (unplaced ts) (bare_next n) ≡ bare_answer bare_expr (after_path r b q p ts n)
  after-path-bare b q p ts (in_parens inside us) = simp (args-bare r N, called-bare, passing)
  after-path-bare true q p ts (in_braces inside us) = simp (N.named_exprs, passing)
  after-path-bare b no_self p ts (bangs us) = rw (next-bare us) (macro-bare r N p (next us))
  after-path-bare b q p ts _ = refl

  path-base-bare : (b : Bool) (n : Next) → path_base r b (bare_next n) ≡ bare_answer bare_expr (path_base r b n)
  path-base-bare b n =
      chained _ _ _ _ _ _ (plain-path-bare r N n) (λ p. rw (next-bare p.1) (after-path-bare b no_self p.0 p.1 (next p.1)))

  qualified-bare : (b : Bool) (ts : Trees) → qualified_base r b (unplaced ts) ≡ bare_answer bare_expr (qualified_base r b ts)
  qualified-bare b ts =
      chained _ _ _ _ _ _ (N.leaves.qualified ts) (λ p. rw (next-bare p.1) (after-path-bare b p.0.0 p.0.1 p.1 (next p.1)))

  unsafe-bare : (n : Next) → unsafe_of r (bare_next n) ≡ bare_answer bare_expr (unsafe_of r n)
  unsafe-bare (in_braces inside ts) = simp (N.expr, whole-bare, passing)
  unsafe-bare _ = refl

  match-bare : (a : ExprTree) (n : Next) → match_of r (bare_expr a) (bare_next n) ≡ bare_answer bare_expr (match_of r a n)
  match-bare a (in_braces inside ts) = simp (N.arms, passing)
  match-bare a _ = refl

  word-bare : (b : Bool) (w : Word) (ts : Trees) → word_base r b w (unplaced ts) ≡ bare_answer bare_expr (word_base r b w ts)
  word-bare b k_true ts = refl
  word-bare b k_false ts = refl
  word-bare b k_unsafe ts = rw (next-bare ts) (unsafe-bare (next ts))
  word-bare b k_match ts = simp (N.expr, match-bare, passing)
  word-bare b _ ts = refl

  group-args-bare : (inside ts : Trees) →
      then (read_args r false (unplaced inside)) (λ a. tuple_of (unplaced ts) a.0 a.1) ≡
      bare_answer bare_expr (then (read_args r false inside) (λ a. tuple_of ts a.0 a.1))
  group-args-bare inside ts = simp (args-bare r N, tuple-bare, passing)

  group-bare : (inside ts : Trees) (n : Next) →
      group_from r (unplaced inside) (unplaced ts) (bare_next n) ≡ bare_answer bare_expr (group_from r inside ts n)
  group-bare inside ts (in_parens second us) = simp (N.expr, some-bare, whole-bare, passing)
  group-bare inside ts _ = group-args-bare inside ts

  base-bare : (b : Bool) (ts : Trees) (n : Next) → read_base r b (unplaced ts) (bare_next n) ≡ bare_answer bare_expr (read_base r b ts n)
  base-bare b ts (a_name i us) = path-base-bare b (a_name i us)
  base-bare b ts (colons us) = path-base-bare b (colons us)
  base-bare b ts (less us) = qualified-bare b ts
  base-bare b ts (in_parens inside us) = rw (next-bare us) (group-bare inside us (next us))
  base-bare b ts (literal l us) = simp map-cond
  base-bare b ts (a_word w us) = word-bare b w us
  base-bare b ts _ = refl

  -- ---- members, methods and `?`

  method-bare : (i : Ident) (inside ts : Trees) →
      method_from r (unplaced_ident i) (unplaced inside) (unplaced ts) ≡ bare_answer bare_posts (method_from r i inside ts)
  method-bare i inside ts = simp (args-bare r N, N.posts, passing)

  bar-bare : (n : Next) → closure_bar r (bare_next n) ≡ option_map bare_expr (closure_bar r n)
  bar-bare (bar ts) = simp (N.expr, whole-bare)
  bar-bare _ = refl

  closure-bare : (n : Next) → closure_from r (bare_next n) ≡ option_map bare_expr (closure_from r n)
  closure-bare (a_name i ts) = simp (bar-bare, passing)
  closure-bare _ = refl

  map-bare : (i : Ident) (inside ts : Trees) (n : Next) →
      map_from r (unplaced_ident i) (unplaced inside) (unplaced ts) (bare_next n) ≡ bare_answer bare_posts (map_from r i inside ts n)
  map-bare i inside ts (bar us) = simp (closure-bare, N.posts, passing)
  map-bare i inside ts _ = method-bare i inside ts

  map-err-some-bare : (inside ts : Trees) →
      then (r.posts (unplaced ts)) (λ s. Some (p_map_err (unplaced inside) s.0, s.1)) ≡
      bare_answer bare_posts (then (r.posts ts) (λ s. Some (p_map_err inside s.0, s.1)))
  map-err-some-bare inside ts = simp (N.posts, passing)

  map-err-bare : (i : Ident) (inside ts : Trees) →
      map_err_from r (unplaced_ident i) (unplaced inside) (unplaced ts) ≡ bare_answer bare_posts (map_err_from r i inside ts)
  map-err-bare i no_trees ts = method-bare i no_trees ts
  map-err-bare i (token k inside) ts = map-err-some-bare (token k inside) ts
  map-err-bare i (group d from inside upto more) ts = map-err-some-bare (group d from inside upto more) ts

  call-bare : (i : Ident) (inside ts : Trees) →
      call_from r (unplaced_ident i) (unplaced inside) (unplaced ts) ≡ bare_answer bare_posts (call_from r i inside ts)
  call-bare i inside ts =
      either _ (is_map_err i) _ _ _ _ (map-err-bare i inside ts)
      (either _ (is_map i) _ _ _ _ (rw (next-bare inside) (map-bare i inside ts (next inside))) (method-bare i inside ts))

  named-member-bare : (i : Ident) (ts : Trees) →
      then (r.posts (unplaced ts)) (λ s. Some (p_member (m.Named (unplaced_ident i)) s.0, s.1)) ≡
      bare_answer bare_posts (then (r.posts ts) (λ s. Some (p_member (m.Named i) s.0, s.1)))
  named-member-bare i ts = simp (N.posts, passing)

  after-member-bare : (i : Ident) (ts : Trees) (n : Next) →
      after_member r (unplaced_ident i) (unplaced ts) (bare_next n) ≡ bare_answer bare_posts (after_member r i ts n)
  after-member-bare i ts (in_parens inside us) = call-bare i inside us
  after-member-bare i ts _ = named-member-bare i ts

  member-bare : (n : Next) → member_from r (bare_next n) ≡ bare_answer bare_posts (member_from r n)
  member-bare (a_name i ts) = provided-bare _ (is_name i) _ _ (rw (next-bare ts) (after-member-bare i ts (next ts)))
  member-bare (literal l ts) = simp (N.posts, passing)
  member-bare _ = refl

  pub posts-bare : (ts : Trees) (n : Next) → read_posts r (unplaced ts) (bare_next n) ≡ bare_answer bare_posts (read_posts r ts n)
  posts-bare ts (dot us) = rw (next-bare us) (member-bare (next us))
  posts-bare ts (asks us) = simp (N.posts, passing)
  posts-bare ts _ = refl

  post-bare : (b : Bool) (ts : Trees) (n : Next) → read_post r b (unplaced ts) (bare_next n) ≡ bare_answer bare_expr (read_post r b ts n)
  post-bare b ts n = simp (base-bare, N.posts, apply-bare, passing)

  -- ---- references

  ref-pre-bare : (b w : Bool) (ts : Trees) → ref_from_pre r b w (unplaced ts) ≡ bare_answer bare_expr (ref_from_pre r b w ts)
  ref-pre-bare b w ts = simp (N.pre, passing)

  mut-ref-bare : (b : Bool) (ts : Trees) (n : Next) →
      read_mut_ref r b (unplaced ts) (bare_next n) ≡ bare_answer bare_expr (read_mut_ref r b ts n)
  mut-ref-bare b ts (in_parens inside us) = simp (ref-pre-bare, goes-on-bare, passing)
  mut-ref-bare b ts _ = ref-pre-bare b true ts

  ref-bare : (b : Bool) (ts : Trees) (n : Next) → read_ref r b (unplaced ts) (bare_next n) ≡ bare_answer bare_expr (read_ref r b ts n)
  ref-bare b ts (a_word k_mut us) = rw (next-bare us) (mut-ref-bare b us (next us))
  ref-bare b ts (in_parens inside us) = simp (ref-pre-bare, goes-on-bare, some-bare, passing)
  ref-bare b ts _ = ref-pre-bare b false ts

  pub pre-bare : (b : Bool) (ts : Trees) (n : Next) → read_pre r b (unplaced ts) (bare_next n) ≡ bare_answer bare_expr (read_pre r b ts n)
  pre-bare b ts (star us) = simp (N.pre, passing)
  pre-bare b ts (amp us) = rw (next-bare us) (ref-bare b us (next us))
  pre-bare b ts n = post-bare b ts n

  -- ---- operators between two

  after-pre-bare : (b : Bool) (e : ExprTree) (ts : Trees) (n : Next) →
      after_pre r b (bare_expr e) (unplaced ts) (bare_next n) ≡ bare_answer bare_expr (after_pre r b e ts n)
  after-pre-bare b e ts (equals us) = simp (N.pre, passing)
  after-pre-bare b e ts (differs us) = simp (N.pre, passing)
  after-pre-bare b e ts _ = refl

  cmp-bare : (b : Bool) (ts : Trees) → read_cmp r b (unplaced ts) ≡ bare_answer bare_expr (read_cmp r b ts)
  cmp-bare b ts = simp (pre-bare, after-pre-bare, passing)

  after-cmp-bare : (b : Bool) (e : ExprTree) (ts : Trees) (n : Next) →
      after_cmp r b (bare_expr e) (unplaced ts) (bare_next n) ≡ bare_answer bare_expr (after_cmp r b e ts n)
  after-cmp-bare b e ts (andand us) = simp (N.ands, passing)
  after-cmp-bare b e ts _ = refl

  and-bare : (b : Bool) (ts : Trees) → read_and r b (unplaced ts) ≡ bare_answer bare_expr (read_and r b ts)
  and-bare b ts = chained _ _ _ _ _ _ (cmp-bare b ts) (λ a. rw (next-bare a.1) (after-cmp-bare b a.0 a.1 (next a.1)))

  after-and-bare : (b : Bool) (e : ExprTree) (ts : Trees) (n : Next) →
      after_and r b (bare_expr e) (unplaced ts) (bare_next n) ≡ bare_answer bare_expr (after_and r b e ts n)
  after-and-bare b e ts (oror us) = simp (N.ors, passing)
  after-and-bare b e ts _ = refl

  ands-bare : (b : Bool) (ts : Trees) →
      then (read_and r b (unplaced ts)) (λ a. after_and r b a.0 a.1 (next a.1)) ≡
      bare_answer bare_expr (then (read_and r b ts) (λ a. after_and r b a.0 a.1 (next a.1)))
  ands-bare b ts = chained _ _ _ _ _ _ (and-bare b ts) (λ a. rw (next-bare a.1) (after-and-bare b a.0 a.1 (next a.1)))

  or-from-bare : (b : Bool) (ts : Trees) (n : Next) → or_from r b (unplaced ts) (bare_next n) ≡ bare_answer bare_expr (or_from r b ts n)
  or-from-bare b ts (a_word k_return us) = simp (N.expr, passing)
  or-from-bare b ts _ = ands-bare b ts

  pub or-bare : (b : Bool) (ts : Trees) → read_or r b (unplaced ts) ≡ bare_answer bare_expr (read_or r b ts)
  or-bare b ts = rw (next-bare ts) (or-from-bare b ts (next ts))

  pub more-ands-bare : (b : Bool) (ts : Trees) (n : Next) →
      more_ands r b (unplaced ts) (bare_next n) ≡ bare_answer bare_exprs (more_ands r b ts n)
  more-ands-bare b ts (andand us) = chained _ _ _ _ _ _ (cmp-bare b us) (λ a. chained _ _ _ _ _ _ (N.ands b a.1) (λ s. refl))
  more-ands-bare b ts _ = refl

  pub more-ors-bare : (b : Bool) (ts : Trees) (n : Next) →
      more_ors r b (unplaced ts) (bare_next n) ≡ bare_answer bare_exprs (more_ors r b ts n)
  more-ors-bare b ts (oror us) = chained _ _ _ _ _ _ (and-bare b us) (λ a. chained _ _ _ _ _ _ (N.ors b a.1) (λ s. refl))
  more-ors-bare b ts _ = refl
