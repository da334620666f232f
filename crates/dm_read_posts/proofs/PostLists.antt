-- The plain reader's lists are turns: members, methods and `?`.
use Rattle.std.proofs.Common.{◌≡◌, ℕ, zero, suc, Bool, true, false, not, cond, List, Option, Some, option_map, refl}
use Rattle.dm_stream.specs.declared.tokens.Ident.{Ident}
use Rattle.dm_stream.specs.declared.tokens.Literal.{Literal}
use Rattle.dm_stream.specs.Trees.{Trees, no_trees}
use Rattle.dm_ast.specs.Keywords.{is_name}
use Rattle.dm_output.specs.declared.expr.Member.TheVariants as m
use Rattle.dm_output.specs.Output.{ExprTrees}
use Rattle.dm_reread.specs.Next.{Next, dot, asks, bar, in_parens, literal, a_name, next}
use Rattle.dm_reread.specs.Leaves.{Answer}
use Rattle.dm_reread.specs.Reading.{Posts, p_member, p_call, then, provided, is_int, readers, read_args, is_map, is_map_err, closure_from, method_from, map_from, map_err_from, after_member, member_from, read_posts}
use Rattle.dm_read_places.specs.declared.list.Turn.TheVariants.{One}
use Rattle.dm_read_places.specs.Repeating.{repeat}
use Rattle.dm_read_places.specs.Turns.{rows}
use Rattle.dm_read_places.proofs.Lists.{Behind, one_on}
use Rattle.dm_read_places.proofs.Thens.{then_on}
use Rattle.dm_read_posts.specs.Posts.{PostTree, member_post, call_post, map_post, map_err_post, question_post, post_then, posts_of}
use Rattle.dm_read_posts.specs.Turns.{method_post, map_err_of, map_of, member_at, post_behind, post_turn_at, post_turn}

abbrev posts : (List PostTree × Unit {0}) × Trees → Posts × Trees
posts v = (posts_of v.0.0, v.1)

-- a post, and those behind it
abbrev PostsBehind : ℕ → Answer PostTree → Answer Posts
PostsBehind n o = Behind posts post_turn n (then o (λ p. Some (One p.0, p.1)))

-- a post whose trees are left behind it, and those behind it
abbrev PostsLeft : ℕ → Trees → Option PostTree → Answer Posts
PostsLeft n us o = PostsBehind n (then o (λ p. Some (p, us)))

module _ (n : ℕ) (more : (ts : Trees) → (rows n).posts ts ≡ option_map posts (repeat post_turn n ts)) where
  post_on : (p : PostTree) (ts : Trees) → then ((rows n).posts ts) (λ s. Some (post_then p s.0, s.1)) ≡ PostsBehind n (Some (p, ts))
  post_on p ts = one_on post_turn n more (λ x s. (post_then x s.0, s.1)) (λ x s. refl) p ts

  args_given : (b : Bool) (i : Ident) (es : ExprTrees) (ts : Trees) →
      provided b (then ((rows n).posts ts) (λ s. Some (p_call i es s.0, s.1))) ≡
      PostsLeft n ts (provided b (Some (call_post i es)))
  args_given true i es ts = post_on (call_post i es) ts
  args_given false i es ts = refl

  method_is : (i : Ident) (inside ts : Trees) → method_from (rows n) i inside ts ≡ PostsLeft n ts (method_post n i inside)
  method_is i inside ts = then_on (PostsLeft n ts) refl (read_args (rows n) false inside) _ _ (λ a. args_given (not a.1) i a.0 ts)

  map_is : (i : Ident) (inside ts : Trees) (k : Next) →
      map_from (rows n) i inside ts k ≡ PostsLeft n ts (map_of n i inside k)
  map_is i inside ts (bar us) = then_on (PostsLeft n ts) refl (closure_from (rows n) (next us)) _ _ (λ e. post_on (map_post e) ts)
  map_is i inside ts _ = method_is i inside ts

  map_err_is : (i : Ident) (inside ts : Trees) →
      map_err_from (rows n) i inside ts ≡ PostsLeft n ts (map_err_of n i inside)
  map_err_is i no_trees ts = method_is i no_trees ts
  map_err_is i us ts = post_on (map_err_post us) ts

  call_by : (b c : Bool) (i : Ident) (inside ts : Trees) →
      cond b (map_err_from (rows n) i inside ts) (cond c (map_from (rows n) i inside ts (next inside)) (method_from (rows n) i inside ts)) ≡
      PostsLeft n ts (cond b (map_err_of n i inside) (cond c (map_of n i inside (next inside)) (method_post n i inside)))
  call_by true c i inside ts = map_err_is i inside ts
  call_by false true i inside ts = map_is i inside ts (next inside)
  call_by false false i inside ts = method_is i inside ts

  member_is : (i : Ident) (ts : Trees) (k : Next) → after_member (rows n) i ts k ≡ PostsBehind n (member_at n i ts k)
  member_is i ts (in_parens inside us) = call_by (is_map_err i) (is_map i) i inside us
  member_is i ts _ = post_on (member_post (m.Named i)) ts

  name_on : (b : Bool) (i : Ident) (ts : Trees) →
      provided b (after_member (rows n) i ts (next ts)) ≡ PostsBehind n (provided b (member_at n i ts (next ts)))
  name_on true i ts = member_is i ts (next ts)
  name_on false i ts = refl

  index_on : (b : Bool) (l : Literal) (ts : Trees) →
      provided b (then ((rows n).posts ts) (λ s. Some (p_member (m.Index l) s.0, s.1))) ≡
      PostsBehind n (provided b (Some (member_post (m.Index l), ts)))
  index_on true l ts = post_on (member_post (m.Index l)) ts
  index_on false l ts = refl

  behind_dot : (k : Next) → member_from (rows n) k ≡ PostsBehind n (post_behind n k)
  behind_dot (a_name i ts) = name_on (is_name i) i ts
  behind_dot (literal l ts) = index_on (is_int l.kind) l ts
  behind_dot _ = refl

  posts_on : (ts : Trees) (k : Next) → read_posts (rows n) ts k ≡ Behind posts post_turn n (post_turn_at n ts k)
  posts_on ts (dot us) = behind_dot (next us)
  posts_on ts (asks us) = post_on question_post us
  posts_on ts _ = refl

pub posts_are : (n : ℕ) (ts : Trees) → (rows n).posts ts ≡ option_map (λ v. (posts_of v.0.0, v.1)) (repeat post_turn n ts)
unfolding readers
posts_are zero ts = refl
posts_are (suc n) ts = posts_on n (posts_are n) ts (next ts)
