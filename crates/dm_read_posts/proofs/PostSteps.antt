-- The rows of members, methods and `?`.
use Rattle.std.proofs.Common.{◌≡◌, ℕ, not, Bool, true, false, Some, None, refl}
use Rattle.std.proofs.lemmas.Grind.{common_steps}
use Rattle.dm_stream.specs.declared.tokens.Delim.TheVariants.{Paren}
use Rattle.dm_stream.specs.declared.tokens.Ident.{Ident}
use Rattle.dm_stream.specs.declared.tokens.Literal.{Literal}
use Rattle.dm_stream.specs.Trees.{Trees, no_trees}
use Rattle.dm_ast.specs.Spelling.{at_end}
use Rattle.dm_output.specs.declared.expr.Member.TheVariants as m
use Rattle.dm_output.specs.Output.{ExprTrees}
use Rattle.dm_reread.specs.Next.{Next, dot, asks, bar, in_parens, literal, a_name}
use Rattle.dm_reread.specs.Reading.{then, provided, is_int, int_after, Readers, read_args, closure_bar, closure_from}
use Rattle.dm_read_places.specs.declared.front.Sign.TheVariants as sign
use Rattle.dm_read_places.specs.declared.list.Turn.TheVariants.{End}
use Rattle.dm_read_places.specs.Fronts.{is_sign, is_name_next, is_group_next}
use Rattle.dm_read_places.specs.Turns.{rows}
use Rattle.dm_read_places.proofs.Thens.{then_on}
use Rattle.dm_read_posts.specs.Posts.{PostTree, member_post, call_post, map_err_post}
use Rattle.dm_read_posts.specs.Turns.{method_post, map_err_of, map_of, member_at, post_behind, post_turn_at}
use Rattle.dm_read_posts.specs.Rows.{plain_args}
use Rattle.dm_read_posts.proofs.PostLists.{posts_are}

-- ---- methods

given_args : (b : Bool) (i : Ident) (es : ExprTrees) →
    provided b (Some (call_post i es)) ≡ then {A = ExprTrees} {B = PostTree} (provided b (Some es)) (λ es. Some (call_post i es))
given_args true i es = refl
given_args false i es = refl

pub method_is : (n : ℕ) (i : Ident) (ts : Trees) →
    method_post n i ts ≡ then {A = ExprTrees} {B = PostTree} (plain_args n ts) (λ es. Some (call_post i es))
method_is n i ts =
    then_on (λ o. then {A = ExprTrees} {B = PostTree} o (λ es. Some (call_post i es))) refl (read_args (rows n) false ts) _ _
    (λ a. given_args (not a.1) i a.0)

pub no_bar : (n : ℕ) (i : Ident) (ts : Trees) (k : Next) → is_sign sign.Bar k ≡ false → map_of n i ts k ≡ method_post n i ts
no_bar n i ts (bar us) e = absurd (cc)
no_bar n i ts _ e = refl

pub no_closure : (r : Readers) (k : Next) → is_name_next k ≡ false → closure_from r k ≡ None
no_closure r (a_name i ts) e = absurd (cc)
no_closure r _ e = refl

pub no_second_bar : (r : Readers) (k : Next) → is_sign sign.Bar k ≡ false → closure_bar r k ≡ None
no_second_bar r (bar us) e = absurd (cc)
no_second_bar r _ e = refl

pub no_tokens : (n : ℕ) (i : Ident) (ts : Trees) → at_end ts ≡ true → map_err_of n i ts ≡ method_post n i ts
no_tokens n i no_trees e = refl
no_tokens n i _ e = absurd (cc)

pub some_tokens : (n : ℕ) (i : Ident) (ts : Trees) → at_end ts ≡ false → map_err_of n i ts ≡ Some (map_err_post ts)
some_tokens n i no_trees e = absurd (cc)
some_tokens n i _ e = refl

-- ---- what stands behind `.`

pub no_call : (n : ℕ) (i : Ident) (ts : Trees) (k : Next) → is_group_next Paren k ≡ false →
    member_at n i ts k ≡ Some (member_post (m.Named i), ts)
no_call n i ts (in_parens inside us) e = absurd (cc)
no_call n i ts _ e = refl

pub index_behind : (n : ℕ) (k : Next) → is_name_next k ≡ false →
    post_behind n k ≡ then {A = Literal × Trees} {B = PostTree × Trees} (int_after k) (λ l. Some (member_post (m.Index l.0), l.1))
index_behind n (a_name i ts) e = absurd (cc)
index_behind n (literal l ts) e = by (is_int l.kind)
  where
    by : (b : Bool) →
        provided b (Some (member_post (m.Index l), ts)) ≡
        then {A = Literal × Trees} {B = PostTree × Trees} (provided b (Some (l, ts))) (λ l. Some (member_post (m.Index l.0), l.1))
    by true = refl
    by false = refl
index_behind n _ e = refl

pub no_post : (n : ℕ) (ts : Trees) (k : Next) → is_sign sign.Dot k ≡ false → is_sign sign.Asks k ≡ false → post_turn_at n ts k ≡ Some (End tt, ts)
no_post n ts (dot us) e f = absurd (cc)
no_post n ts (asks us) e f = absurd (cc)
no_post n ts _ e f = refl

pub ruleset post_steps = (common_steps, method_is, no_bar, no_closure, no_second_bar, no_tokens, some_tokens, no_call, index_behind, no_post, posts_are)
