-- One turn of what stands behind a receiver, as the plain reader reads its parts.
use Rattle.std.specs.Prelude.{ℕ, false, not, cond, Option, Some, None}
use Rattle.dm_stream.specs.declared.tokens.Ident.{Ident}
use Rattle.dm_stream.specs.Trees.{Trees, no_trees}
use Rattle.dm_ast.specs.Keywords.{is_name}
use Rattle.dm_output.specs.declared.expr.Member.TheVariants as m
use Rattle.dm_reread.specs.Next.{Next, dot, asks, bar, in_parens, literal, a_name, next}
use Rattle.dm_reread.specs.Leaves.{Answer}
use Rattle.dm_reread.specs.Reading.{then, provided, is_int, read_args, is_map, is_map_err, closure_from}
use Rattle.dm_read_places.specs.declared.list.Turn.{Turn}
use Rattle.dm_read_places.specs.declared.list.Turn.TheVariants.{One, End}
use Rattle.dm_read_places.specs.Turns.{rows}
use Rattle.dm_read_posts.specs.Posts.{PostTree, member_post, call_post, map_post, map_err_post, question_post}

abbrev pub method_post : ℕ → Ident → Trees → Option PostTree
method_post n i inside = then (read_args (rows n) false inside) (λ a. provided (not a.1) (Some (call_post i a.0)))

abbrev pub map_err_of : ℕ → Ident → Trees → Option PostTree
map_err_of n i no_trees = method_post n i no_trees
map_err_of n i inside = Some (map_err_post inside)

abbrev pub map_of : ℕ → Ident → Trees → Next → Option PostTree
map_of n i inside (bar us) = then (closure_from (rows n) (next us)) (λ e. Some (map_post e))
map_of n i inside _ = method_post n i inside

-- a call of a method, of its name and the inside of its parentheses
abbrev pub call_of : ℕ → Ident → Trees → Option PostTree
call_of n i inside = cond (is_map_err i) (map_err_of n i inside) (cond (is_map i) (map_of n i inside (next inside)) (method_post n i inside))

abbrev pub member_at : ℕ → Ident → Trees → Next → Answer PostTree
member_at n i ts (in_parens inside us) = then (call_of n i inside) (λ p. Some (p, us))
member_at n i ts _ = Some (member_post (m.Named i), ts)

-- what stands behind `.`
abbrev pub post_behind : ℕ → Next → Answer PostTree
post_behind n (a_name i ts) = provided (is_name i) (member_at n i ts (next ts))
post_behind n (literal l ts) = provided (is_int l.kind) (Some (member_post (m.Index l), ts))
post_behind n _ = None

abbrev pub post_turn_at : ℕ → Trees → Next → Answer (Turn PostTree (Unit {0}))
post_turn_at n ts (dot us) = then (post_behind n (next us)) (λ p. Some (One p.0, p.1))
post_turn_at n ts (asks us) = Some (One question_post, us)
post_turn_at n ts _ = Some (End tt, ts)

abbrev pub post_turn : ℕ → Trees → Answer (Turn PostTree (Unit {0}))
post_turn n ts = post_turn_at n ts (next ts)
