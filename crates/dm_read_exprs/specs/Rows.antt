-- Parts of the plain reader's rows that functions of their own read.
use Rattle.std.specs.Prelude.{ℕ, not, Bool, false, Some, None}
use Rattle.dm_stream.specs.Trees.{Trees}
use Rattle.dm_output.specs.Output.{ExprTree, ref_opaque, match_expr}
use Rattle.dm_reread.specs.Next.{Next, in_parens, next}
use Rattle.dm_reread.specs.Leaves.{Answer}
use Rattle.dm_reread.specs.Reading.{then, provided, is_some_trees, goes_on, read_and, after_and}
use Rattle.dm_read_places.specs.Turns.{rows}
use Rattle.dm_read_blocks.specs.Rows.{braced_arms}

-- ---- operators

-- an expression that isn't `return`
abbrev pub plain_or : ℕ → Bool → Trees → Answer ExprTree
plain_or n b ts = then (read_and (rows n) b ts) (λ a. after_and (rows n) b a.0 a.1 (next a.1))

-- whether a group in parentheses comes next that nothing behind it goes on with
abbrev pub sees_closed : Next → Bool
sees_closed (in_parens inside ts) = not (goes_on (next ts))
sees_closed _ = false

-- `&` in front of a group that isn't read
abbrev pub opaque_group : Next → Answer ExprTree
opaque_group (in_parens inside ts) = provided (is_some_trees inside) (Some (ref_opaque inside, ts))
opaque_group _ = None

-- ---- `match`

abbrev pub match_from : ℕ → Trees → Answer ExprTree
match_from n ts = then ((rows n).expr false ts) (λ a. then (braced_arms n (next a.1)) (λ s. Some (match_expr a.0 s.0, s.1)))
