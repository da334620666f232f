-- What stands at the front of a list of trees. Each is said by the number of its trees and the trees behind it.
use Rattle.std.specs.Prelude.{ℕ, zero, suc, ◌+◌, ◌-◌, Bool, true, false, nat_eq, if◌then◌else◌, Option, None, Some}
use Rattle.dm_stream.specs.declared.tokens.Spacing.{Spacing}
use Rattle.dm_stream.specs.declared.tokens.Spacing.TheVariants.{Joint}
use Rattle.dm_stream.specs.declared.tokens.Token.{Token}
use Rattle.dm_stream.specs.declared.tokens.Token.TheVariants as t
use Rattle.dm_stream.specs.Trees.{Trees, no_trees, token, group}
use Rattle.dm_stream.specs.Cursors.{split_trees, same_spacing}
use Rattle.dm_expr.specs.declared.units.Unit.{Unit}
use Rattle.dm_expr.specs.declared.units.Unit.TheVariants as unit

-- the number of trees at the front, and the trees behind them; or there is no such front
abbrev pub Front : Type 0
Front = Option (ℕ × Trees)

-- n trees more before a front
abbrev pub after : ℕ → Front → Front
after n None = None
after n (Some r) = Some (n + r.0, r.1)

-- one front, and then another right behind it
abbrev pub and_then : Front → (Trees → Front) → Front
and_then None next = None
and_then (Some r) next = after r.0 (next r.1)

-- a front as trees, with what it leaves
abbrev pub split_at : Front → Trees → Option (Trees × Trees)
split_at None ts = None
split_at (Some r) ts = split_trees r.0 ts

-- whether a token is this punct
abbrev pub is_char : ℕ → Token → Bool
is_char p (t.Punct q) = nat_eq q.ch p
is_char p _ = false

-- whether a token is this punct with this spacing
abbrev pub is_spaced : ℕ → Spacing → Token → Bool
is_spaced p s (t.Punct q) = if nat_eq q.ch p then same_spacing q.spacing s else false
is_spaced p s _ = false

abbrev pub one_if : Bool → Trees → Front
one_if true rest = Some (1, rest)
one_if false rest = None

-- a punct
abbrev pub punct_at : ℕ → Trees → Front
punct_at p no_trees = None
punct_at p (token k rest) = one_if (is_char p k) rest
punct_at p (group d from inside upto rest) = None

-- a punct with this spacing
abbrev pub spaced_at : ℕ → Spacing → Trees → Front
spaced_at p s no_trees = None
spaced_at p s (token k rest) = one_if (is_spaced p s k) rest
spaced_at p s (group d from inside upto rest) = None

-- `::`
abbrev pub path_sep_at : Trees → Front
path_sep_at ts = and_then (spaced_at 58 Joint ts) (punct_at 58)

-- any tree
abbrev pub tree_at : Trees → Front
tree_at no_trees = None
tree_at (token k rest) = Some (1, rest)
tree_at (group d from inside upto rest) = Some (1, rest)

-- the openers that are still to be closed after one token more. What is both opener and closer closes.
abbrev pub waiting : ℕ → ℕ → ℕ → Token → ℕ
waiting opener closer n k = if is_char closer k then n - 1 else if is_char opener k then n + 1 else n

-- the openers that are still to be closed after the first tree, and the trees behind it
abbrev pub after_tree : ℕ → ℕ → ℕ → Trees → Front
after_tree opener closer n no_trees = None
after_tree opener closer n (token k rest) = Some (waiting opener closer n k, rest)
after_tree opener closer n (group d from inside upto rest) = Some (n, rest)

-- the shortest front that has n closers more than openers
abbrev pub closed_at : ℕ → ℕ → ℕ → Trees → Front
closed_at opener closer zero ts = Some (0, ts)
closed_at opener closer (suc n) no_trees = None
closed_at opener closer (suc n) (token k rest) = after 1 (closed_at opener closer (waiting opener closer (suc n) k) rest)
closed_at opener closer (suc n) (group d from inside upto rest) = after 1 (closed_at opener closer (suc n) rest)

-- an opener, and then as many closers as openers
abbrev pub pair_at : ℕ → ℕ → Trees → Front
pair_at opener closer ts = and_then (punct_at opener ts) (closed_at opener closer 1)

-- `::` and then `<..>`
abbrev pub sep_args_at : Trees → Front
sep_args_at ts = and_then (path_sep_at ts) (pair_at 60 62)

-- `<..>` and then `::`
abbrev pub args_sep_at : Trees → Front
args_sep_at ts = and_then (pair_at 60 62 ts) path_sep_at

-- `|..|`, where it is a unit
abbrev pub bars_at : Bool → Trees → Front
bars_at true ts = pair_at 124 124 ts
bars_at false ts = None

abbrev pub Found : Type 0
Found = Option (Unit × ℕ × Trees)

abbrev pub or_else : Unit → Front → Found → Found
or_else u (Some r) other = Some (u, r.0, r.1)
or_else u None other = other

abbrev pub unless : Front → Found → Found
unless (Some r) found = None
unless None found = found

-- the unit that begins here: the first of the four that does. None begins at a comma.
abbrev pub unit_at : Bool → Trees → Found
unit_at with_bars ts =
    unless (punct_at 44 ts)
    (or_else unit.SepArgs (sep_args_at ts) (or_else unit.ArgsSep (args_sep_at ts) (or_else unit.Bars (bars_at with_bars ts) (or_else unit.Tree (tree_at ts) None))))

abbrev pub with_unit : Unit → Option (Trees × Trees) → Option (Unit × Trees × Trees)
with_unit u None = None
with_unit u (Some r) = Some (u, r.0, r.1)

-- a unit as trees, with what it leaves
abbrev pub split_unit : Found → Trees → Option (Unit × Trees × Trees)
split_unit None ts = None
split_unit (Some r) ts = with_unit r.0 (split_trees r.1 ts)

-- the number of trees of a unit, or 0 where none begins
abbrev pub unit_size : Found → ℕ
unit_size None = 0
unit_size (Some r) = r.1

abbrev pub Run : Type 0
Run = ℕ × Trees

abbrev pub one_more : Run → Run
one_more r = (suc r.0, r.1)

-- a run that is over where no unit begins, and else goes on
abbrev pub goes_on : ℕ → Trees → Run → Run
goes_on zero ts more = (0, ts)
goes_on (suc n) ts more = one_more more

-- the trees from here to the end of the run, of which the first `inside` are the rest of a unit
abbrev pub run_from : Bool → ℕ → Trees → Run
run_from with_bars inside no_trees = (0, no_trees)
run_from with_bars (suc inside) (token k rest) = one_more (run_from with_bars inside rest)
run_from with_bars (suc inside) (group d from i upto rest) = one_more (run_from with_bars inside rest)
run_from with_bars zero (token k rest) =
    goes_on (unit_size (unit_at with_bars (token k rest))) (token k rest) (run_from with_bars (unit_size (unit_at with_bars (token k rest)) - 1) rest)
run_from with_bars zero (group d from i upto rest) = one_more (run_from with_bars 0 rest)

abbrev pub some_run : Run → Front
some_run (zero, rest) = None
some_run (suc n, rest) = Some (suc n, rest)

-- one or more units, up to where none begins, which is a comma or the end
abbrev pub run_at : Bool → Trees → Front
run_at with_bars ts = some_run (run_from with_bars 0 ts)
