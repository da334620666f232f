-- The reader of the value of a format's argument, which is not parsed: a run of units up to a comma. And which values it reads back.
use Rattle.std.specs.Prelude.{◌≡◌, Bool, true, ◌&&◌, ◌||◌, not, Option, Some}
use Rattle.dm_stream.specs.Trees.{Trees, no_trees, token, group}
use Rattle.dm_expr.specs.Cuts.{is_char, pair_at, run_at, split_at}
use Rattle.dm_expr.specs.Reach.{is_there}

-- the run in front, and the trees behind it
abbrev pub read_run : Trees → Option (Trees × Trees)
read_run ts = split_at (run_at true ts) ts

-- outside of groups each `<` has its `>`, and no `|` stands
abbrev pub is_closed : Trees → Bool
is_closed no_trees = true
is_closed (token k ts) = ((not (is_char 60 k) || is_there (pair_at 60 62 (token k ts))) && not (is_char 124 k)) && is_closed ts
is_closed (group d from inside upto ts) = is_closed ts

-- one run to its end, in which nothing is left open that what follows could close
pub record IsRun (v : Trees) : Type 0 where
  pub one : read_run v ≡ Some (v, no_trees)
  pub closed : is_closed v ≡ true
