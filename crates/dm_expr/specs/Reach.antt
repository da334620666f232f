-- How far on in a list a pair `<..>` can be closed.
use Rattle.std.specs.Prelude.{ℕ, zero, suc, ◌+◌, Bool, true, false, nat_lt, None, Some}
use Rattle.dm_stream.specs.Trees.{Trees, no_trees, token, group}
use Rattle.dm_expr.specs.declared.units.Pairs.{Pairs}
use Rattle.dm_expr.specs.Cuts.{Front, punct_at, path_sep_at, and_then}

abbrev pub is_there : Front → Bool
is_there None = false
is_there (Some r) = true

-- whether a list begins with `>`, or with `>` and `::` where that is asked
abbrev pub closes : Bool → Trees → Bool
closes false ts = is_there (punct_at 62 ts)
closes true ts = is_there (and_then (punct_at 62 ts) path_sep_at)

abbrev pub one_further : Bool → ℕ → ℕ
one_further b (suc n) = suc (suc n)
one_further true zero = 1
one_further false zero = 0

-- the number of trees up to the last that closes, with it
abbrev pub reach : Bool → Trees → ℕ
reach sep no_trees = 0
reach sep (token k rest) = one_further (closes sep (token k rest)) (reach sep rest)
reach sep (group d from i upto rest) = one_further false (reach sep rest)

-- the last that closes, where `last` is that among the first `passed` trees and the others reach so far
abbrev pub further : ℕ → ℕ → ℕ → ℕ
further last passed zero = last
further last passed (suc n) = passed + suc n

-- what is known behind the first `count` trees of a run, where no pair is closed behind these places
abbrev pub pairs_behind : ℕ → ℕ → ℕ → Pairs
pairs_behind last last_before_sep count = record { closed = nat_lt count last; closed_before_sep = nat_lt count last_before_sep }
