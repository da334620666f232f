-- How long a list of trees is.
use Rattle.std.specs.Prelude.{ℕ, ◌+◌}
use Rattle.dm_stream.specs.Trees.{Trees, no_trees, token, group}

-- the number of trees, where a group is one
abbrev pub size : Trees → ℕ
size no_trees = 0
size (token k rest) = size rest + 1
size (group d from inside upto rest) = size rest + 1
