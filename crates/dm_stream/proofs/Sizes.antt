-- How long a list of trees is beside its flat form.
use Rattle.std.specs.Prelude.{◌≡◌, ◌≤◌, List, ◌∷◌, length}
use Rattle.std.proofs.Common.{ap, arith, length-append}
use Rattle.dm_stream.specs.declared.tokens.Entry.{Entry}
use Rattle.dm_stream.specs.declared.tokens.Entry.TheVariants as entry
use Rattle.dm_stream.specs.Trees.{Trees, no_trees, token, group, flatten, unflatten}
use Rattle.dm_stream.specs.Sizes.{size}

size-flat : (ts : Trees) → size ts ≤ length (flatten ts)
size-flat no_trees = omega arith
size-flat (token k rest) = omega (arith, size-flat rest)
size-flat (group d from inside upto rest) =
    omega (arith, size-flat rest, length-append (flatten inside) (entry.Close d upto ∷ flatten rest))

-- the trees of a list are no more than its entries
pub size-entries : (es : List Entry) → flatten (unflatten es) ≡ es → size (unflatten es) ≤ length es
size-entries es h = omega (arith, size-flat (unflatten es), ap length h)
