-- Whether a listed type fits so many fields.
use Rattle.std.specs.Prelude.{ℕ, ◌+◌, ◌==◌, nat_lt, Bool, not, ◌&&◌, ◌||◌, if◌then◌else◌, Option, Some, None, Result, Ok, Err}
use Rattle.dm_stream.specs.declared.error.Refusal.{Refusal}
use Rattle.dm_stream.specs.declared.error.Kind.TheVariants.{TupleLength}
use Rattle.dm_ast.specs.Tree.{TypeTree, type_tree, TypeNode, tuple, TypeTrees, no_types, type_then}

abbrev pub number_of : TypeTrees → ℕ
number_of no_types = 0
number_of (type_then t ts) = number_of ts + 1

-- the number of a tuple's parts
abbrev pub node_length : TypeNode → Option ℕ
node_length (tuple ts trailing) = Some (number_of ts)
node_length other = None

-- several fields take a tuple of that length alone, one field no tuple, no field any type
abbrev pub is_misfit : ℕ → Option ℕ → Bool
is_misfit count None = nat_lt 1 count
is_misfit count (Some n) = (count == 1) || (nat_lt 1 count && not (n == count))

abbrev pub validated : ℕ → TypeTree → Result (Unit {0}) Refusal
validated count (type_tree n range) = if is_misfit count (node_length n) then Err (record { kind = TupleLength; span = range }) else Ok tt
