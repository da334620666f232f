-- Statements that hold no expressions, as the plain reader reads them.
use Rattle.std.specs.Prelude.{ℕ, Option, Some}
use Rattle.dm_stream.specs.declared.tokens.Ident.{Ident}
use Rattle.dm_stream.specs.declared.tokens.Literal.{Literal}
use Rattle.dm_stream.specs.Trees.{Trees}
use Rattle.dm_ast.specs.Tree.{TypeTree}
use Rattle.dm_output.specs.Output.{StmtTree, check_stmt, import_stmt, const_stmt}
use Rattle.dm_reread.specs.Next.{Next, next}
use Rattle.dm_reread.specs.Leaves.{Answer}
use Rattle.dm_reread.specs.Reading.{then, colon_after, semicolon_after, assigns_after, plus_after, as_after, wild_after, int_after, plain_path, base_from}
use Rattle.dm_reread.specs.ReadBack.{leaves}
use Rattle.dm_read_places.specs.Turns.{rows, declared_at}

-- a statement and a semicolon
abbrev pub ended_stmt : Answer StmtTree → Answer StmtTree
ended_stmt o = then o (λ s. then (semicolon_after (next s.1)) (λ us. Some (s.0, us)))

-- a type that is checked
abbrev pub check_of : Trees → Answer StmtTree
check_of ts = then (colon_after (next ts)) (λ us. then (leaves.type us) (λ a. Some (check_stmt a.0, a.1)))

-- what stands behind `use`
abbrev pub use_of : ℕ → Next → Answer StmtTree
use_of n m =
    then (plain_path (rows n) m) (λ p. then (as_after (next p.1)) (λ us. then (wild_after (next us)) (λ vs. Some (import_stmt p.0, vs))))

-- the value of a constant, behind its type
abbrev pub const_value : Ident → Trees → Answer StmtTree
const_value i ts =
    then (leaves.type ts) (λ a. then (assigns_after (next a.1)) (λ us. then (base_from (next us)) (λ o.
    then (plus_after (next o.1)) (λ vs. then (int_after (next vs)) (λ l. Some (const_stmt i a.0 o.0 l.0, l.1))))))

-- what stands behind `const`
abbrev pub const_of : Next → Answer StmtTree
const_of m = then (declared_at m) (λ s. then (colon_after (next s.1)) (λ us. const_value s.0 us))

-- ---- their parts

-- `as _`
abbrev pub as_wild : Next → Option Trees
as_wild m = then (as_after m) (λ us. wild_after (next us))

-- `+` and an integer
abbrev pub added : Trees → Answer Literal
added ts = then (plus_after (next ts)) (λ vs. int_after (next vs))

-- `=` and the value of a constant
abbrev pub constant_value : Trees → Answer (Option Trees × Literal)
constant_value ts =
    then (assigns_after (next ts)) (λ us. then (base_from (next us)) (λ o. then (added o.1) (λ l. Some ((o.0, l.0), l.1))))

-- `:`, a type, and the value of a constant
abbrev pub typed_constant : Trees → Answer (TypeTree × (Option Trees × Literal))
typed_constant ts =
    then (colon_after (next ts)) (λ us. then (leaves.type us) (λ a. then (constant_value a.1) (λ v. Some ((a.0, v.0), v.1))))
