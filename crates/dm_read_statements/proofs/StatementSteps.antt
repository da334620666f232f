-- The rows of statements that hold no expressions.
use Rattle.std.proofs.Common.{◌≡◌, ℕ, false, Option, Some, None, refl}
use Rattle.dm_stream.specs.declared.tokens.Delim.TheVariants.{Paren}
use Rattle.dm_stream.specs.declared.tokens.Ident.{Ident}
use Rattle.dm_stream.specs.declared.tokens.Literal.{Literal}
use Rattle.dm_stream.specs.Trees.{Trees}
use Rattle.dm_ast.specs.Tree.{TypeTree, PathTree}
use Rattle.dm_output.specs.Output.{StmtTree, const_stmt, import_stmt}
use Rattle.dm_reread.specs.Next.{Next, literal, in_parens, next}
use Rattle.dm_reread.specs.Leaves.{Answer}
use Rattle.dm_reread.specs.Reading.{then, colon_after, assigns_after, plus_after, as_after, int_after, base_from, plain_path}
use Rattle.dm_reread.specs.ReadBack.{leaves}
use Rattle.dm_read_places.specs.Fronts.{is_literal_next, is_group_next}
use Rattle.dm_read_places.specs.Turns.{rows, declared_at}
use Rattle.dm_read_places.proofs.Thens.{then_on}
use Rattle.dm_read_statements.specs.Statements.{use_of, const_of, as_wild, typed_constant}
use Rattle.dm_read_statements.proofs.GroupSteps.{group_steps}

pub no_base : (m : Next) → is_group_next Paren m ≡ false → is_literal_next m ≡ false → base_from m ≡ None
no_base (in_parens inside ts) e f = absurd (cc)
no_base (literal l ts) e f = absurd (cc)
no_base _ e f = refl

-- ---- imports

abbrev Imported : PathTree → Option Trees → Answer StmtTree
Imported p o = then o (λ vs. Some (import_stmt p, vs))

pub use_is : (n : ℕ) (m : Next) →
    use_of n m ≡ then {B = StmtTree × Trees} (plain_path (rows n) m) (λ p. then (as_wild (next p.1)) (λ vs. Some (import_stmt p.0, vs)))
use_is n m =
    then_on (λ o. o) refl (plain_path (rows n) m) _ _ (λ p. then_on (Imported p.0) refl (as_after (next p.1)) _ _ (λ us. refl))

-- ---- constants

abbrev Valued : Type 0
Valued = (Option Trees × Literal) × Trees

abbrev Typed : Type 0
Typed = (TypeTree × (Option Trees × Literal)) × Trees

abbrev Stmt : Type 0
Stmt = StmtTree × Trees

-- a constant of this name, by its type and value, and by its value
abbrev Made : Ident → Option Typed → Option Stmt
Made i o = then o (λ v. Some (const_stmt i v.0.0 v.0.1.0 v.0.1.1, v.1))

abbrev MadeOf : Ident → TypeTree → Option Valued → Option Stmt
MadeOf i t o = Made i (then o (λ v. Some ((t, v.0), v.1)))

pub const_is : (m : Next) →
    const_of m ≡
    then {B = Stmt} (declared_at m) (λ s. then {A = Typed} {B = Stmt} (typed_constant s.1) (λ v. Some (const_stmt s.0 v.0.0 v.0.1.0 v.0.1.1, v.1)))
const_is m =
    then_on (λ o. o) refl (declared_at m) _ _ (λ s.
    then_on (Made s.0) refl (colon_after (next s.1)) _ _ (λ us.
    then_on (Made s.0) refl (leaves.type us) _ _ (λ a.
    then_on (MadeOf s.0 a.0) refl (assigns_after (next a.1)) _ _ (λ vs.
    then_on (MadeOf s.0 a.0) refl (base_from (next vs)) _ _ (λ b.
    then_on (λ o. MadeOf s.0 a.0 (then {A = Literal × Trees} o (λ l. Some ((b.0, l.0), l.1)))) refl (plus_after (next b.1)) _ _ (λ ws.
    then_on (MadeOf s.0 a.0) refl (int_after (next ws)) _ _ (λ l. refl)))))))

pub ruleset statement_steps = (group_steps, no_base, use_is, const_is)
