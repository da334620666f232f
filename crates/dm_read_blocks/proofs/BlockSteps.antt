-- The rows of blocks.
use Rattle.std.proofs.Common.{◌≡◌, ◌∙◌, ℕ, Bool, true, false, Option, Some, Result, Ok, Err, refl, subst}
use Rattle.std.proofs.lemmas.Grind.{common_steps}
use Rattle.dm_stream.specs.declared.error.Error.{Error}
use Rattle.dm_stream.specs.declared.error.Error.TheVariants as error
use Rattle.dm_stream.specs.declared.tokens.Ident.{Ident}
use Rattle.dm_stream.specs.Trees.{Trees, no_trees}
use Rattle.dm_ast.specs.Keywords.{is_name}
use Rattle.dm_ast.specs.Spelling.{at_end}
use Rattle.dm_output.specs.declared.expr.Stmt.{Stmt}
use Rattle.dm_output.specs.Views.{stmt_view}
use Rattle.dm_output.specs.Output.{ExprTree, MaybeExpr, no_expr, some_expr, StmtTree, let_stmt, do_stmt}
use Rattle.dm_reread.specs.Next.{k_let, k_use, k_const, k_wild, Next, ended, a_name, a_word, next}
use Rattle.dm_reread.specs.Leaves.{Answer}
use Rattle.dm_reread.specs.Reading.{then, provided, semicolon_after, assigns_after}
use Rattle.dm_read_places.specs.declared.front.Keyword.TheVariants as keyword
use Rattle.dm_read_places.specs.declared.list.Turn.{Turn}
use Rattle.dm_read_places.specs.declared.list.Turn.TheVariants.{One, End}
use Rattle.dm_read_places.specs.Fronts.{is_keyword}
use Rattle.dm_read_places.specs.Reads.{Reads}
use Rattle.dm_read_places.specs.Turns.{declared_at}
use Rattle.dm_read_places.proofs.Thens.{then_on}
use Rattle.dm_read_blocks.specs.Turns.{let_value, let_of, stmt_turn, value_end, value_turn, block_turn_at}
use Rattle.dm_read_statements.specs.Statements.{ended_stmt}
use Rattle.dm_read_blocks.specs.Rows.{assigned, named_let}
use Rattle.dm_read_blocks.proofs.BlockLists.{block_is}

abbrev StmtTurn : Type 0
StmtTurn = Turn StmtTree MaybeExpr × Trees

-- ---- turns

pub block_end : (n : ℕ) (ts : Trees) → at_end ts ≡ true → block_turn_at n ts (next ts) ≡ Some (End no_expr, ts)
block_end n no_trees e = refl
block_end n _ e = absurd (cc)

pub value_here : (n : ℕ) (ts : Trees) (m : Next) → is_keyword keyword.Let m ≡ false → is_keyword keyword.Use m ≡ false →
    is_keyword keyword.Const m ≡ false →
    (m ≡ ended → ⊥) → block_turn_at n ts m ≡ value_turn n ts
value_here n ts ended e f g h = absurd (h refl)
value_here n ts (a_word k_let us) e f g h = absurd (cc)
value_here n ts (a_word k_use us) e f g h = absurd (cc)
value_here n ts (a_word k_const us) e f g h = absurd (cc)
value_here n ts _ e f g h = refl

abbrev OneStmt : Answer StmtTree → Option StmtTurn
OneStmt o = then o (λ x. Some (One x.0, x.1))

pub stmt_is : (o : Answer StmtTree) →
    stmt_turn o ≡ then {A = StmtTree × Trees} {B = StmtTurn} (ended_stmt o) (λ x. Some (One x.0, x.1))
stmt_is o = then_on OneStmt refl o _ _ (λ s. then_on OneStmt refl (semicolon_after (next s.1)) _ _ (λ us. refl))

-- ---- statements

abbrev Bound : Ident → Answer ExprTree → Answer StmtTree
Bound i o = then o (λ a. Some (let_stmt i a.0, a.1))

name_in : (n : ℕ) (m : Next) → is_keyword keyword.Wild m ≡ false →
    let_of n m ≡
    then {A = Ident × Trees} {B = StmtTree × Trees} (declared_at m) (λ s. then (assigned n s.1) (λ a. Some (let_stmt s.0 a.0, a.1)))
name_in n (a_name i ts) e = by (is_name i)
  where
    by : (b : Bool) →
        provided b (let_value n i ts) ≡
        then {A = Ident × Trees} {B = StmtTree × Trees} (provided b (Some (i, ts))) (λ s. then (assigned n s.1) (λ a. Some (let_stmt s.0 a.0, a.1)))
    by true = then_on (Bound i) refl (assigns_after (next ts)) _ _ (λ us. refl)
    by false = refl
name_in n (a_word k_wild ts) e = absurd (cc)
name_in n _ e = refl

pub name_bound : (n : ℕ) (ts : Trees) → is_keyword keyword.Wild (next ts) ≡ false → let_of n (next ts) ≡ named_let n ts
name_bound n ts e = name_in n (next ts) e

let_here : (n : ℕ) (ts new : Trees) (r : Result Stmt Error) → is_keyword keyword.Wild (next ts) ≡ false → Reads stmt_view (named_let n) ts r new →
    Reads stmt_view (λ us. let_of n (next us)) ts r new
let_here n ts new (Ok s) e h = name_bound n ts e ∙ h
let_here n ts new (Err (error.Refused x)) e h = name_bound n ts e ∙ h
let_here n ts new (Err error.NoMemory) e h = tt

-- what stands behind `let`, where no `_` does
pub let_reads : (n : ℕ) (old mid new : Trees) (r : Result Stmt Error) → is_keyword keyword.Wild (next old) ≡ false → mid ≡ old →
    Reads stmt_view (named_let n) mid r new → Reads stmt_view (λ ts. let_of n (next ts)) old r new
let_reads n old mid new r e m h = let_here n old new r e (subst (λ z. Reads stmt_view (named_let n) z r new) m h)

pub value_last : (a : ExprTree) (ts : Trees) → at_end ts ≡ true → value_end a ts (next ts) ≡ Some (End (some_expr a), ts)
value_last a no_trees e = refl
value_last a _ e = absurd (cc)

pub value_more : (a : ExprTree) (ts : Trees) (m : Next) → (m ≡ ended → ⊥) →
    value_end a ts m ≡ then {A = Trees} {B = StmtTurn} (semicolon_after m) (λ us. Some (One (do_stmt a), us))
value_more a ts ended h = absurd (h refl)
value_more a ts _ h = refl

pub ruleset block_steps = (common_steps, block_end, value_here, stmt_is, name_bound, value_last, value_more, block_is)
