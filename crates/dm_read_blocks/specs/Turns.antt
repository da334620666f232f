-- One turn of each list of statements and arms, as the plain reader reads its parts.
use Rattle.std.specs.Prelude.{ℕ, true, Some, None}
use Rattle.dm_stream.specs.declared.tokens.Ident.{Ident}
use Rattle.dm_stream.specs.Trees.{Trees, no_trees}
use Rattle.dm_ast.specs.Keywords.{is_name}
use Rattle.dm_output.specs.Output.{ExprTree, MaybeExpr, no_expr, some_expr, ArmTree, ArmBodyTree, StmtTree, let_stmt, do_stmt}
use Rattle.dm_reread.specs.Next.{k_let, k_use, k_const, k_wild, Next, ended, a_name, a_word, next}
use Rattle.dm_reread.specs.Leaves.{Answer}
use Rattle.dm_reread.specs.Reading.{then, provided, comma_after, semicolon_after, assigns_after, leads_after, read_guard, read_body}
use Rattle.dm_read_places.specs.declared.list.Turn.{Turn}
use Rattle.dm_read_places.specs.declared.list.Turn.TheVariants.{One, End}
use Rattle.dm_read_places.specs.Turns.{rows}
use Rattle.dm_read_patterns.specs.ArmPatterns.{arm_patterns}
use Rattle.dm_read_statements.specs.Statements.{check_of, use_of, const_of}

-- ---- arms

-- `=>`, a body and a comma
abbrev pub arm_body : ℕ → Trees → Answer ArmBodyTree
arm_body n ts =
    then (leads_after (next ts)) (λ us. then (read_body (rows n) us (next us)) (λ d. then (comma_after (next d.1)) (λ vs. Some (d.0, vs))))

-- a guard, perhaps, and the body
abbrev pub arm_behind : ℕ → Trees → Answer (MaybeExpr × ArmBodyTree)
arm_behind n ts = then (read_guard (rows n) ts (next ts)) (λ g. then (arm_body n g.1) (λ d. Some ((g.0, d.0), d.1)))

abbrev pub one_arm : ℕ → Trees → Answer ArmTree
one_arm n ts =
    then (arm_patterns n ts) (λ p. then (arm_behind n p.1) (λ g. Some (record { patterns = p.0; guard = g.0.0; body = g.0.1 }, g.1)))

abbrev pub arm_turn : ℕ → Trees → Answer (Turn ArmTree (Unit {0}))
arm_turn n no_trees = Some (End tt, no_trees)
arm_turn n ts = then (one_arm n ts) (λ a. Some (One a.0, a.1))

-- ---- statements

-- a name's value
abbrev pub let_value : ℕ → Ident → Trees → Answer StmtTree
let_value n i ts = then (assigns_after (next ts)) (λ us. then ((rows n).expr true us) (λ a. Some (let_stmt i a.0, a.1)))

-- what stands behind `let`
abbrev pub let_of : ℕ → Next → Answer StmtTree
let_of n (a_name i ts) = provided (is_name i) (let_value n i ts)
let_of n (a_word k_wild ts) = check_of ts
let_of n _ = None

-- a statement where a semicolon ends it
abbrev pub stmt_turn : Answer StmtTree → Answer (Turn StmtTree MaybeExpr)
stmt_turn o = then o (λ s. then (semicolon_after (next s.1)) (λ us. Some (One s.0, us)))

abbrev pub value_end : ExprTree → Trees → Next → Answer (Turn StmtTree MaybeExpr)
value_end e ts ended = Some (End (some_expr e), ts)
value_end e ts m = then (semicolon_after m) (λ us. Some (One (do_stmt e), us))

-- an expression: the last, or a statement
abbrev pub value_turn : ℕ → Trees → Answer (Turn StmtTree MaybeExpr)
value_turn n ts = then ((rows n).expr true ts) (λ a. value_end a.0 a.1 (next a.1))

abbrev pub block_turn_at : ℕ → Trees → Next → Answer (Turn StmtTree MaybeExpr)
block_turn_at n ts ended = Some (End no_expr, ts)
block_turn_at n ts (a_word k_let us) = stmt_turn (let_of n (next us))
block_turn_at n ts (a_word k_use us) = stmt_turn (use_of n (next us))
block_turn_at n ts (a_word k_const us) = stmt_turn (const_of (next us))
block_turn_at n ts _ = value_turn n ts

abbrev pub block_turn : ℕ → Trees → Answer (Turn StmtTree MaybeExpr)
block_turn n ts = block_turn_at n ts (next ts)
