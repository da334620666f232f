-- Steps of values that are printed without their trees.
use Rattle.std.proofs.Common.{◌≡◌, ℕ, ◌+◌, List, [], ◌∷◌, true, false, cond, codes, refl, sym, ap}
use Rattle.std.specs.Prelude.{not}
use Rattle.dm_stream.specs.declared.tokens.Delim.TheVariants.{Paren}
use Rattle.dm_stream.specs.Trees.{no_trees}
use Rattle.dm_stream.specs.Layout.{Laid, nowhere}
use Rattle.dm_ast.specs.Tree.{PathTree}
use Rattle.dm_ast.specs.TypeTokens.{path_trees, given}
use Rattle.dm_output.specs.Output.{ExprTree, do_stmt, stmts_of}
use Rattle.dm_output.specs.Tokens.{expr_trees, stmt_trees, stmts_trees}
use Rattle.dm_print_types.specs.Laying.{lay, done, fix}
use Rattle.dm_print_types.proofs.Laying.{lay-join}
use Rattle.dm_operands.specs.declared.cases.Form.{Form}
use Rattle.dm_operands.specs.declared.cases.Form.TheVariants as forms
use Rattle.dm_operands.specs.Marked.{MarkedField}
use Rattle.dm_operators.specs.Operators as ops
use Rattle.dm_operators.specs.Operators.{Operator}
use Rattle.dm_operators.specs.Bodies.{assigning_calls, binary_call, constructor, in_ok}
use Rattle.dm_operator_prints.specs.Parts.{value_trees}
use Rattle.dm_sides.proofs.Patterns.{pattern_steps}

-- the path, and the fields behind it
pub value-laid : (s : Laid) (part : ℕ → MarkedField → ExprTree) (p : PathTree) (form : Form) (fs : List MarkedField) →
    lay (lay s (path_trees nowhere p)) (value_trees part form fs) ≡ lay s (expr_trees (constructor part p form fs))
value-laid s part p forms.Named fs = sym (lay-join s (path_trees nowhere p) (value_trees part forms.Named fs))
value-laid s part p forms.Unnamed [] = sym (lay-join s (path_trees nowhere p) (value_trees part forms.Unnamed []))
value-laid s part p forms.Unnamed (f ∷ fs) = sym (lay-join s (path_trees nowhere p) (value_trees part forms.Unnamed (f ∷ fs)))
value-laid s part p forms.Unit fs = refl

-- a call of a kept field, and those of the fields behind it
pub calls-laid : (s : Laid) (form : ops.Form) (o : Operator) (n : ℕ) (f : MarkedField) (fs : List MarkedField) →
    lay (lay s (given (not f.left_out) (stmt_trees (do_stmt (binary_call form o n))))) (stmts_trees (stmts_of (assigning_calls form o (n + 1) fs))) ≡
    lay s (stmts_trees (stmts_of (assigning_calls form o n (f ∷ fs))))
calls-laid s form o n f fs =
    (elim f.left_out as (λ b. lay (lay s (given (not b) (stmt_trees (do_stmt (binary_call form o n))))) (stmts_trees (stmts_of (assigning_calls form o (n + 1) fs))) ≡
    lay s (stmts_trees (stmts_of (cond b (assigning_calls form o (n + 1) fs) (do_stmt (binary_call form o n) ∷ assigning_calls form o (n + 1) fs))))) [
      | true ↦ refl
      | false ↦ sym (lay-join s (stmt_trees (do_stmt (binary_call form o n))) (stmts_trees (stmts_of (assigning_calls form o (n + 1) fs))))
    ])

-- a value inside `Ok (..)`
pub ok-laid : (s : Laid) (e : ExprTree) →
    done (lay (fix s (codes "derive_more :: core :: result :: Result :: Ok (")) (expr_trees e)) Paren ≡ lay s (expr_trees (in_ok true e))
ok-laid s e =
    ap (λ (l : Laid). done l Paren) (sym (lay-join (fix s (codes "derive_more :: core :: result :: Result :: Ok (")) (expr_trees e) no_trees))

pub ruleset value_steps = (pattern_steps, value-laid, calls-laid)
