-- What a method of an implementation gives. References, dereferences, parentheses and `unsafe` are transparent; a field of self or of the
-- right side is a place, which stands for that field.
use Rattle.std.specs.Prelude.{ℕ, ℤ, List, [], ◌∷◌, Bool, true, false, cond, Option, Some, None, codes, option_map}
use Rattle.dm_lexer.specs.Values.{str_value}
use Rattle.dm_ast.specs.Declarations.{Declaration}
use Rattle.dm_ast.specs.Tree.{TypeTree}
use Rattle.dm_output.specs.Output.{ExprTree, return_expr, or_expr, and_expr, equal, unequal, ref_opaque, ref_expr, deref, member, method_call, map_expr, map_err, question, path_expr, call, build, build_named, paren, tuple, opaque_call, str_expr, bool, match_expr, unsafe_expr, write_expr, format_args, ExprTrees, no_exprs, expr_then, NamedExprs, no_named_exprs, named_expr_then, MaybeExpr, no_expr, some_expr, ArmTrees, no_arms, arm_then, ArmBodyTree, block_body, expr_body, StmtTree, let_stmt, check_stmt, import_stmt, do_stmt, const_stmt, StmtTrees, no_stmts, stmt_then, BlockTree, block, MethodTree, ParamOfMethod}
use Rattle.dm_output.specs.declared.item.Receiver.{Receiver}
use Rattle.dm_output.specs.declared.item.Receiver.TheVariants as receiver
use Rattle.dm_output.specs.Values.{Text, mine, theirs, another, asking, mapping, tokens, in_closure, Thing, apply, truth, number, text, input_text, value, tuple_of, written, done, no_things, things_of, Value, value_of, Input, no_input, value_input, term_input, tuple_input, text_input, number_input}
use Rattle.dm_output.specs.Fits.{Env, plain, with_name, with_constant, bound, expr_names, first_fits}
use Rattle.dm_output.specs.Written.{pieces}
use Rattle.dm_output.specs.Calls.{Setting, State, Flow, goes, ends, then, as_term, term, compare, negated, member_of, called, built, built_named, path_gives, method_gives, error_mapped, going}

-- goes on with a truth
abbrev pub chosen : Thing → Option (Flow Thing) → Option (Flow Thing) → Option (Flow Thing)
chosen (truth b) good other = cond b good other
chosen _ good other = None

abbrev pub if_truth : Option (Flow Thing) → (State → Option (Flow Thing)) → (State → Option (Flow Thing)) → Option (Flow Thing)
if_truth o good other = then o (λ x st. chosen x (good st) (other st))

abbrev pub with_env : Option Env → (Env → Option (Flow Thing)) → Option (Flow Thing) → Option (Flow Thing)
with_env None go other = other
with_env (Some env) go other = go env

-- the number of the next constant
abbrev pub next_constant : Text → Env → State → List ℤ → Option (Flow Env)
next_constant name env st [] = None
next_constant name env st (n ∷ more) = Some (goes (with_constant name n env) (record { fields = st.fields; numbers = more }))

-- what a formatter's name must be, for a text to be written
abbrev pub if_bound : Option Thing → Thing → State → Option (Flow Thing)
if_bound None x st = None
if_bound (Some f) x st = Some (goes x st)

-- a term of its own, for the parameter of a closure
abbrev pub closure_parameter : Thing
closure_parameter = apply in_closure no_things

-- what a name in a format stands for
abbrev pub named_in : Setting → State → Env → Text → Option Thing
named_in s st env name = option_map (as_term s st) (bound env name)

abbrev mutual
  pub run : Setting → ExprTree → Env → State → Option (Flow Thing)
  run s (return_expr e) env st = then (run s e env st) (λ x st. Some (ends x st))
  run s (or_expr es) env st = run_any s es env st
  run s (and_expr es) env st = run_all s es env st
  run s (equal a b) env st = then (run s a env st) (λ x st. then (run s b env st) (λ y st. going (compare s.outcomes x y) st))
  run s (unequal a b) env st = then (run s a env st) (λ x st. then (run s b env st) (λ y st. going (negated (compare s.outcomes x y)) st))
  run s (ref_opaque o) env st = Some (goes (term s st (tokens o) []) st)
  run s (ref_expr m a) env st = run s a env st
  run s (deref a) env st = run s a env st
  run s (member a m) env st = then (run s a env st) (λ x st. going (member_of s.decl m x) st)
  run s (method_call a i es) env st =
      then (run s a env st) (λ x st. then (run_each s es env st) (λ xs st. Some (goes (method_gives s st i.name (x ∷ xs)) st)))
  run s (map_expr a e) env st =
      then (run s a env st) (λ x st. then (run s e (with_name (codes "v") closure_parameter env) st) (λ y st. Some (goes (term s st mapping (x ∷ y ∷ [])) st)))
  run s (map_err a p) env st = then (run s a env st) (λ x st. Some (goes (error_mapped s st p x) st))
  run s (question a) env st = then (run s a env st) (λ x st. Some (goes (term s st asking (x ∷ [])) st))
  run s (path_expr q p) env st = path_gives s st q p (expr_names q p) env
  run s (call q p es) env st = then (run_each s es env st) (λ xs st. called s st q p (expr_names q p) xs)
  run s (build q p es) env st = then (run_each s es env st) (λ xs st. built s st q p (expr_names q p) xs)
  run s (build_named q p es) env st = then (run_named s es env st) (λ xs st. built_named s st (expr_names q p) xs)
  run s (paren a) env st = run s a env st
  run s (tuple es) env st = then (run_each s es env st) (λ xs st. Some (goes (tuple_of (things_of xs)) st))
  run s (opaque_call o a) env st = then (run s a env st) (λ x st. Some (goes (term s st (tokens o) (x ∷ [])) st))
  run s (str_expr l) env st = going (option_map text (str_value l.kind l.text)) st
  run s (bool b) env st = Some (goes (truth b) st)
  run s (match_expr a arms) env st = then (run s a env st) (λ x st. run_arms s arms x env st)
  run s (unsafe_expr a) env st = run s a env st
  run s (write_expr i f) env st = if_bound (bound env i.name) (written (pieces f (named_in s st env))) st
  run s (format_args f) env st = Some (goes (written (pieces f (named_in s st env))) st)

  pub run_any : Setting → ExprTrees → Env → State → Option (Flow Thing)
  run_any s no_exprs env st = Some (goes (truth false) st)
  run_any s (expr_then e es) env st = if_truth (run s e env st) (λ st. Some (goes (truth true) st)) (run_any s es env)

  pub run_all : Setting → ExprTrees → Env → State → Option (Flow Thing)
  run_all s no_exprs env st = Some (goes (truth true) st)
  run_all s (expr_then e es) env st = if_truth (run s e env st) (run_all s es env) (λ st. Some (goes (truth false) st))

  pub run_each : Setting → ExprTrees → Env → State → Option (Flow (List Thing))
  run_each s no_exprs env st = Some (goes [] st)
  run_each s (expr_then e es) env st = then (run s e env st) (λ x st. then (run_each s es env st) (λ xs st. Some (goes (x ∷ xs) st)))

  -- the terms given for fields
  pub run_named : Setting → NamedExprs → Env → State → Option (Flow (List (Text × Thing)))
  run_named s no_named_exprs env st = Some (goes [] st)
  run_named s (named_expr_then i e es) env st =
      then (run s e env st) (λ x st. then (run_named s es env st) (λ xs st'. Some (goes ((i.name, as_term s st x) ∷ xs) st')))

  -- the first arm with a fitting pattern and a true guard
  pub run_arms : Setting → ArmTrees → Thing → Env → State → Option (Flow Thing)
  run_arms s no_arms x env st = None
  run_arms s (arm_then ps guard body more) x env st =
      with_env (first_fits s.decl ps x env) (λ env'. if_truth (run_guard s guard env' st) (run_body s body env') (run_arms s more x env)) (run_arms s more x env st)

  pub run_guard : Setting → MaybeExpr → Env → State → Option (Flow Thing)
  run_guard s no_expr env st = Some (goes (truth true) st)
  run_guard s (some_expr g) env st = run s g env st

  pub run_body : Setting → ArmBodyTree → Env → State → Option (Flow Thing)
  run_body s (block_body b) env st = run_block s b env st
  run_body s (expr_body e) env st = run s e env st

  pub run_block : Setting → BlockTree → Env → State → Option (Flow Thing)
  run_block s (block ss e) env st = then (run_stmts s ss env st) (λ env' st. run_maybe s e env' st)

  -- a block without a last expression is done
  pub run_maybe : Setting → MaybeExpr → Env → State → Option (Flow Thing)
  run_maybe s no_expr env st = Some (goes done st)
  run_maybe s (some_expr e) env st = run s e env st

  pub run_stmts : Setting → StmtTrees → Env → State → Option (Flow Env)
  run_stmts s no_stmts env st = Some (goes env st)
  run_stmts s (stmt_then t ts) env st = then (run_stmt s t env st) (λ env' st. run_stmts s ts env' st)

  pub run_stmt : Setting → StmtTree → Env → State → Option (Flow Env)
  run_stmt s (let_stmt name e) env st = then (run s e env st) (λ x st. Some (goes (with_name name.name x env) st))
  run_stmt s (check_stmt t) env st = Some (goes env st)
  run_stmt s (import_stmt p) env st = Some (goes env st)
  run_stmt s (do_stmt e) env st = then (run s e env st) (λ x st. Some (goes env st))
  run_stmt s (const_stmt name t base l) env st = next_constant name.name env st st.numbers

-- ---- methods: self stands for the receiver, the input for the parameter

abbrev pub with_receiver : Option Receiver → Value → List (Text × Thing) → List (Text × Thing)
with_receiver None x env = env
with_receiver (Some r) x env = (codes "self", value_of mine x) ∷ env

-- a value beside a receiver is the right side, and else another one
abbrev pub input_value : Option Receiver → Value → Thing
input_value None y = value another y.variant (things_of y.fields)
input_value (Some r) y = value_of theirs y

abbrev pub input_thing : Option Receiver → Input → Option Thing
input_thing r no_input = None
input_thing r (value_input y) = Some (input_value r y)
input_thing r (term_input t) = Some t
input_thing r (tuple_input ts) = Some (tuple_of (things_of ts))
input_thing r (text_input t lower) = Some (input_text t lower)
input_thing r (number_input n constants) = Some (number n)

abbrev pub with_param : Option ParamOfMethod → Option Thing → List (Text × Thing)
with_param (Some p) (Some x) = (p.name.name, x) ∷ []
with_param _ _ = []

abbrev pub right_fields : Input → List Thing
right_fields (value_input y) = y.fields
right_fields _ = []

abbrev pub constants_of : Input → List ℤ
constants_of (number_input n constants) = constants
constants_of _ = []

abbrev pub is_changing : Option Receiver → Bool
is_changing (Some receiver.RefMut) = true
is_changing _ = false

abbrev pub setting_of : Declaration → List Bool → Option Receiver → Input → Setting
setting_of d outcomes r y = record { decl = d; outcomes = outcomes; right = right_fields y; may_assign = is_changing r }

-- self afterwards, or done where there is no receiver
abbrev pub afterwards : Option Receiver → ℕ → State → Thing
afterwards None n st = done
afterwards (Some r) n st = value another n (things_of st.fields)

-- a method with a return type answers what it gives, another one self afterwards
abbrev pub answer : Setting → MethodTree → ℕ → Option TypeTree → Thing → State → Thing
answer s m n None x st = afterwards m.receiver n st
answer s m n (Some t) x st = as_term s st x

abbrev pub answered : Setting → MethodTree → ℕ → Option (Flow Thing) → Option Thing
answered s m n None = None
answered s m n (Some (goes x st)) = Some (answer s m n m.output x st)
answered s m n (Some (ends x st)) = Some (answer s m n m.output x st)

-- what a method gives at a value of self, an input and the outcomes of the comparisons
abbrev pub run_method : Declaration → List Bool → MethodTree → Value → Input → Option Thing
run_method d outcomes m x y =
    answered (setting_of d outcomes m.receiver y) m x.variant
    (run_block (setting_of d outcomes m.receiver y) m.body (plain (with_receiver m.receiver x (with_param m.param (input_thing m.receiver y))))
    (record { fields = x.fields; numbers = constants_of y }))
