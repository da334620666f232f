-- The levels of the tokens of implementations, in the order of their text: how many groups and `<..>` are around each, and what types and
-- the operands of `&`, `*` and `return` add. Delimiters, `<` and `>` stand at the level outside.
use Rattle.std.specs.Prelude.{ℕ, ◌+◌, List, [], ◌∷◌, ◌++◌, map, true, false, Option, Some, None, Result, Ok, Err}
use Rattle.dm_stream.specs.declared.tokens.Span.{Span}
use Rattle.dm_stream.specs.declared.tokens.Entry.{Entry}
use Rattle.dm_stream.specs.declared.tokens.Ident.{Ident}
use Rattle.dm_stream.specs.Trees.{Trees}
use Rattle.dm_ast.specs.Tree.{TypeTree, PathTree}
use Rattle.dm_ast.specs.Declarations.{ParamTree, PredicateTree}
use Rattle.dm_output.specs.Output.{FmtArgTree, FmtTree, PatternTree, wild, bind, str_pattern, path_pattern, tuple_pattern, named_pattern, pair_pattern, PatternTrees, no_patterns, pattern_then, NamedPatterns, no_named, named_then, ExprTree, return_expr, or_expr, and_expr, equal, unequal, ref_opaque, ref_expr, deref, member, method_call, map_expr, map_err, question, path_expr, call, build, build_named, paren, tuple, opaque_call, str_expr, bool, match_expr, unsafe_expr, write_expr, format_args, ExprTrees, no_exprs, expr_then, NamedExprs, no_named_exprs, named_expr_then, MaybeExpr, no_expr, some_expr, ArmTree, ArmTrees, no_arms, arm_then, ArmBodyTree, block_body, expr_body, StmtTree, let_stmt, check_stmt, import_stmt, do_stmt, const_stmt, StmtTrees, no_stmts, stmt_then, BlockTree, block, AssocTree, ParamOfMethod, MethodTree, ItemTree}
use Rattle.dm_output.specs.declared.pattern.Binding.{Binding}
use Rattle.dm_output.specs.declared.pattern.Binding.TheVariants as binding
use Rattle.dm_output.specs.declared.item.ItemAttr.{ItemAttr}
use Rattle.dm_output.specs.declared.item.ItemAttr.TheVariants as attr
use Rattle.dm_output.specs.declared.item.Receiver.{Receiver}
use Rattle.dm_output.specs.declared.item.Receiver.TheVariants as receiver
use Rattle.dm_type_levels.specs.Passing.{pass, given}
use Rattle.dm_type_levels.specs.TypeLevels.{trees_levels, grouped_levels, spaced_levels, type_levels, path_levels, path_expr_levels, param_levels, predicate_levels}

-- ---- lists

-- each with a comma behind it
abbrev pub ended_levels : ℕ → List (List ℕ) → List ℕ
ended_levels k [] = []
ended_levels k (ls ∷ more) = ls ++ k ∷ ended_levels k more

-- one behind the other
abbrev pub in_turn : List (List ℕ) → List ℕ
in_turn [] = []
in_turn (ls ∷ more) = ls ++ in_turn more

-- tokens that are not read, in parentheses
abbrev pub opaque_levels : ℕ → Trees → List ℕ
opaque_levels k o = grouped_levels k (trees_levels (k + 1) o)

-- ---- patterns

abbrev pub binding_levels : ℕ → Binding → List ℕ
binding_levels k binding.Plain = []
binding_levels k binding.Ref = k ∷ []
binding_levels k binding.RefMut = k ∷ k ∷ []

abbrev mutual
  pub pattern_levels : ℕ → PatternTree → List ℕ
  pattern_levels k wild = k ∷ []
  pattern_levels k (bind how i) = binding_levels k how ++ k ∷ []
  pattern_levels k (str_pattern l) = k ∷ []
  pattern_levels k (path_pattern p) = path_levels k p
  pattern_levels k (tuple_pattern p ps) = path_levels k p ++ grouped_levels k (ended_levels (k + 1) (each_pattern (k + 1) ps))
  pattern_levels k (named_pattern p ps rest) =
      path_levels k p ++ grouped_levels k (ended_levels (k + 1) (each_named (k + 1) ps) ++ given rest ((k + 1) ∷ (k + 1) ∷ []))
  pattern_levels k (pair_pattern a b) = grouped_levels k (pattern_levels (k + 1) a ++ (k + 1) ∷ pattern_levels (k + 1) b)

  pub each_pattern : ℕ → PatternTrees → List (List ℕ)
  each_pattern k no_patterns = []
  each_pattern k (pattern_then p ps) = pattern_levels k p ∷ each_pattern k ps

  pub each_named : ℕ → NamedPatterns → List (List ℕ)
  each_named k no_named = []
  each_named k (named_then i p ps) = (k ∷ k ∷ pattern_levels k p) ∷ each_named k ps

-- ---- expressions

-- the patterns, the guard, the body, and a comma
abbrev pub arm_of : ℕ → List (List ℕ) → List ℕ → List ℕ → List ℕ
arm_of k patterns guard body = spaced_levels (k ∷ []) true patterns ++ (guard ++ k ∷ k ∷ (body ++ k ∷ []))

-- formats: the literal, and a comma before each argument
abbrev pub alias_levels : ℕ → Option Ident → List ℕ
alias_levels k None = []
alias_levels k (Some i) = k ∷ k ∷ []

abbrev pub fmt_arg_levels : ℕ → FmtArgTree → List ℕ
fmt_arg_levels k a = alias_levels k a.alias ++ trees_levels k a.value

abbrev pub fmt_levels : ℕ → FmtTree → List ℕ
fmt_levels k f = k ∷ spaced_levels (k ∷ []) false (map (fmt_arg_levels k) f.args)

-- the call of a macro of `derive_more::core`
abbrev pub macro_levels : ℕ → List ℕ → List ℕ
macro_levels k inside = k ∷ k ∷ k ∷ k ∷ k ∷ k ∷ k ∷ k ∷ grouped_levels k inside

-- in parentheses, with commas between
abbrev pub list_levels : ℕ → List (List ℕ) → List ℕ
list_levels k items = grouped_levels k (spaced_levels ((k + 1) ∷ []) true items)

-- what a constant begins with: a group of tokens, or 0
abbrev pub base_levels : ℕ → Option Trees → List ℕ
base_levels k None = k ∷ []
base_levels k (Some o) = opaque_levels k o

abbrev mutual
  pub expr_levels : ℕ → ExprTree → List ℕ
  expr_levels k (return_expr a) = k ∷ expr_levels (k + 1) a
  expr_levels k (or_expr es) = spaced_levels (k ∷ k ∷ []) true (each_expr k es)
  expr_levels k (and_expr es) = spaced_levels (k ∷ k ∷ []) true (each_expr k es)
  expr_levels k (equal a b) = expr_levels k a ++ k ∷ k ∷ expr_levels k b
  expr_levels k (unequal a b) = expr_levels k a ++ k ∷ k ∷ expr_levels k b
  expr_levels k (ref_opaque o) = k ∷ opaque_levels (k + 1) o
  expr_levels k (ref_expr m a) = k ∷ (given m ((k + 1) ∷ []) ++ expr_levels (k + 1) a)
  expr_levels k (deref a) = k ∷ expr_levels (k + 1) a
  expr_levels k (member a m) = expr_levels k a ++ k ∷ k ∷ []
  expr_levels k (method_call a i es) = expr_levels k a ++ k ∷ k ∷ list_levels k (each_expr (k + 1) es)
  expr_levels k (map_expr a e) = expr_levels k a ++ k ∷ k ∷ grouped_levels k ((k + 1) ∷ (k + 1) ∷ (k + 1) ∷ expr_levels (k + 1) e)
  expr_levels k (map_err a o) = expr_levels k a ++ k ∷ k ∷ opaque_levels k o
  expr_levels k (question a) = expr_levels k a ++ k ∷ []
  expr_levels k (path_expr q p) = path_expr_levels k q p
  expr_levels k (call q p es) = path_expr_levels k q p ++ list_levels k (each_expr (k + 1) es)
  expr_levels k (build q p es) = path_expr_levels k q p ++ grouped_levels k (ended_levels (k + 1) (each_expr (k + 1) es))
  expr_levels k (build_named q p es) = path_expr_levels k q p ++ grouped_levels k (ended_levels (k + 1) (each_named_expr (k + 1) es))
  expr_levels k (paren a) = grouped_levels k (expr_levels (k + 1) a)
  expr_levels k (tuple es) = list_levels k (each_expr (k + 1) es)
  expr_levels k (opaque_call o a) = opaque_levels k o ++ grouped_levels k (expr_levels (k + 1) a)
  expr_levels k (str_expr l) = k ∷ []
  expr_levels k (bool b) = k ∷ []
  expr_levels k (match_expr a arms) = k ∷ (expr_levels k a ++ grouped_levels k (arms_levels (k + 1) arms))
  expr_levels k (unsafe_expr a) = k ∷ grouped_levels k (expr_levels (k + 1) a)
  expr_levels k (write_expr i f) = macro_levels k ((k + 1) ∷ (k + 1) ∷ fmt_levels (k + 1) f)
  expr_levels k (format_args f) = macro_levels k (fmt_levels (k + 1) f)

  pub each_expr : ℕ → ExprTrees → List (List ℕ)
  each_expr k no_exprs = []
  each_expr k (expr_then e es) = expr_levels k e ∷ each_expr k es

  pub each_named_expr : ℕ → NamedExprs → List (List ℕ)
  each_named_expr k no_named_exprs = []
  each_named_expr k (named_expr_then i e es) = (k ∷ k ∷ expr_levels k e) ∷ each_named_expr k es

  pub maybe_expr_levels : ℕ → MaybeExpr → List ℕ
  maybe_expr_levels k no_expr = []
  maybe_expr_levels k (some_expr e) = expr_levels k e

  -- `if` and the guard, where there is one
  pub guard_levels : ℕ → MaybeExpr → List ℕ
  guard_levels k no_expr = []
  guard_levels k (some_expr e) = k ∷ expr_levels k e

  pub arms_levels : ℕ → ArmTrees → List ℕ
  arms_levels k no_arms = []
  arms_levels k (arm_then ps guard body more) =
      arm_of k (each_pattern k ps) (guard_levels k guard) (body_levels k body) ++ arms_levels k more

  pub body_levels : ℕ → ArmBodyTree → List ℕ
  body_levels k (block_body b) = grouped_levels k (inside_levels (k + 1) b)
  body_levels k (expr_body e) = expr_levels k e

  pub stmt_levels : ℕ → StmtTree → List ℕ
  stmt_levels k (let_stmt i e) = k ∷ k ∷ k ∷ (expr_levels k e ++ k ∷ [])
  stmt_levels k (check_stmt t) = k ∷ k ∷ k ∷ (type_levels k t ++ k ∷ [])
  stmt_levels k (import_stmt p) = k ∷ (path_levels k p ++ k ∷ k ∷ k ∷ [])
  stmt_levels k (do_stmt e) = expr_levels k e ++ k ∷ []
  stmt_levels k (const_stmt i t base l) = k ∷ k ∷ k ∷ (type_levels k t ++ k ∷ (base_levels k base ++ k ∷ k ∷ k ∷ []))

  pub stmts_levels : ℕ → StmtTrees → List ℕ
  stmts_levels k no_stmts = []
  stmts_levels k (stmt_then s ss) = stmt_levels k s ++ stmts_levels k ss

  -- the statements of a block, and its last expression
  pub inside_levels : ℕ → BlockTree → List ℕ
  inside_levels k (block ss e) = stmts_levels k ss ++ maybe_expr_levels k e

abbrev pub block_levels : ℕ → BlockTree → List ℕ
block_levels k b = grouped_levels k (inside_levels (k + 1) b)

abbrev pub arm_levels : ℕ → ArmTree → List ℕ
arm_levels k a = arm_of k (each_pattern k a.patterns) (guard_levels k a.guard) (body_levels k a.body)

-- ---- items

abbrev pub allowing : ℕ → List ℕ → List ℕ
allowing k lint = k ∷ grouped_levels k lint

abbrev pub attr_inside : ℕ → ItemAttr → List ℕ
attr_inside k attr.AllowPrivateBounds = allowing k ((k + 1) ∷ [])
attr_inside k attr.AllowDeadCodePrivateBounds = allowing k ((k + 1) ∷ (k + 1) ∷ (k + 1) ∷ [])
attr_inside k attr.AllowDeprecated = allowing k ((k + 1) ∷ [])
attr_inside k attr.AllowUnreachableCode = allowing k ((k + 1) ∷ [])
attr_inside k attr.AllowNonUpperCaseGlobals = allowing k ((k + 1) ∷ [])
attr_inside k attr.AllowUnusedUnit = allowing k ((k + 1) ∷ (k + 1) ∷ (k + 1) ∷ (k + 1) ∷ [])
attr_inside k attr.AutomaticallyDerived = k ∷ []
attr_inside k attr.DocHidden = allowing k ((k + 1) ∷ [])
attr_inside k attr.Inline = k ∷ []
attr_inside k attr.TrackCaller = k ∷ []

abbrev pub attr_levels : ℕ → ItemAttr → List ℕ
attr_levels k a = k ∷ grouped_levels k (attr_inside (k + 1) a)

-- `<` and `>` around the parameters, where there are any
abbrev pub params_levels : ℕ → List ParamTree → List ℕ
params_levels k [] = []
params_levels k (p ∷ ps) = grouped_levels k (spaced_levels ((k + 1) ∷ []) true (map (param_levels (k + 1)) (p ∷ ps)))

-- `where` and the predicates, where there are any
abbrev pub where_levels : ℕ → List PredicateTree → List ℕ
where_levels k [] = []
where_levels k (p ∷ ps) = k ∷ spaced_levels (k ∷ []) true (map (predicate_levels k) (p ∷ ps))

abbrev pub trait_levels : ℕ → Option PathTree → List ℕ
trait_levels k None = []
trait_levels k (Some p) = path_levels k p ++ k ∷ []

abbrev pub assoc_levels : ℕ → AssocTree → List ℕ
assoc_levels k a = k ∷ k ∷ k ∷ (type_levels k a.ty ++ k ∷ [])

abbrev pub receiver_levels : ℕ → Receiver → List ℕ
receiver_levels k receiver.Value = k ∷ []
receiver_levels k receiver.Ref = k ∷ k ∷ []
receiver_levels k receiver.RefMut = k ∷ k ∷ k ∷ []

abbrev pub method_param_levels : ℕ → ParamOfMethod → List ℕ
method_param_levels k p = k ∷ k ∷ type_levels k p.ty

-- the receiver and the parameter, with a comma between where both are there
abbrev pub inputs_levels : ℕ → Option Receiver → Option ParamOfMethod → List ℕ
inputs_levels k None None = []
inputs_levels k None (Some p) = method_param_levels k p
inputs_levels k (Some r) None = receiver_levels k r
inputs_levels k (Some r) (Some p) = receiver_levels k r ++ k ∷ method_param_levels k p

abbrev pub output_levels : ℕ → Option TypeTree → List ℕ
output_levels k None = []
output_levels k (Some t) = k ∷ k ∷ type_levels k t

-- all of a method in front of its body
abbrev pub signature_levels : ℕ → MethodTree → List ℕ
signature_levels k m =
    in_turn (map (attr_levels k) m.attrs) ++ (given m.is_const (k ∷ []) ++ k ∷ k ∷
    (grouped_levels k (inputs_levels (k + 1) m.receiver m.param) ++ output_levels k m.output))

abbrev pub method_levels : ℕ → MethodTree → List ℕ
method_levels k m = signature_levels k m ++ block_levels k m.body

-- all of an implementation in front of its brace
abbrev pub head_levels : ℕ → ItemTree → List ℕ
head_levels k i =
    in_turn (map (attr_levels k) i.attrs) ++ k ∷ (params_levels k i.params ++ (trait_levels k i.trait_path ++
    (type_levels k i.ty ++ where_levels k i.predicates)))

abbrev pub item_levels : ItemTree → List ℕ
item_levels i = head_levels 0 i ++ grouped_levels 0 (in_turn (map (assoc_levels 1) i.assocs) ++ in_turn (map (method_levels 1) i.methods))

abbrev pub items_levels : List ItemTree → List ℕ
items_levels is = in_turn (map item_levels is)

-- ---- the first token that stands too deep

abbrev pub too_deep : Result (List Entry) Span → Option Span
too_deep (Ok es) = None
too_deep (Err s) = Some s

-- the range of the first token that is too deep, where these are the levels of the entries
abbrev pub deep_in : List ℕ → List Entry → Option Span
deep_in ls es = too_deep (pass ls es)
