-- What trees of the program stand for: the plain data of the output language. A `Box` gives its value alone.
use Rattle.std.specs.Prelude.{map, option_map}
use Rattle.dm_stream.specs.declared.tokens.Ident.{Ident}
use Rattle.dm_stream.specs.Trees.{Trees}
use Rattle.dm_ast.specs.declared.plain.Opaque.{Opaque}
use Rattle.dm_ast.specs.Tree.{ty_view, path_view, maybe_self_view}
use Rattle.dm_ast.specs.Declarations.{param_view, predicate_view}
use Rattle.dm_output.specs.declared.pattern.Pattern.{Pattern}
use Rattle.dm_output.specs.declared.pattern.NamedPattern.{NamedPattern}
use Rattle.dm_output.specs.declared.pattern.Pattern.TheOpen.{Pattern-F, NamedPattern-F}
use Rattle.dm_output.specs.declared.pattern.Pattern.TheFolds.{fold-Pattern, fold-NamedPattern}
use Rattle.dm_output.specs.declared.expr.Expr.{Expr}
use Rattle.dm_output.specs.declared.expr.Block.{Block}
use Rattle.dm_output.specs.declared.expr.Stmt.{Stmt}
use Rattle.dm_output.specs.declared.expr.Arm.{Arm}
use Rattle.dm_output.specs.declared.expr.ArmBody.{ArmBody}
use Rattle.dm_output.specs.declared.expr.NamedExpr.{NamedExpr}
use Rattle.dm_output.specs.declared.expr.FmtArg.{FmtArg}
use Rattle.dm_output.specs.declared.expr.FmtArgs.{FmtArgs}
use Rattle.dm_output.specs.declared.expr.ArmBody.TheOpen.{Expr-F, Block-F, Stmt-F, Arm-F, ArmBody-F, NamedExpr-F}
use Rattle.dm_output.specs.declared.expr.ArmBody.TheFolds.{fold-Expr, fold-Block, fold-Stmt, fold-Arm, fold-ArmBody, fold-NamedExpr}
use Rattle.dm_output.specs.declared.item.Assoc.{Assoc}
use Rattle.dm_output.specs.declared.item.MethodParam.{MethodParam}
use Rattle.dm_output.specs.declared.item.Method.{Method}
use Rattle.dm_output.specs.declared.item.Item.{Item}
use Rattle.dm_output.specs.Output.{FmtArgTree, FmtTree, PatternTree, wild, bind, str_pattern, path_pattern, tuple_pattern, named_pattern, pair_pattern, patterns_of, named_of, ExprTree, return_expr, or_expr, and_expr, equal, unequal, ref_opaque, ref_expr, deref, member, method_call, map_expr, map_err, question, path_expr, call, build, build_named, paren, tuple, opaque_call, str_expr, bool, match_expr, unsafe_expr, write_expr, format_args, exprs_of, named_exprs_of, maybe_expr, boxed_expr, ArmTree, arms_of, ArmBodyTree, block_body, expr_body, StmtTree, let_stmt, check_stmt, import_stmt, do_stmt, const_stmt, stmts_of, BlockTree, block, AssocTree, ParamOfMethod, MethodTree, ItemTree}

-- ---- parts without expressions

abbrev pub opaque_view : Opaque → Trees
opaque_view o = o.tokens.trees

abbrev pub fmt_arg_view : FmtArg → FmtArgTree
fmt_arg_view a = record { alias = a.alias; value = opaque_view a.value }

abbrev pub fmt_view : FmtArgs → FmtTree
fmt_view f = record { lit = f.lit; args = map fmt_arg_view f.args }

-- ---- one step of the view for each type

abbrev pub pattern_step : Pattern-F PatternTree (Ident × PatternTree) → PatternTree
pattern_step Pattern-F.Wild = wild
pattern_step (Pattern-F.Bind how name) = bind how name
pattern_step (Pattern-F.Str l) = str_pattern l
pattern_step (Pattern-F.Path p) = path_pattern (path_view p)
pattern_step (Pattern-F.Tuple p ps) = tuple_pattern (path_view p) (patterns_of ps)
pattern_step (Pattern-F.Named p ps rest) = named_pattern (path_view p) (named_of ps) rest
pattern_step (Pattern-F.Pair a b) = pair_pattern a.value b.value

abbrev pub named_step : NamedPattern-F PatternTree (Ident × PatternTree) → Ident × PatternTree
named_step p = (p.name, p.pattern)

abbrev pub expr_step : Expr-F ArmBodyTree ExprTree StmtTree ArmTree BlockTree (Ident × ExprTree) → ExprTree
expr_step (Expr-F.Return a) = return_expr a.value
expr_step (Expr-F.Or es) = or_expr (exprs_of es)
expr_step (Expr-F.And es) = and_expr (exprs_of es)
expr_step (Expr-F.Equal a b) = equal a.value b.value
expr_step (Expr-F.Unequal a b) = unequal a.value b.value
expr_step (Expr-F.RefOpaque o) = ref_opaque (opaque_view o)
expr_step (Expr-F.Ref m a) = ref_expr m a.value
expr_step (Expr-F.Deref a) = deref a.value
expr_step (Expr-F.Member a m) = member a.value m
expr_step (Expr-F.MethodCall a i es) = method_call a.value i (exprs_of es)
expr_step (Expr-F.Map a e) = map_expr a.value e.value
expr_step (Expr-F.MapErr a o) = map_err a.value (opaque_view o)
expr_step (Expr-F.Question a) = question a.value
expr_step (Expr-F.Path p) = path_expr (maybe_self_view p.qself) (path_view p.path)
expr_step (Expr-F.Call p es) = call (maybe_self_view p.qself) (path_view p.path) (exprs_of es)
expr_step (Expr-F.Build p es) = build (maybe_self_view p.qself) (path_view p.path) (exprs_of es)
expr_step (Expr-F.BuildNamed p es) = build_named (maybe_self_view p.qself) (path_view p.path) (named_exprs_of es)
expr_step (Expr-F.Paren a) = paren a.value
expr_step (Expr-F.Tuple es) = tuple (exprs_of es)
expr_step (Expr-F.OpaqueCall o a) = opaque_call (opaque_view o) a.value
expr_step (Expr-F.Str l) = str_expr l
expr_step (Expr-F.Bool b) = bool b
expr_step (Expr-F.Match a as') = match_expr a.value (arms_of as')
expr_step (Expr-F.Unsafe a) = unsafe_expr a.value
expr_step (Expr-F.Write i f) = write_expr i (fmt_view f)
expr_step (Expr-F.FormatArgs f) = format_args (fmt_view f)

abbrev pub named_expr_step : NamedExpr-F ArmBodyTree ExprTree StmtTree ArmTree BlockTree (Ident × ExprTree) → Ident × ExprTree
named_expr_step e = (e.name, e.value)

abbrev pub body_step : ArmBody-F ArmBodyTree ExprTree StmtTree ArmTree BlockTree (Ident × ExprTree) → ArmBodyTree
body_step (ArmBody-F.Block b) = block_body b
body_step (ArmBody-F.«ArmBody::Expr» e) = expr_body e

abbrev pub stmt_step : Stmt-F ArmBodyTree ExprTree StmtTree ArmTree BlockTree (Ident × ExprTree) → StmtTree
stmt_step (Stmt-F.Let name e) = let_stmt name e
stmt_step (Stmt-F.Check t) = check_stmt (ty_view t)
stmt_step (Stmt-F.Import p) = import_stmt (path_view p)
stmt_step (Stmt-F.«Stmt::Expr» e) = do_stmt e
stmt_step (Stmt-F.Const name t base l) = const_stmt name (ty_view t) (option_map opaque_view base) l

unfoldable pub pattern_view : Pattern → PatternTree
pattern_view = fold-Pattern PatternTree (Ident × PatternTree) pattern_step named_step

unfoldable pub named_view : NamedPattern → Ident × PatternTree
named_view = fold-NamedPattern PatternTree (Ident × PatternTree) pattern_step named_step

abbrev pub arm_step : Arm-F ArmBodyTree ExprTree StmtTree ArmTree BlockTree (Ident × ExprTree) → ArmTree
arm_step a = record { patterns = patterns_of (map pattern_view a.patterns); guard = maybe_expr a.guard; body = a.body }

abbrev pub block_step : Block-F ArmBodyTree ExprTree StmtTree ArmTree BlockTree (Ident × ExprTree) → BlockTree
block_step b = block (stmts_of b.stmts) (boxed_expr b.last)

-- ---- the views

unfoldable pub expr_view : Expr → ExprTree
expr_view = fold-Expr ArmBodyTree ExprTree StmtTree ArmTree BlockTree (Ident × ExprTree) body_step expr_step stmt_step arm_step block_step named_expr_step

unfoldable pub block_view : Block → BlockTree
block_view = fold-Block ArmBodyTree ExprTree StmtTree ArmTree BlockTree (Ident × ExprTree) body_step expr_step stmt_step arm_step block_step named_expr_step

unfoldable pub arm_view : Arm → ArmTree
arm_view = fold-Arm ArmBodyTree ExprTree StmtTree ArmTree BlockTree (Ident × ExprTree) body_step expr_step stmt_step arm_step block_step named_expr_step

unfoldable pub body_view : ArmBody → ArmBodyTree
body_view = fold-ArmBody ArmBodyTree ExprTree StmtTree ArmTree BlockTree (Ident × ExprTree) body_step expr_step stmt_step arm_step block_step named_expr_step

unfoldable pub stmt_view : Stmt → StmtTree
stmt_view = fold-Stmt ArmBodyTree ExprTree StmtTree ArmTree BlockTree (Ident × ExprTree) body_step expr_step stmt_step arm_step block_step named_expr_step

unfoldable pub named_expr_view : NamedExpr → Ident × ExprTree
named_expr_view = fold-NamedExpr ArmBodyTree ExprTree StmtTree ArmTree BlockTree (Ident × ExprTree) body_step expr_step stmt_step arm_step block_step named_expr_step

abbrev pub assoc_view : Assoc → AssocTree
assoc_view a = record { name = a.name; ty = ty_view a.ty }

abbrev pub method_param_view : MethodParam → ParamOfMethod
method_param_view p = record { name = p.name; ty = ty_view p.ty }

abbrev pub method_view : Method → MethodTree
method_view m =
    record {
      attrs = m.attrs;
      is_const = m.is_const;
      name = m.name;
      receiver = m.receiver;
      param = option_map method_param_view m.param;
      output = option_map ty_view m.output;
      body = block_view m.body;
    }

abbrev pub item_view : Item → ItemTree
item_view i =
    record {
      attrs = i.attrs;
      params = map param_view i.params;
      trait_path = option_map path_view i.trait_path;
      ty = ty_view i.ty;
      predicates = map predicate_view i.predicates;
      assocs = map assoc_view i.assocs;
      methods = map method_view i.methods;
    }
