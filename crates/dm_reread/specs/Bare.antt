-- Implementations, expressions and patterns without ranges: each range is 0..0.
use Rattle.std.specs.Prelude.{map, option_map}
use Rattle.dm_stream.specs.declared.seq.Punctuated.{Punctuated}
use Rattle.dm_stream.specs.declared.tokens.Lifetime.{Lifetime}
use Rattle.dm_lexer.specs.Written.{unplaced}
use Rattle.dm_ast.specs.Tree.{BoundTree}
use Rattle.dm_ast.specs.Declarations.{Listed, ParamTree, lifetime_param, type_param, const_param, PredicateTree, lifetime_predicate, type_predicate}
use Rattle.dm_output.specs.declared.expr.Member.{Member}
use Rattle.dm_output.specs.declared.expr.Member.TheVariants as m
use Rattle.dm_output.specs.Output.{FmtArgTree, FmtTree, PatternTree, wild, bind, str_pattern, path_pattern, tuple_pattern, named_pattern, pair_pattern, PatternTrees, no_patterns, pattern_then, NamedPatterns, no_named, named_then, ExprTree, return_expr, or_expr, and_expr, equal, unequal, ref_opaque, ref_expr, deref, member, method_call, map_expr, map_err, question, path_expr, call, build, build_named, paren, tuple, opaque_call, str_expr, bool, match_expr, unsafe_expr, write_expr, format_args, ExprTrees, no_exprs, expr_then, NamedExprs, no_named_exprs, named_expr_then, MaybeExpr, no_expr, some_expr, ArmTrees, no_arms, arm_then, ArmBodyTree, block_body, expr_body, StmtTree, let_stmt, check_stmt, import_stmt, do_stmt, const_stmt, StmtTrees, no_stmts, stmt_then, BlockTree, block, AssocTree, ParamOfMethod, MethodTree, ItemTree}
use Rattle.dm_type_eq.specs.Unplaced.{unplaced_attribute, unplaced_bound, unplaced_constant, unplaced_ident, unplaced_lifetime, unplaced_lifetimes, unplaced_literal, unplaced_path, unplaced_self, unplaced_type}

-- ---- formats and members

abbrev pub bare_fmt_arg : FmtArgTree → FmtArgTree
bare_fmt_arg a = record { alias = option_map unplaced_ident a.alias; value = unplaced a.value }

abbrev pub bare_fmt : FmtTree → FmtTree
bare_fmt f = record { lit = unplaced_literal f.lit; args = map bare_fmt_arg f.args }

abbrev pub bare_member : Member → Member
bare_member (m.Named i) = m.Named (unplaced_ident i)
bare_member (m.Index l) = m.Index (unplaced_literal l)

-- ---- patterns

abbrev mutual
  pub bare_pattern : PatternTree → PatternTree
  bare_pattern wild = wild
  bare_pattern (bind how i) = bind how (unplaced_ident i)
  bare_pattern (str_pattern l) = str_pattern (unplaced_literal l)
  bare_pattern (path_pattern p) = path_pattern (unplaced_path p)
  bare_pattern (tuple_pattern p ps) = tuple_pattern (unplaced_path p) (bare_patterns ps)
  bare_pattern (named_pattern p ps rest) = named_pattern (unplaced_path p) (bare_named ps) rest
  bare_pattern (pair_pattern a c) = pair_pattern (bare_pattern a) (bare_pattern c)

  pub bare_patterns : PatternTrees → PatternTrees
  bare_patterns no_patterns = no_patterns
  bare_patterns (pattern_then p ps) = pattern_then (bare_pattern p) (bare_patterns ps)

  pub bare_named : NamedPatterns → NamedPatterns
  bare_named no_named = no_named
  bare_named (named_then i p ps) = named_then (unplaced_ident i) (bare_pattern p) (bare_named ps)

-- ---- expressions and blocks

abbrev mutual
  pub bare_expr : ExprTree → ExprTree
  bare_expr (return_expr a) = return_expr (bare_expr a)
  bare_expr (or_expr es) = or_expr (bare_exprs es)
  bare_expr (and_expr es) = and_expr (bare_exprs es)
  bare_expr (equal a c) = equal (bare_expr a) (bare_expr c)
  bare_expr (unequal a c) = unequal (bare_expr a) (bare_expr c)
  bare_expr (ref_opaque o) = ref_opaque (unplaced o)
  bare_expr (ref_expr w a) = ref_expr w (bare_expr a)
  bare_expr (deref a) = deref (bare_expr a)
  bare_expr (member a x) = member (bare_expr a) (bare_member x)
  bare_expr (method_call a i es) = method_call (bare_expr a) (unplaced_ident i) (bare_exprs es)
  bare_expr (map_expr a e) = map_expr (bare_expr a) (bare_expr e)
  bare_expr (map_err a o) = map_err (bare_expr a) (unplaced o)
  bare_expr (question a) = question (bare_expr a)
  bare_expr (path_expr q p) = path_expr (unplaced_self q) (unplaced_path p)
  bare_expr (call q p es) = call (unplaced_self q) (unplaced_path p) (bare_exprs es)
  bare_expr (build q p es) = build (unplaced_self q) (unplaced_path p) (bare_exprs es)
  bare_expr (build_named q p es) = build_named (unplaced_self q) (unplaced_path p) (bare_named_exprs es)
  bare_expr (paren a) = paren (bare_expr a)
  bare_expr (tuple es) = tuple (bare_exprs es)
  bare_expr (opaque_call o a) = opaque_call (unplaced o) (bare_expr a)
  bare_expr (str_expr l) = str_expr (unplaced_literal l)
  bare_expr (bool v) = bool v
  bare_expr (match_expr a arms) = match_expr (bare_expr a) (bare_arms arms)
  bare_expr (unsafe_expr a) = unsafe_expr (bare_expr a)
  bare_expr (write_expr i f) = write_expr (unplaced_ident i) (bare_fmt f)
  bare_expr (format_args f) = format_args (bare_fmt f)

  pub bare_exprs : ExprTrees → ExprTrees
  bare_exprs no_exprs = no_exprs
  bare_exprs (expr_then e es) = expr_then (bare_expr e) (bare_exprs es)

  pub bare_named_exprs : NamedExprs → NamedExprs
  bare_named_exprs no_named_exprs = no_named_exprs
  bare_named_exprs (named_expr_then i e es) = named_expr_then (unplaced_ident i) (bare_expr e) (bare_named_exprs es)

  pub bare_maybe : MaybeExpr → MaybeExpr
  bare_maybe no_expr = no_expr
  bare_maybe (some_expr e) = some_expr (bare_expr e)

  pub bare_arms : ArmTrees → ArmTrees
  bare_arms no_arms = no_arms
  bare_arms (arm_then ps guard body more) = arm_then (bare_patterns ps) (bare_maybe guard) (bare_body body) (bare_arms more)

  pub bare_body : ArmBodyTree → ArmBodyTree
  bare_body (block_body d) = block_body (bare_block d)
  bare_body (expr_body e) = expr_body (bare_expr e)

  pub bare_stmt : StmtTree → StmtTree
  bare_stmt (let_stmt i e) = let_stmt (unplaced_ident i) (bare_expr e)
  bare_stmt (check_stmt t) = check_stmt (unplaced_type t)
  bare_stmt (import_stmt p) = import_stmt (unplaced_path p)
  bare_stmt (do_stmt e) = do_stmt (bare_expr e)
  bare_stmt (const_stmt i t base l) = const_stmt (unplaced_ident i) (unplaced_type t) (option_map unplaced base) (unplaced_literal l)

  pub bare_stmts : StmtTrees → StmtTrees
  bare_stmts no_stmts = no_stmts
  bare_stmts (stmt_then s ss) = stmt_then (bare_stmt s) (bare_stmts ss)

  pub bare_block : BlockTree → BlockTree
  bare_block (block ss e) = block (bare_stmts ss) (bare_maybe e)

-- ---- parameters and predicates

-- bounds, and lifetimes, with separators
abbrev pub bare_listed : Listed BoundTree → Listed BoundTree
bare_listed bs = record { items = map unplaced_bound bs.items; trailing = bs.trailing }

abbrev pub bare_punctuated : Punctuated Lifetime → Punctuated Lifetime
bare_punctuated ls = record { items = map unplaced_lifetime ls.items; trailing = ls.trailing }

abbrev pub bare_param : ParamTree → ParamTree
bare_param (lifetime_param attrs l bounds) = lifetime_param (map unplaced_attribute attrs) (unplaced_lifetime l) (unplaced_lifetimes bounds)
bare_param (type_param attrs i bounds default) =
    type_param (map unplaced_attribute attrs) (unplaced_ident i) (option_map bare_listed bounds) (option_map unplaced_type default)
bare_param (const_param attrs i t default) =
    const_param (map unplaced_attribute attrs) (unplaced_ident i) (unplaced_type t) (option_map unplaced_constant default)

abbrev pub bare_predicate : PredicateTree → PredicateTree
bare_predicate (lifetime_predicate l ls) = lifetime_predicate (unplaced_lifetime l) (bare_punctuated ls)
bare_predicate (type_predicate ls t bs) = type_predicate (unplaced_lifetimes ls) (unplaced_type t) (bare_listed bs)

-- ---- implementations

abbrev pub bare_assoc : AssocTree → AssocTree
bare_assoc a = record { name = unplaced_ident a.name; ty = unplaced_type a.ty }

abbrev pub bare_param_of : ParamOfMethod → ParamOfMethod
bare_param_of p = record { name = unplaced_ident p.name; ty = unplaced_type p.ty }

abbrev pub bare_method : MethodTree → MethodTree
bare_method x =
    record {
      attrs = x.attrs;
      is_const = x.is_const;
      name = unplaced_ident x.name;
      receiver = x.receiver;
      param = option_map bare_param_of x.param;
      output = option_map unplaced_type x.output;
      body = bare_block x.body;
    }

abbrev pub bare_item : ItemTree → ItemTree
bare_item i =
    record {
      attrs = i.attrs;
      params = map bare_param i.params;
      trait_path = option_map unplaced_path i.trait_path;
      ty = unplaced_type i.ty;
      predicates = map bare_predicate i.predicates;
      assocs = map bare_assoc i.assocs;
      methods = map bare_method i.methods;
    }
