-- The tokens of implementations, and their text. Puncts, words and delimiters that no part brings along stand at the range 0..0.
-- `::`, `->`, `=>`, `==`, `!=`, `&&`, `||` and `..` are joint, other puncts alone.
use Rattle.std.specs.Prelude.{ℕ, List, [], ◌∷◌, ◌++◌, map, true, false, cond, codes, Option, Some, None}
use Rattle.dm_stream.specs.declared.seq.Punctuated.{Punctuated}
use Rattle.dm_stream.specs.declared.tokens.Delim.{Delim}
use Rattle.dm_stream.specs.declared.tokens.Delim.TheVariants.{Paren, Bracket, Brace}
use Rattle.dm_stream.specs.declared.tokens.Ident.{Ident}
use Rattle.dm_stream.specs.declared.tokens.Lifetime.{Lifetime}
use Rattle.dm_stream.specs.declared.tokens.LitKind.TheVariants.{Int}
use Rattle.dm_stream.specs.Trees.{Trees, no_trees, join}
use Rattle.dm_stream.specs.Layout.{layout, nowhere}
use Rattle.dm_ast.specs.declared.plain.ConstArg.{ConstArg}
use Rattle.dm_ast.specs.Tree.{TypeTree, path, PathTree, MaybeSelf, BoundTree, bounds_of}
use Rattle.dm_ast.specs.Declarations.{Listed, ParamTree, lifetime_param, type_param, const_param, PredicateTree, lifetime_predicate, type_predicate}
use Rattle.dm_ast.specs.TypeTokens as syntax
use Rattle.dm_ast.specs.TypeTokens.{given, name, spaced, type_trees, path_trees, node_trees, for_trees, const_trees, attributes_trees, each_bound, listed, lifetime}
use Rattle.dm_output.specs.Output.{FmtArgTree, FmtTree, PatternTree, wild, bind, str_pattern, path_pattern, tuple_pattern, named_pattern, pair_pattern, PatternTrees, no_patterns, pattern_then, NamedPatterns, no_named, named_then, ExprTree, return_expr, or_expr, and_expr, equal, unequal, ref_opaque, ref_expr, deref, member, method_call, map_expr, map_err, question, path_expr, call, build, build_named, paren, tuple, opaque_call, str_expr, bool, match_expr, unsafe_expr, write_expr, format_args, ExprTrees, no_exprs, expr_then, NamedExprs, no_named_exprs, named_expr_then, MaybeExpr, no_expr, some_expr, ArmTree, ArmTrees, no_arms, arm_then, ArmBodyTree, block_body, expr_body, StmtTree, let_stmt, check_stmt, import_stmt, do_stmt, const_stmt, StmtTrees, no_stmts, stmt_then, BlockTree, block, AssocTree, ParamOfMethod, MethodTree, ItemTree}
use Rattle.dm_output.specs.declared.pattern.Binding.{Binding}
use Rattle.dm_output.specs.declared.pattern.Binding.TheVariants as binding
use Rattle.dm_output.specs.declared.expr.Member.{Member}
use Rattle.dm_output.specs.declared.expr.Member.TheVariants as m
use Rattle.dm_output.specs.declared.item.ItemAttr.{ItemAttr}
use Rattle.dm_output.specs.declared.item.ItemAttr.TheVariants as attr
use Rattle.dm_output.specs.declared.item.Receiver.{Receiver}
use Rattle.dm_output.specs.declared.item.Receiver.TheVariants as receiver

-- ---- single tokens

abbrev pub punct : ℕ → Trees
punct ch = syntax.punct ch nowhere

-- two puncts that are read as one
abbrev pub joint : ℕ → ℕ → Trees
joint ch next = syntax.joint ch next nowhere

abbrev pub word : List ℕ → Trees
word letters = syntax.word letters nowhere

abbrev pub comma : Trees
comma = punct 44

abbrev pub colon : Trees
colon = punct 58

abbrev pub semicolon : Trees
semicolon = punct 59

abbrev pub assigns : Trees
assigns = punct 61

abbrev pub enclosed : Delim → Trees → Trees
enclosed d ts = syntax.grouped d ts

-- each with a comma behind it
abbrev pub ended : List Trees → Trees
ended [] = no_trees
ended (ts ∷ more) = join ts (join comma (ended more))

-- one behind the other
abbrev pub in_turn : List Trees → Trees
in_turn [] = no_trees
in_turn (ts ∷ more) = join ts (in_turn more)

-- ---- patterns

abbrev pub binding_trees : Binding → Trees
binding_trees binding.Plain = no_trees
binding_trees binding.Ref = word (codes "ref")
binding_trees binding.RefMut = join (word (codes "ref")) (word (codes "mut"))

abbrev mutual
  pub pattern_trees : PatternTree → Trees
  pattern_trees wild = word (codes "_")
  pattern_trees (bind how i) = join (binding_trees how) (name i)
  pattern_trees (str_pattern l) = syntax.literal l
  pattern_trees (path_pattern p) = path_trees nowhere p
  pattern_trees (tuple_pattern p ps) = join (path_trees nowhere p) (enclosed Paren (ended (each_pattern ps)))
  pattern_trees (named_pattern p ps rest) =
      join (path_trees nowhere p) (enclosed Brace (join (ended (each_named ps)) (given rest (joint 46 46))))
  pattern_trees (pair_pattern a b) = enclosed Paren (join (pattern_trees a) (join comma (pattern_trees b)))

  pub each_pattern : PatternTrees → List Trees
  each_pattern no_patterns = []
  each_pattern (pattern_then p ps) = pattern_trees p ∷ each_pattern ps

  pub each_named : NamedPatterns → List Trees
  each_named no_named = []
  each_named (named_then i p ps) = join (name i) (join colon (pattern_trees p)) ∷ each_named ps

-- ---- expressions

abbrev pub path_expr_trees : MaybeSelf → PathTree → Trees
path_expr_trees q p = node_trees nowhere (path q p)

-- the patterns, the guard, the body, and a comma
abbrev pub arm_of : List Trees → Trees → Trees → Trees
arm_of patterns guard body = join (spaced (punct 124) true patterns) (join guard (join (joint 61 62) (join body comma)))

-- formats: the literal, and a comma before each argument
abbrev pub alias_trees : Option Ident → Trees
alias_trees None = no_trees
alias_trees (Some i) = join (name i) assigns

abbrev pub fmt_arg_trees : FmtArgTree → Trees
fmt_arg_trees a = join (alias_trees a.alias) a.value

abbrev pub fmt_trees : FmtTree → Trees
fmt_trees f = join (syntax.literal f.lit) (spaced comma false (map fmt_arg_trees f.args))

-- the call of a macro of `derive_more::core`
abbrev pub macro_trees : List ℕ → Trees → Trees
macro_trees called inside =
    join (word (codes "derive_more")) (join (joint 58 58) (join (word (codes "core")) (join (joint 58 58) (join (word called) (join (punct 33) (enclosed Paren inside))))))

abbrev pub member_trees : Member → Trees
member_trees (m.Named i) = name i
member_trees (m.Index l) = syntax.literal l

-- what a constant begins with: a group of tokens, or 0
abbrev pub base_trees : Option Trees → Trees
base_trees None = syntax.literal (record { kind = Int; text = codes "0"; span = nowhere })
base_trees (Some o) = enclosed Paren o

abbrev mutual
  pub expr_trees : ExprTree → Trees
  expr_trees (return_expr a) = join (word (codes "return")) (expr_trees a)
  expr_trees (or_expr es) = spaced (joint 124 124) true (each_expr es)
  expr_trees (and_expr es) = spaced (joint 38 38) true (each_expr es)
  expr_trees (equal a b) = join (expr_trees a) (join (joint 61 61) (expr_trees b))
  expr_trees (unequal a b) = join (expr_trees a) (join (joint 33 61) (expr_trees b))
  expr_trees (ref_opaque o) = join (punct 38) (enclosed Paren o)
  expr_trees (ref_expr m a) = join (punct 38) (join (given m (word (codes "mut"))) (expr_trees a))
  expr_trees (deref a) = join (punct 42) (expr_trees a)
  expr_trees (member a m) = join (expr_trees a) (join (punct 46) (member_trees m))
  expr_trees (method_call a i es) = join (expr_trees a) (join (punct 46) (join (name i) (enclosed Paren (spaced comma true (each_expr es)))))
  expr_trees (map_expr a e) =
      join (expr_trees a) (join (punct 46) (join (word (codes "map")) (enclosed Paren (join (punct 124) (join (word (codes "v")) (join (punct 124) (expr_trees e)))))))
  expr_trees (map_err a o) = join (expr_trees a) (join (punct 46) (join (word (codes "map_err")) (enclosed Paren o)))
  expr_trees (question a) = join (expr_trees a) (punct 63)
  expr_trees (path_expr q p) = path_expr_trees q p
  expr_trees (call q p es) = join (path_expr_trees q p) (enclosed Paren (spaced comma true (each_expr es)))
  expr_trees (build q p es) = join (path_expr_trees q p) (enclosed Paren (ended (each_expr es)))
  expr_trees (build_named q p es) = join (path_expr_trees q p) (enclosed Brace (ended (each_named_expr es)))
  expr_trees (paren a) = enclosed Paren (expr_trees a)
  expr_trees (tuple es) = enclosed Paren (spaced comma true (each_expr es))
  expr_trees (opaque_call o a) = join (enclosed Paren o) (enclosed Paren (expr_trees a))
  expr_trees (str_expr l) = syntax.literal l
  expr_trees (bool b) = word (cond b (codes "true") (codes "false"))
  expr_trees (match_expr a arms) = join (word (codes "match")) (join (expr_trees a) (enclosed Brace (arms_trees arms)))
  expr_trees (unsafe_expr a) = join (word (codes "unsafe")) (enclosed Brace (expr_trees a))
  expr_trees (write_expr i f) = macro_trees (codes "write") (join (name i) (join comma (fmt_trees f)))
  expr_trees (format_args f) = macro_trees (codes "format_args") (fmt_trees f)

  pub each_expr : ExprTrees → List Trees
  each_expr no_exprs = []
  each_expr (expr_then e es) = expr_trees e ∷ each_expr es

  pub each_named_expr : NamedExprs → List Trees
  each_named_expr no_named_exprs = []
  each_named_expr (named_expr_then i e es) = join (name i) (join colon (expr_trees e)) ∷ each_named_expr es

  pub maybe_trees : MaybeExpr → Trees
  maybe_trees no_expr = no_trees
  maybe_trees (some_expr e) = expr_trees e

  -- `if` and the guard, where there is one
  pub guard_trees : MaybeExpr → Trees
  guard_trees no_expr = no_trees
  guard_trees (some_expr e) = join (word (codes "if")) (expr_trees e)

  pub arms_trees : ArmTrees → Trees
  arms_trees no_arms = no_trees
  arms_trees (arm_then ps guard body more) =
      join (arm_of (each_pattern ps) (guard_trees guard) (body_trees body)) (arms_trees more)

  pub body_trees : ArmBodyTree → Trees
  body_trees (block_body b) = enclosed Brace (inside_trees b)
  body_trees (expr_body e) = expr_trees e

  pub stmt_trees : StmtTree → Trees
  stmt_trees (let_stmt i e) = join (word (codes "let")) (join (name i) (join assigns (join (expr_trees e) semicolon)))
  stmt_trees (check_stmt t) = join (word (codes "let")) (join (word (codes "_")) (join colon (join (type_trees t) semicolon)))
  stmt_trees (import_stmt p) = join (word (codes "use")) (join (path_trees nowhere p) (join (word (codes "as")) (join (word (codes "_")) semicolon)))
  stmt_trees (do_stmt e) = join (expr_trees e) semicolon
  stmt_trees (const_stmt i t base l) =
      join (word (codes "const")) (join (name i) (join colon (join (type_trees t) (join assigns (join (base_trees base) (join (punct 43) (join (syntax.literal l) semicolon)))))))

  pub stmts_trees : StmtTrees → Trees
  stmts_trees no_stmts = no_trees
  stmts_trees (stmt_then s ss) = join (stmt_trees s) (stmts_trees ss)

  -- the statements of a block, and its last expression
  pub inside_trees : BlockTree → Trees
  inside_trees (block ss e) = join (stmts_trees ss) (maybe_trees e)

abbrev pub block_trees : BlockTree → Trees
block_trees b = enclosed Brace (inside_trees b)

abbrev pub arm_trees : ArmTree → Trees
arm_trees a = arm_of (each_pattern a.patterns) (guard_trees a.guard) (body_trees a.body)

-- ---- parameters and predicates

abbrev pub maybe_bounds_trees : Option (Listed BoundTree) → Trees
maybe_bounds_trees None = no_trees
maybe_bounds_trees (Some bs) = join colon (listed 43 nowhere (each_bound nowhere (bounds_of bs.items)) bs.trailing)

abbrev pub maybe_lifetimes_trees : Option (Punctuated Lifetime) → Trees
maybe_lifetimes_trees None = no_trees
maybe_lifetimes_trees (Some ls) = join colon (listed 43 nowhere (map lifetime ls.items) ls.trailing)

abbrev pub default_type_trees : Option TypeTree → Trees
default_type_trees None = no_trees
default_type_trees (Some t) = join assigns (type_trees t)

abbrev pub default_const_trees : Option ConstArg → Trees
default_const_trees None = no_trees
default_const_trees (Some c) = join assigns (const_trees nowhere c)

abbrev pub param_trees : ParamTree → Trees
param_trees (lifetime_param attrs l bounds) = join (attributes_trees attrs) (join (lifetime l) (maybe_lifetimes_trees bounds))
param_trees (type_param attrs i bounds default) =
    join (attributes_trees attrs) (join (name i) (join (maybe_bounds_trees bounds) (default_type_trees default)))
param_trees (const_param attrs i t default) =
    join (attributes_trees attrs) (join (word (codes "const")) (join (name i) (join colon (join (type_trees t) (default_const_trees default)))))

abbrev pub predicate_trees : PredicateTree → Trees
predicate_trees (lifetime_predicate l ls) = join (lifetime l) (maybe_lifetimes_trees (Some ls))
predicate_trees (type_predicate ls t bs) = join (for_trees nowhere ls) (join (type_trees t) (maybe_bounds_trees (Some bs)))

-- ---- items

unfoldable pub private_bounds : Trees
private_bounds = word (codes "private_bounds")

unfoldable pub dead_code : Trees
dead_code = word (codes "dead_code")

unfoldable pub deprecated : Trees
deprecated = word (codes "deprecated")

unfoldable pub unreachable_code : Trees
unreachable_code = word (codes "unreachable_code")

unfoldable pub non_upper_case_globals : Trees
non_upper_case_globals = word (codes "non_upper_case_globals")

unfoldable pub unused_unit : Trees
unused_unit = join (word (codes "clippy")) (join (joint 58 58) (word (codes "unused_unit")))

unfoldable pub automatically_derived : Trees
automatically_derived = word (codes "automatically_derived")

unfoldable pub track_caller : Trees
track_caller = word (codes "track_caller")

abbrev pub allowing : Trees → Trees
allowing lint = join (word (codes "allow")) (enclosed Paren lint)

abbrev pub attr_inside : ItemAttr → Trees
attr_inside attr.AllowPrivateBounds = allowing private_bounds
attr_inside attr.AllowDeadCodePrivateBounds = allowing (join dead_code (join comma private_bounds))
attr_inside attr.AllowDeprecated = allowing deprecated
attr_inside attr.AllowUnreachableCode = allowing unreachable_code
attr_inside attr.AllowNonUpperCaseGlobals = allowing non_upper_case_globals
attr_inside attr.AllowUnusedUnit = allowing unused_unit
attr_inside attr.AutomaticallyDerived = automatically_derived
attr_inside attr.DocHidden = join (word (codes "doc")) (enclosed Paren (word (codes "hidden")))
attr_inside attr.Inline = word (codes "inline")
attr_inside attr.TrackCaller = track_caller

abbrev pub attr_trees : ItemAttr → Trees
attr_trees a = join (punct 35) (enclosed Bracket (attr_inside a))

-- `<` and `>` around the parameters, where there are any
abbrev pub params_trees : List ParamTree → Trees
params_trees [] = no_trees
params_trees (p ∷ ps) = join (punct 60) (join (spaced comma true (map param_trees (p ∷ ps))) (punct 62))

-- `where` and the predicates, where there are any
abbrev pub where_trees : List PredicateTree → Trees
where_trees [] = no_trees
where_trees (p ∷ ps) = join (word (codes "where")) (spaced comma true (map predicate_trees (p ∷ ps)))

abbrev pub trait_trees : Option PathTree → Trees
trait_trees None = no_trees
trait_trees (Some p) = join (path_trees nowhere p) (word (codes "for"))

abbrev pub assoc_trees : AssocTree → Trees
assoc_trees a = join (word (codes "type")) (join (name a.name) (join assigns (join (type_trees a.ty) semicolon)))

abbrev pub receiver_trees : Receiver → Trees
receiver_trees receiver.Value = word (codes "self")
receiver_trees receiver.Ref = join (punct 38) (word (codes "self"))
receiver_trees receiver.RefMut = join (punct 38) (join (word (codes "mut")) (word (codes "self")))

abbrev pub method_param_trees : ParamOfMethod → Trees
method_param_trees p = join (name p.name) (join colon (type_trees p.ty))

-- the receiver and the parameter, with a comma between where both are there
abbrev pub inputs_trees : Option Receiver → Option ParamOfMethod → Trees
inputs_trees None None = no_trees
inputs_trees None (Some p) = method_param_trees p
inputs_trees (Some r) None = receiver_trees r
inputs_trees (Some r) (Some p) = join (receiver_trees r) (join comma (method_param_trees p))

abbrev pub output_trees : Option TypeTree → Trees
output_trees None = no_trees
output_trees (Some t) = join (joint 45 62) (type_trees t)

-- all of a method in front of its body
abbrev pub signature_trees : MethodTree → Trees
signature_trees m =
    join (in_turn (map attr_trees m.attrs)) (join (given m.is_const (word (codes "const"))) (join (word (codes "fn")) (join (name m.name)
    (join (enclosed Paren (inputs_trees m.receiver m.param)) (output_trees m.output)))))

abbrev pub method_trees : MethodTree → Trees
method_trees m = join (signature_trees m) (block_trees m.body)

-- all of an implementation in front of its brace
abbrev pub head_trees : ItemTree → Trees
head_trees i =
    join (in_turn (map attr_trees i.attrs)) (join (word (codes "impl")) (join (params_trees i.params) (join (trait_trees i.trait_path)
    (join (type_trees i.ty) (where_trees i.predicates)))))

abbrev pub item_trees : ItemTree → Trees
item_trees i = join (head_trees i) (enclosed Brace (join (in_turn (map assoc_trees i.assocs)) (in_turn (map method_trees i.methods))))

-- the text of items: each is laid out, and LF ends it
abbrev pub printed : List ItemTree → List ℕ
printed [] = []
printed (i ∷ is) = layout (item_trees i) ++ 10 ∷ printed is
