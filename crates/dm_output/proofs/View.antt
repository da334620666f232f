-- The equations of the views, one for each variant.
use Rattle.std.proofs.Common.{◌≡◌, List, map, Bool, Option, Some, None, option_map, refl, sym, ap, ◌∙◌}
use Rattle.std.proofs.lemmas.Grind.{common_steps}
use Rattle.std.specs.declared.boxed.Box.{Box}
use Rattle.std.specs.declared.alloc.Global.{Global}
use Rattle.dm_stream.specs.declared.tokens.Ident.{Ident}
use Rattle.dm_stream.specs.declared.tokens.Literal.{Literal}
use Rattle.dm_ast.specs.declared.plain.Opaque.{Opaque}
use Rattle.dm_ast.specs.declared.ty.Path.{Path}
use Rattle.dm_ast.specs.declared.ty.Ty.{Ty}
use Rattle.dm_ast.specs.Tree.{ty_view, path_view, maybe_self_view}
use Rattle.dm_ast.proofs.View as syntax
use Rattle.dm_output.specs.declared.pattern.Binding.{Binding}
use Rattle.dm_output.specs.declared.pattern.Pattern.{Pattern}
use Rattle.dm_output.specs.declared.pattern.Pattern.TheVariants as p
use Rattle.dm_output.specs.declared.pattern.Pattern.TheOpen as open_p
use Rattle.dm_output.specs.declared.pattern.Pattern.TheFolds.{map-Pattern, fold-roll-Pattern, fold-roll-NamedPattern, fold_out-NamedPattern}
use Rattle.dm_output.specs.declared.pattern.Pattern.TheViews.{roll-Pattern, out-NamedPattern, roll-NamedPattern}
use Rattle.dm_output.specs.declared.pattern.NamedPattern.{NamedPattern}
use Rattle.dm_output.specs.declared.expr.Expr.{Expr}
use Rattle.dm_output.specs.declared.expr.Expr.TheVariants as e
use Rattle.dm_output.specs.declared.expr.Member.{Member}
use Rattle.dm_output.specs.declared.expr.FmtArgs.{FmtArgs}
use Rattle.dm_output.specs.declared.expr.NamedExpr.{NamedExpr}
use Rattle.dm_output.specs.declared.expr.Block.{Block}
use Rattle.dm_output.specs.declared.expr.Stmt.{Stmt}
use Rattle.dm_output.specs.declared.expr.Stmt.TheVariants as s
use Rattle.dm_output.specs.declared.expr.Arm.{Arm}
use Rattle.dm_output.specs.declared.expr.ArmBody.{ArmBody}
use Rattle.dm_output.specs.declared.expr.ArmBody.TheVariants as b
use Rattle.dm_output.specs.declared.expr.PathExpr.{PathExpr}
use Rattle.dm_output.specs.declared.expr.ArmBody.TheOpen as open'
use Rattle.dm_output.specs.declared.expr.ArmBody.TheOpen.{Expr-F, Block-F, Stmt-F, Arm-F, ArmBody-F, NamedExpr-F}
use Rattle.dm_output.specs.declared.expr.ArmBody.TheViews.{roll-Expr, roll-ArmBody, roll-Stmt, out-NamedExpr, out-Arm, out-Block, roll-NamedExpr, roll-Arm, roll-Block}
use Rattle.dm_output.specs.declared.expr.ArmBody.TheFolds.{map-Expr, map-ArmBody, map-Stmt, map-Arm, map-Block, fold-roll-Expr, fold-roll-Block, fold-roll-Stmt, fold-roll-Arm, fold-roll-ArmBody, fold-roll-NamedExpr, fold_out-Arm, fold_out-Block, fold_out-NamedExpr}
use Rattle.dm_output.specs.Output.{PatternTree, wild, bind, str_pattern, path_pattern, tuple_pattern, named_pattern, pair_pattern, patterns_of, named_of, ExprTree, return_expr, or_expr, and_expr, equal, unequal, ref_opaque, ref_expr, deref, member, method_call, map_expr, map_err, question, path_expr, call, build, build_named, paren, tuple, opaque_call, str_expr, bool, match_expr, unsafe_expr, write_expr, format_args, MaybeExpr, no_expr, some_expr, exprs_of, named_exprs_of, maybe_expr, ArmTree, arms_of, ArmBodyTree, block_body, expr_body, StmtTree, let_stmt, check_stmt, import_stmt, do_stmt, const_stmt, stmts_of, BlockTree, block}
use Rattle.dm_output.specs.Views.{opaque_view, fmt_view, pattern_step, named_step, expr_step, body_step, stmt_step, arm_step, block_step, named_expr_step, pattern_view, named_view, expr_view, block_view, arm_view, body_view, stmt_view, named_expr_view}

-- a last expression in its box
abbrev pub boxed_view : Option (Box Expr Global) → MaybeExpr
boxed_view None = no_expr
boxed_view (Some x) = some_expr (expr_view x.value)

-- ---- one layer of a tree, and the views of the trees in it

expr_rolled : (x : Expr-F ArmBody Expr Stmt Arm Block NamedExpr) →
    expr_view (roll-Expr x) ≡
    expr_step (map-Expr ArmBody Expr Stmt Arm Block NamedExpr ArmBodyTree ExprTree StmtTree ArmTree BlockTree (Ident × ExprTree) body_view
    expr_view stmt_view arm_view block_view named_expr_view x)
unfolding expr_view block_view arm_view body_view stmt_view named_expr_view
expr_rolled x = fold-roll-Expr ArmBodyTree ExprTree StmtTree ArmTree BlockTree (Ident × ExprTree) body_step expr_step stmt_step arm_step
    block_step named_expr_step x

body_rolled : (x : ArmBody-F ArmBody Expr Stmt Arm Block NamedExpr) →
    body_view (roll-ArmBody x) ≡
    body_step (map-ArmBody ArmBody Expr Stmt Arm Block NamedExpr ArmBodyTree ExprTree StmtTree ArmTree BlockTree (Ident × ExprTree)
    body_view expr_view stmt_view arm_view block_view named_expr_view x)
unfolding expr_view block_view arm_view body_view stmt_view named_expr_view
body_rolled x = fold-roll-ArmBody ArmBodyTree ExprTree StmtTree ArmTree BlockTree (Ident × ExprTree) body_step expr_step stmt_step
    arm_step block_step named_expr_step x

stmt_rolled : (x : Stmt-F ArmBody Expr Stmt Arm Block NamedExpr) →
    stmt_view (roll-Stmt x) ≡
    stmt_step (map-Stmt ArmBody Expr Stmt Arm Block NamedExpr ArmBodyTree ExprTree StmtTree ArmTree BlockTree (Ident × ExprTree) body_view
    expr_view stmt_view arm_view block_view named_expr_view x)
unfolding expr_view block_view arm_view body_view stmt_view named_expr_view
stmt_rolled x = fold-roll-Stmt ArmBodyTree ExprTree StmtTree ArmTree BlockTree (Ident × ExprTree) body_step expr_step stmt_step arm_step
    block_step named_expr_step x

pattern_rolled : (x : open_p.Pattern-F Pattern NamedPattern) →
    pattern_view (roll-Pattern x) ≡ pattern_step (map-Pattern Pattern NamedPattern PatternTree (Ident × PatternTree) pattern_view
    named_view x)
unfolding pattern_view named_view
pattern_rolled x = fold-roll-Pattern PatternTree (Ident × PatternTree) pattern_step named_step x

-- ---- variants

pub view_Expr-Return : (x : Box Expr Global) → expr_view (e.Return x) ≡ return_expr (expr_view x.value)
view_Expr-Return x = ap expr_view (sym (e.rolls-Return x)) ∙ expr_rolled (open'.Return x)

pub view_Expr-Or : (es : List Expr) → expr_view (e.Or es) ≡ or_expr (exprs_of (map expr_view es))
view_Expr-Or es = ap expr_view (sym (e.rolls-Or es)) ∙ expr_rolled (open'.Or es)

pub view_Expr-And : (es : List Expr) → expr_view (e.And es) ≡ and_expr (exprs_of (map expr_view es))
view_Expr-And es = ap expr_view (sym (e.rolls-And es)) ∙ expr_rolled (open'.And es)

pub view_Expr-Equal : (x : Box Expr Global) (y : Box Expr Global) → expr_view (e.Equal x y) ≡ equal (expr_view x.value) (expr_view y.value)
view_Expr-Equal x y = ap expr_view (sym (e.rolls-Equal x y)) ∙ expr_rolled (open'.Equal x y)

pub view_Expr-Unequal : (x : Box Expr Global) (y : Box Expr Global) →
    expr_view (e.Unequal x y) ≡
    unequal (expr_view x.value) (expr_view y.value)
view_Expr-Unequal x y = ap expr_view (sym (e.rolls-Unequal x y)) ∙ expr_rolled (open'.Unequal x y)

pub view_Expr-RefOpaque : (o : Opaque) → expr_view (e.RefOpaque o) ≡ ref_opaque (opaque_view o)
view_Expr-RefOpaque o = ap expr_view (sym (e.rolls-RefOpaque o)) ∙ expr_rolled (open'.RefOpaque o)

pub view_Expr-Ref : (m : Bool) (x : Box Expr Global) → expr_view (e.Ref m x) ≡ ref_expr m (expr_view x.value)
view_Expr-Ref m x = ap expr_view (sym (e.rolls-Ref m x)) ∙ expr_rolled (open'.Ref m x)

pub view_Expr-Deref : (x : Box Expr Global) → expr_view (e.Deref x) ≡ deref (expr_view x.value)
view_Expr-Deref x = ap expr_view (sym (e.rolls-Deref x)) ∙ expr_rolled (open'.Deref x)

pub view_Expr-Member : (x : Box Expr Global) (m : Member) → expr_view (e.Member x m) ≡ member (expr_view x.value) m
view_Expr-Member x m = ap expr_view (sym (e.rolls-Member x m)) ∙ expr_rolled (open'.Member x m)

pub view_Expr-MethodCall : (x : Box Expr Global) (i : Ident) (es : List Expr) →
    expr_view (e.MethodCall x i es) ≡
    method_call (expr_view x.value) i (exprs_of (map expr_view es))
view_Expr-MethodCall x i es = ap expr_view (sym (e.rolls-MethodCall x i es)) ∙ expr_rolled (open'.MethodCall x i es)

pub view_Expr-Map : (x : Box Expr Global) (y : Box Expr Global) → expr_view (e.Map x y) ≡ map_expr (expr_view x.value) (expr_view y.value)
view_Expr-Map x y = ap expr_view (sym (e.rolls-Map x y)) ∙ expr_rolled (open'.Map x y)

pub view_Expr-MapErr : (x : Box Expr Global) (o : Opaque) → expr_view (e.MapErr x o) ≡ map_err (expr_view x.value) (opaque_view o)
view_Expr-MapErr x o = ap expr_view (sym (e.rolls-MapErr x o)) ∙ expr_rolled (open'.MapErr x o)

pub view_Expr-Question : (x : Box Expr Global) → expr_view (e.Question x) ≡ question (expr_view x.value)
view_Expr-Question x = ap expr_view (sym (e.rolls-Question x)) ∙ expr_rolled (open'.Question x)

pub view_Expr-Path : (q : PathExpr) → expr_view (e.Path q) ≡ path_expr (maybe_self_view q.qself) (path_view q.path)
view_Expr-Path q = ap expr_view (sym (e.rolls-Path q)) ∙ expr_rolled (open'.Path q)

pub view_Expr-Call : (q : PathExpr) (es : List Expr) →
    expr_view (e.Call q es) ≡
    call (maybe_self_view q.qself) (path_view q.path) (exprs_of (map expr_view es))
view_Expr-Call q es = ap expr_view (sym (e.rolls-Call q es)) ∙ expr_rolled (open'.Call q es)

pub view_Expr-Build : (q : PathExpr) (es : List Expr) →
    expr_view (e.Build q es) ≡
    build (maybe_self_view q.qself) (path_view q.path) (exprs_of (map expr_view es))
view_Expr-Build q es = ap expr_view (sym (e.rolls-Build q es)) ∙ expr_rolled (open'.Build q es)

pub view_Expr-BuildNamed : (q : PathExpr) (es : List NamedExpr) →
    expr_view (e.BuildNamed q es) ≡
    build_named (maybe_self_view q.qself) (path_view q.path) (named_exprs_of (map named_expr_view es))
view_Expr-BuildNamed q es = ap expr_view (sym (e.rolls-BuildNamed q es)) ∙ expr_rolled (open'.BuildNamed q es)

pub view_Expr-Paren : (x : Box Expr Global) → expr_view (e.Paren x) ≡ paren (expr_view x.value)
view_Expr-Paren x = ap expr_view (sym (e.rolls-Paren x)) ∙ expr_rolled (open'.Paren x)

pub view_Expr-Tuple : (es : List Expr) → expr_view (e.Tuple es) ≡ tuple (exprs_of (map expr_view es))
view_Expr-Tuple es = ap expr_view (sym (e.rolls-Tuple es)) ∙ expr_rolled (open'.Tuple es)

pub view_Expr-OpaqueCall : (o : Opaque) (x : Box Expr Global) →
    expr_view (e.OpaqueCall o x) ≡
    opaque_call (opaque_view o) (expr_view x.value)
view_Expr-OpaqueCall o x = ap expr_view (sym (e.rolls-OpaqueCall o x)) ∙ expr_rolled (open'.OpaqueCall o x)

pub view_Expr-Str : (l : Literal) → expr_view (e.Str l) ≡ str_expr l
view_Expr-Str l = ap expr_view (sym (e.rolls-Str l)) ∙ expr_rolled (open'.Str l)

pub view_Expr-Bool : (x : Bool) → expr_view (e.Bool x) ≡ bool x
view_Expr-Bool x = ap expr_view (sym (e.rolls-Bool x)) ∙ expr_rolled (open'.Bool x)

pub view_Expr-Match : (x : Box Expr Global) (arms : List Arm) →
    expr_view (e.Match x arms) ≡
    match_expr (expr_view x.value) (arms_of (map arm_view arms))
view_Expr-Match x arms = ap expr_view (sym (e.rolls-Match x arms)) ∙ expr_rolled (open'.Match x arms)

pub view_Expr-Unsafe : (x : Box Expr Global) → expr_view (e.Unsafe x) ≡ unsafe_expr (expr_view x.value)
view_Expr-Unsafe x = ap expr_view (sym (e.rolls-Unsafe x)) ∙ expr_rolled (open'.Unsafe x)

pub view_Expr-Write : (i : Ident) (f : FmtArgs) → expr_view (e.Write i f) ≡ write_expr i (fmt_view f)
view_Expr-Write i f = ap expr_view (sym (e.rolls-Write i f)) ∙ expr_rolled (open'.Write i f)

pub view_Expr-FormatArgs : (f : FmtArgs) → expr_view (e.FormatArgs f) ≡ format_args (fmt_view f)
view_Expr-FormatArgs f = ap expr_view (sym (e.rolls-FormatArgs f)) ∙ expr_rolled (open'.FormatArgs f)

pub view_ArmBody-Block : (x : Block) → body_view (b.Block x) ≡ block_body (block_view x)
view_ArmBody-Block x = ap body_view (sym (b.rolls-Block x)) ∙ body_rolled (open'.Block x)

pub view_ArmBody-Expr : (x : Expr) → body_view (b.Expr x) ≡ expr_body (expr_view x)
view_ArmBody-Expr x = ap body_view (sym (b.rolls-Expr x)) ∙ body_rolled (open'.«ArmBody::Expr» x)

pub view_Stmt-Let : (name : Ident) (x : Expr) → stmt_view (s.Let name x) ≡ let_stmt name (expr_view x)
view_Stmt-Let name x = ap stmt_view (sym (s.rolls-Let name x)) ∙ stmt_rolled (open'.Let name x)

pub view_Stmt-Check : (t : Ty) → stmt_view (s.Check t) ≡ check_stmt (ty_view t)
view_Stmt-Check t = ap stmt_view (sym (s.rolls-Check t)) ∙ stmt_rolled (open'.Check t)

pub view_Stmt-Import : (q : Path) → stmt_view (s.Import q) ≡ import_stmt (path_view q)
view_Stmt-Import q = ap stmt_view (sym (s.rolls-Import q)) ∙ stmt_rolled (open'.Import q)

pub view_Stmt-Expr : (x : Expr) → stmt_view (s.Expr x) ≡ do_stmt (expr_view x)
view_Stmt-Expr x = ap stmt_view (sym (s.rolls-Expr x)) ∙ stmt_rolled (open'.«Stmt::Expr» x)

pub view_Stmt-Const : (name : Ident) (t : Ty) (base : Option Opaque) (l : Literal) →
    stmt_view (s.Const name t base l) ≡
    const_stmt name (ty_view t) (option_map opaque_view base) l
view_Stmt-Const name t base l = ap stmt_view (sym (s.rolls-Const name t base l)) ∙ stmt_rolled (open'.Const name t base l)

pub view_Pattern-Wild : pattern_view p.Wild ≡ wild
view_Pattern-Wild = ap pattern_view (sym p.rolls-Wild) ∙ pattern_rolled open_p.Wild

pub view_Pattern-Bind : (how : Binding) (name : Ident) → pattern_view (p.Bind how name) ≡ bind how name
view_Pattern-Bind how name = ap pattern_view (sym (p.rolls-Bind how name)) ∙ pattern_rolled (open_p.Bind how name)

pub view_Pattern-Str : (l : Literal) → pattern_view (p.Str l) ≡ str_pattern l
view_Pattern-Str l = ap pattern_view (sym (p.rolls-Str l)) ∙ pattern_rolled (open_p.Str l)

pub view_Pattern-Path : (q : Path) → pattern_view (p.Path q) ≡ path_pattern (path_view q)
view_Pattern-Path q = ap pattern_view (sym (p.rolls-Path q)) ∙ pattern_rolled (open_p.Path q)

pub view_Pattern-Tuple : (q : Path) (ps : List Pattern) →
    pattern_view (p.Tuple q ps) ≡
    tuple_pattern (path_view q) (patterns_of (map pattern_view ps))
view_Pattern-Tuple q ps = ap pattern_view (sym (p.rolls-Tuple q ps)) ∙ pattern_rolled (open_p.Tuple q ps)

pub view_Pattern-Named : (q : Path) (ps : List NamedPattern) (rest : Bool) →
    pattern_view (p.Named q ps rest) ≡
    named_pattern (path_view q) (named_of (map named_view ps)) rest
view_Pattern-Named q ps rest = ap pattern_view (sym (p.rolls-Named q ps rest)) ∙ pattern_rolled (open_p.Named q ps rest)

pub view_Pattern-Pair : (x : Box Pattern Global) (y : Box Pattern Global) →
    pattern_view (p.Pair x y) ≡
    pair_pattern (pattern_view x.value) (pattern_view y.value)
view_Pattern-Pair x y = ap pattern_view (sym (p.rolls-Pair x y)) ∙ pattern_rolled (open_p.Pair x y)

-- ---- structs that are built

pub view_roll-NamedPattern : (i : Ident) (q : Pattern) → named_view (roll-NamedPattern (record { name = i; pattern = q })) ≡
    (i, pattern_view q)
unfolding pattern_view named_view
view_roll-NamedPattern i q = fold-roll-NamedPattern PatternTree (Ident × PatternTree) pattern_step named_step (record
    { name = i; pattern = q })

pub view_roll-NamedExpr : (i : Ident) (x : Expr) → named_expr_view (roll-NamedExpr (record { name = i; value = x })) ≡ (i, expr_view x)
unfolding expr_view block_view arm_view body_view stmt_view named_expr_view
view_roll-NamedExpr i x = fold-roll-NamedExpr ArmBodyTree ExprTree StmtTree ArmTree BlockTree (Ident × ExprTree) body_step expr_step
    stmt_step arm_step block_step named_expr_step (record { name = i; value = x })

pub view_roll-Arm : (ps : List Pattern) (g : Option Expr) (z : ArmBody) →
    arm_view (roll-Arm (record { patterns = ps; guard = g; body = z })) ≡
    record { patterns = patterns_of (map pattern_view ps); guard = maybe_expr (option_map expr_view g); body = body_view z }
unfolding expr_view block_view arm_view body_view stmt_view named_expr_view
view_roll-Arm ps None z = fold-roll-Arm ArmBodyTree ExprTree StmtTree ArmTree BlockTree (Ident × ExprTree) body_step expr_step stmt_step
    arm_step block_step named_expr_step (record { patterns = ps; guard = None; body = z })
view_roll-Arm ps (Some x) z = fold-roll-Arm ArmBodyTree ExprTree StmtTree ArmTree BlockTree (Ident × ExprTree) body_step expr_step
    stmt_step arm_step block_step named_expr_step (record { patterns = ps; guard = (Some x); body = z })

pub view_roll-Block : (ss : List Stmt) (l : Option (Box Expr Global)) →
    block_view (roll-Block (record { stmts = ss; last = l })) ≡ block (stmts_of (map stmt_view ss)) (boxed_view l)
unfolding expr_view block_view arm_view body_view stmt_view named_expr_view
view_roll-Block ss None = fold-roll-Block ArmBodyTree ExprTree StmtTree ArmTree BlockTree (Ident × ExprTree) body_step expr_step stmt_step
    arm_step block_step named_expr_step (record { stmts = ss; last = None })
view_roll-Block ss (Some x) = fold-roll-Block ArmBodyTree ExprTree StmtTree ArmTree BlockTree (Ident × ExprTree) body_step expr_step
    stmt_step arm_step block_step named_expr_step (record { stmts = ss; last = (Some x) })

-- ---- structs that are read

pub view-NamedPattern : (q : NamedPattern) → named_view q ≡ ((out-NamedPattern q).name, pattern_view (out-NamedPattern q).pattern)
unfolding pattern_view named_view
view-NamedPattern q = fold_out-NamedPattern PatternTree (Ident × PatternTree) pattern_step named_step q

pub view-NamedExpr : (q : NamedExpr) → named_expr_view q ≡ ((out-NamedExpr q).name, expr_view (out-NamedExpr q).value)
unfolding expr_view block_view arm_view body_view stmt_view named_expr_view
view-NamedExpr q = fold_out-NamedExpr ArmBodyTree ExprTree StmtTree ArmTree BlockTree (Ident × ExprTree) body_step expr_step stmt_step
    arm_step block_step named_expr_step q

arm_layer : (ps : List Pattern) (g : Option Expr) (z : ArmBody) →
    arm_step (map-Arm ArmBody Expr Stmt Arm Block NamedExpr ArmBodyTree ExprTree StmtTree ArmTree BlockTree (Ident × ExprTree) body_view
    expr_view stmt_view arm_view block_view named_expr_view (record { patterns = ps; guard = g; body = z })) ≡
    record { patterns = patterns_of (map pattern_view ps); guard = maybe_expr (option_map expr_view g); body = body_view z }
arm_layer ps None z = refl
arm_layer ps (Some x) z = refl

pub view-Arm : (a : Arm) →
    arm_view a ≡
    record {
      patterns = patterns_of (map pattern_view (out-Arm a).patterns);
      guard = maybe_expr (option_map expr_view (out-Arm a).guard);
      body = body_view (out-Arm a).body;
    }
unfolding expr_view block_view arm_view body_view stmt_view named_expr_view
view-Arm a = fold_out-Arm ArmBodyTree ExprTree StmtTree ArmTree BlockTree (Ident × ExprTree) body_step expr_step stmt_step arm_step
    block_step named_expr_step a ∙ arm_layer (out-Arm a).patterns (out-Arm a).guard (out-Arm a).body

block_layer : (ss : List Stmt) (l : Option (Box Expr Global)) →
    block_step (map-Block ArmBody Expr Stmt Arm Block NamedExpr ArmBodyTree ExprTree StmtTree ArmTree BlockTree (Ident × ExprTree)
    body_view expr_view stmt_view arm_view block_view named_expr_view (record { stmts = ss; last = l })) ≡
    block (stmts_of (map stmt_view ss)) (boxed_view l)
block_layer ss None = refl
block_layer ss (Some x) = refl

pub view-Block : (x : Block) → block_view x ≡ block (stmts_of (map stmt_view (out-Block x).stmts)) (boxed_view (out-Block x).last)
unfolding expr_view block_view arm_view body_view stmt_view named_expr_view
view-Block x = fold_out-Block ArmBodyTree ExprTree StmtTree ArmTree BlockTree (Ident × ExprTree) body_step expr_step stmt_step arm_step
    block_step named_expr_step x ∙ block_layer (out-Block x).stmts (out-Block x).last

-- every equation of a view of this crate, and of the syntax tree's
pub ruleset views = (
  view_Expr-Return,
  view_Expr-Or,
  view_Expr-And,
  view_Expr-Equal,
  view_Expr-Unequal,
  view_Expr-RefOpaque,
  view_Expr-Ref,
  view_Expr-Deref,
  view_Expr-Member,
  view_Expr-MethodCall,
  view_Expr-Map,
  view_Expr-MapErr,
  view_Expr-Question,
  view_Expr-Path,
  view_Expr-Call,
  view_Expr-Build,
  view_Expr-BuildNamed,
  view_Expr-Paren,
  view_Expr-Tuple,
  view_Expr-OpaqueCall,
  view_Expr-Str,
  view_Expr-Bool,
  view_Expr-Match,
  view_Expr-Unsafe,
  view_Expr-Write,
  view_Expr-FormatArgs,
  view_ArmBody-Block,
  view_ArmBody-Expr,
  view_Stmt-Let,
  view_Stmt-Check,
  view_Stmt-Import,
  view_Stmt-Expr,
  view_Stmt-Const,
  view_Pattern-Wild,
  view_Pattern-Bind,
  view_Pattern-Str,
  view_Pattern-Path,
  view_Pattern-Tuple,
  view_Pattern-Named,
  view_Pattern-Pair,
  view_roll-NamedPattern,
  view_roll-NamedExpr,
  view_roll-Arm,
  view_roll-Block,
  view-NamedPattern,
  view-NamedExpr,
  view-Arm,
  view-Block,
  syntax.views,
)

-- the same with the usual steps
pub ruleset view_steps = (common_steps, views)
