-- The output language, as plain data: trees of the program without what their memory adds. Parts that are not read are the trees of
-- their tokens.
use Rattle.std.specs.Prelude.{List, [], ◌∷◌, Bool, Option, Some, None}
use Rattle.std.specs.declared.boxed.Box.{Box}
use Rattle.std.specs.declared.alloc.Global.{Global}
use Rattle.dm_stream.specs.declared.tokens.Ident.{Ident}
use Rattle.dm_stream.specs.declared.tokens.Literal.{Literal}
use Rattle.dm_stream.specs.Trees.{Trees}
use Rattle.dm_ast.specs.Tree.{TypeTree, PathTree, MaybeSelf}
use Rattle.dm_ast.specs.Declarations.{ParamTree, PredicateTree}
use Rattle.dm_output.specs.declared.pattern.Binding.{Binding}
use Rattle.dm_output.specs.declared.expr.Member.{Member}
use Rattle.dm_output.specs.declared.item.ItemAttr.{ItemAttr}
use Rattle.dm_output.specs.declared.item.Receiver.{Receiver}

-- an argument of a format: its name, where it has one, and its tokens
pub record FmtArgTree : Type 0 where
  pub alias : Option Ident
  pub value : Trees

-- a format and its arguments
pub record FmtTree : Type 0 where
  pub lit : Literal
  pub args : List FmtArgTree

mutual
  pub data PatternTree : Type 0 where
    wild : PatternTree
    bind : Binding → Ident → PatternTree
    str_pattern : Literal → PatternTree
    path_pattern : PathTree → PatternTree
    tuple_pattern : PathTree → PatternTrees → PatternTree
    named_pattern : PathTree → NamedPatterns → Bool → PatternTree
    pair_pattern : PatternTree → PatternTree → PatternTree

  pub data PatternTrees : Type 0 where
    no_patterns : PatternTrees
    pattern_then : PatternTree → PatternTrees → PatternTrees

  pub data NamedPatterns : Type 0 where
    no_named : NamedPatterns
    named_then : Ident → PatternTree → NamedPatterns → NamedPatterns

mutual
  pub data ExprTree : Type 0 where
    return_expr : ExprTree → ExprTree
    or_expr : ExprTrees → ExprTree
    and_expr : ExprTrees → ExprTree
    equal : ExprTree → ExprTree → ExprTree
    unequal : ExprTree → ExprTree → ExprTree
    ref_opaque : Trees → ExprTree
    ref_expr : Bool → ExprTree → ExprTree
    deref : ExprTree → ExprTree
    member : ExprTree → Member → ExprTree
    method_call : ExprTree → Ident → ExprTrees → ExprTree
    map_expr : ExprTree → ExprTree → ExprTree
    map_err : ExprTree → Trees → ExprTree
    question : ExprTree → ExprTree
    path_expr : MaybeSelf → PathTree → ExprTree
    call : MaybeSelf → PathTree → ExprTrees → ExprTree
    build : MaybeSelf → PathTree → ExprTrees → ExprTree
    build_named : MaybeSelf → PathTree → NamedExprs → ExprTree
    paren : ExprTree → ExprTree
    tuple : ExprTrees → ExprTree
    opaque_call : Trees → ExprTree → ExprTree
    str_expr : Literal → ExprTree
    bool : Bool → ExprTree
    match_expr : ExprTree → ArmTrees → ExprTree
    unsafe_expr : ExprTree → ExprTree
    write_expr : Ident → FmtTree → ExprTree
    format_args : FmtTree → ExprTree

  pub data ExprTrees : Type 0 where
    no_exprs : ExprTrees
    expr_then : ExprTree → ExprTrees → ExprTrees

  pub data NamedExprs : Type 0 where
    no_named_exprs : NamedExprs
    named_expr_then : Ident → ExprTree → NamedExprs → NamedExprs

  pub data MaybeExpr : Type 0 where
    no_expr : MaybeExpr
    some_expr : ExprTree → MaybeExpr

  -- an arm has its patterns, its guard and its body
  pub data ArmTrees : Type 0 where
    no_arms : ArmTrees
    arm_then : PatternTrees → MaybeExpr → ArmBodyTree → ArmTrees → ArmTrees

  pub data ArmBodyTree : Type 0 where
    block_body : BlockTree → ArmBodyTree
    expr_body : ExprTree → ArmBodyTree

  pub data StmtTree : Type 0 where
    let_stmt : Ident → ExprTree → StmtTree
    check_stmt : TypeTree → StmtTree
    import_stmt : PathTree → StmtTree
    do_stmt : ExprTree → StmtTree
    const_stmt : Ident → TypeTree → Option Trees → Literal → StmtTree

  pub data StmtTrees : Type 0 where
    no_stmts : StmtTrees
    stmt_then : StmtTree → StmtTrees → StmtTrees

  -- statements, and a last expression
  pub data BlockTree : Type 0 where
    block : StmtTrees → MaybeExpr → BlockTree

pub record ArmTree : Type 0 where
  pub patterns : PatternTrees
  pub guard : MaybeExpr
  pub body : ArmBodyTree

pub record AssocTree : Type 0 where
  pub name : Ident
  pub ty : TypeTree

pub record ParamOfMethod : Type 0 where
  pub name : Ident
  pub ty : TypeTree

pub record MethodTree : Type 0 where
  pub attrs : List ItemAttr
  pub is_const : Bool
  pub name : Ident
  pub receiver : Option Receiver
  pub param : Option ParamOfMethod
  pub output : Option TypeTree
  pub body : BlockTree

pub record ItemTree : Type 0 where
  pub attrs : List ItemAttr
  pub params : List ParamTree
  pub trait_path : Option PathTree
  pub ty : TypeTree
  pub predicates : List PredicateTree
  pub assocs : List AssocTree
  pub methods : List MethodTree

-- ---- lists of the program as lists of the data

abbrev pub patterns_of : List PatternTree → PatternTrees
patterns_of [] = no_patterns
patterns_of (p ∷ ps) = pattern_then p (patterns_of ps)

abbrev pub named_of : List (Ident × PatternTree) → NamedPatterns
named_of [] = no_named
named_of (p ∷ ps) = named_then p.0 p.1 (named_of ps)

abbrev pub exprs_of : List ExprTree → ExprTrees
exprs_of [] = no_exprs
exprs_of (e ∷ es) = expr_then e (exprs_of es)

abbrev pub named_exprs_of : List (Ident × ExprTree) → NamedExprs
named_exprs_of [] = no_named_exprs
named_exprs_of (e ∷ es) = named_expr_then e.0 e.1 (named_exprs_of es)

abbrev pub maybe_expr : Option ExprTree → MaybeExpr
maybe_expr None = no_expr
maybe_expr (Some e) = some_expr e

abbrev pub boxed_expr : Option (Box ExprTree Global) → MaybeExpr
boxed_expr None = no_expr
boxed_expr (Some b) = some_expr b.value

abbrev pub arms_of : List ArmTree → ArmTrees
arms_of [] = no_arms
arms_of (a ∷ as') = arm_then a.patterns a.guard a.body (arms_of as')

abbrev pub stmts_of : List StmtTree → StmtTrees
stmts_of [] = no_stmts
stmts_of (s ∷ ss) = stmt_then s (stmts_of ss)

-- a block of an expression alone, or of nothing
abbrev pub last_expr : MaybeExpr → BlockTree
last_expr e = block no_stmts e
