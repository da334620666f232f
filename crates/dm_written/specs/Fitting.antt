-- Which implementations a text can have: those whose names and literals are spellable, and whose types, paths and opaque parts are writable
-- and of no more levels than there are. Words and puncts of the language ask nothing, and each group takes a level.
use Rattle.std.specs.Prelude.{ℕ, ◌-◌, ◌<◌, List, [], ◌∷◌, map, Option, Some, None, ⊤}
use Rattle.dm_stream.specs.declared.tokens.Token.TheVariants as t
use Rattle.dm_stream.specs.declared.tokens.Ident.{Ident}
use Rattle.dm_stream.specs.Trees.{Trees}
use Rattle.dm_stream.specs.Layout.{nowhere}
use Rattle.dm_lexer.specs.Written.{IsSpellable, AreWritable, AllAreWritable, AreShallowWithin}
use Rattle.dm_ast.specs.Tree.{TypeTree, PathTree}
use Rattle.dm_ast.specs.TypeTokens.{type_trees, path_trees}
use Rattle.dm_output.specs.Output.{FmtArgTree, FmtTree, PatternTree, wild, bind, str_pattern, path_pattern, tuple_pattern, named_pattern, pair_pattern, PatternTrees, no_patterns, pattern_then, NamedPatterns, no_named, named_then, ExprTree, return_expr, or_expr, and_expr, equal, unequal, ref_opaque, ref_expr, deref, member, method_call, map_expr, map_err, question, path_expr, call, build, build_named, paren, tuple, opaque_call, str_expr, bool, match_expr, unsafe_expr, write_expr, format_args, ExprTrees, no_exprs, expr_then, NamedExprs, no_named_exprs, named_expr_then, MaybeExpr, no_expr, some_expr, ArmTrees, no_arms, arm_then, ArmBodyTree, block_body, expr_body, StmtTree, let_stmt, check_stmt, import_stmt, do_stmt, const_stmt, StmtTrees, no_stmts, stmt_then, BlockTree, block, AssocTree, ParamOfMethod, MethodTree, ItemTree}
use Rattle.dm_output.specs.Tokens.{in_turn, path_expr_trees, param_trees, predicate_trees, item_trees}
use Rattle.dm_output.specs.declared.expr.Member.{Member}
use Rattle.dm_output.specs.declared.expr.Member.TheVariants as m
use Rattle.dm_output.specs.declared.item.ItemAttr.{ItemAttr}
use Rattle.dm_output.specs.declared.item.ItemAttr.TheVariants as attr

-- a text can have these trees, and no token of them stands inside more than n groups
pub record Fits (n : ℕ) (ts : Trees) : Type 0 where
  pub writable : AreWritable ts
  pub shallow : AreShallowWithin n ts

-- P holds of each
abbrev pub Each : {A : Type 0} → (A → Type 0) → List A → Type 0
Each P [] = ⊤
Each P (a ∷ more) = P a × Each P more

-- P holds of what is there
abbrev pub IfThere : {A : Type 0} → (A → Type 0) → Option A → Type 0
IfThere P None = ⊤
IfThere P (Some a) = P a

abbrev pub NameFits : Ident → Type 0
NameFits i = IsSpellable (t.Ident i)

-- ---- patterns

abbrev mutual
  pub PatternFits : ℕ → PatternTree → Type 0
  PatternFits n wild = ⊤
  PatternFits n (bind how i) = NameFits i
  PatternFits n (str_pattern l) = IsSpellable (t.Literal l)
  PatternFits n (path_pattern p) = Fits n (path_trees nowhere p)
  PatternFits n (tuple_pattern p ps) = Fits n (path_trees nowhere p) × (0 < n) × PatternsFit (n - 1) ps
  PatternFits n (named_pattern p ps rest) = Fits n (path_trees nowhere p) × (0 < n) × NamedPatternsFit (n - 1) ps
  PatternFits n (pair_pattern a b) = (0 < n) × PatternFits (n - 1) a × PatternFits (n - 1) b

  pub PatternsFit : ℕ → PatternTrees → Type 0
  PatternsFit n no_patterns = ⊤
  PatternsFit n (pattern_then p ps) = PatternFits n p × PatternsFit n ps

  pub NamedPatternsFit : ℕ → NamedPatterns → Type 0
  NamedPatternsFit n no_named = ⊤
  NamedPatternsFit n (named_then i p ps) = NameFits i × PatternFits n p × NamedPatternsFit n ps

-- ---- parts of expressions

abbrev pub MemberFits : Member → Type 0
MemberFits (m.Named i) = NameFits i
MemberFits (m.Index l) = IsSpellable (t.Literal l)

abbrev pub FmtArgFits : ℕ → FmtArgTree → Type 0
FmtArgFits n a = IfThere NameFits a.alias × Fits n a.value

abbrev pub FmtFits : ℕ → FmtTree → Type 0
FmtFits n f = IsSpellable (t.Literal f.lit) × Each (FmtArgFits n) f.args

-- what a constant begins with stands in a group, where it is not 0
abbrev pub BaseFits : ℕ → Trees → Type 0
BaseFits n o = (0 < n) × Fits (n - 1) o

-- ---- expressions and blocks

abbrev mutual
  pub ExprFits : ℕ → ExprTree → Type 0
  ExprFits n (return_expr a) = ExprFits n a
  ExprFits n (or_expr es) = ExprsFit n es
  ExprFits n (and_expr es) = ExprsFit n es
  ExprFits n (equal a b) = ExprFits n a × ExprFits n b
  ExprFits n (unequal a b) = ExprFits n a × ExprFits n b
  ExprFits n (ref_opaque o) = (0 < n) × Fits (n - 1) o
  ExprFits n (ref_expr is_mut a) = ExprFits n a
  ExprFits n (deref a) = ExprFits n a
  ExprFits n (member a x) = ExprFits n a × MemberFits x
  ExprFits n (method_call a i es) = ExprFits n a × NameFits i × (0 < n) × ExprsFit (n - 1) es
  ExprFits n (map_expr a e) = ExprFits n a × (0 < n) × ExprFits (n - 1) e
  ExprFits n (map_err a o) = ExprFits n a × (0 < n) × Fits (n - 1) o
  ExprFits n (question a) = ExprFits n a
  ExprFits n (path_expr q p) = Fits n (path_expr_trees q p)
  ExprFits n (call q p es) = Fits n (path_expr_trees q p) × (0 < n) × ExprsFit (n - 1) es
  ExprFits n (build q p es) = Fits n (path_expr_trees q p) × (0 < n) × ExprsFit (n - 1) es
  ExprFits n (build_named q p es) = Fits n (path_expr_trees q p) × (0 < n) × NamedExprsFit (n - 1) es
  ExprFits n (paren a) = (0 < n) × ExprFits (n - 1) a
  ExprFits n (tuple es) = (0 < n) × ExprsFit (n - 1) es
  ExprFits n (opaque_call o a) = (0 < n) × Fits (n - 1) o × ExprFits (n - 1) a
  ExprFits n (str_expr l) = IsSpellable (t.Literal l)
  ExprFits n (bool b) = ⊤
  ExprFits n (match_expr a arms) = ExprFits n a × (0 < n) × ArmsFit (n - 1) arms
  ExprFits n (unsafe_expr a) = (0 < n) × ExprFits (n - 1) a
  ExprFits n (write_expr i f) = (0 < n) × NameFits i × FmtFits (n - 1) f
  ExprFits n (format_args f) = (0 < n) × FmtFits (n - 1) f

  pub ExprsFit : ℕ → ExprTrees → Type 0
  ExprsFit n no_exprs = ⊤
  ExprsFit n (expr_then e es) = ExprFits n e × ExprsFit n es

  pub NamedExprsFit : ℕ → NamedExprs → Type 0
  NamedExprsFit n no_named_exprs = ⊤
  NamedExprsFit n (named_expr_then i e es) = NameFits i × ExprFits n e × NamedExprsFit n es

  pub MaybeFits : ℕ → MaybeExpr → Type 0
  MaybeFits n no_expr = ⊤
  MaybeFits n (some_expr e) = ExprFits n e

  pub ArmsFit : ℕ → ArmTrees → Type 0
  ArmsFit n no_arms = ⊤
  ArmsFit n (arm_then ps guard body more) = PatternsFit n ps × MaybeFits n guard × BodyFits n body × ArmsFit n more

  pub BodyFits : ℕ → ArmBodyTree → Type 0
  BodyFits n (block_body b) = (0 < n) × BlockFits (n - 1) b
  BodyFits n (expr_body e) = ExprFits n e

  pub StmtFits : ℕ → StmtTree → Type 0
  StmtFits n (let_stmt i e) = NameFits i × ExprFits n e
  StmtFits n (check_stmt x) = Fits n (type_trees x)
  StmtFits n (import_stmt p) = Fits n (path_trees nowhere p)
  StmtFits n (do_stmt e) = ExprFits n e
  StmtFits n (const_stmt i x base l) = NameFits i × Fits n (type_trees x) × IfThere (BaseFits n) base × IsSpellable (t.Literal l)

  pub StmtsFit : ℕ → StmtTrees → Type 0
  StmtsFit n no_stmts = ⊤
  StmtsFit n (stmt_then s ss) = StmtFits n s × StmtsFit n ss

  -- what stands between the braces of a block
  pub BlockFits : ℕ → BlockTree → Type 0
  BlockFits n (block ss e) = StmtsFit n ss × MaybeFits n e

-- ---- items

-- an attribute is a group; what it allows, and `hidden`, stand in one more
abbrev pub AttrFits : ℕ → ItemAttr → Type 0
AttrFits n attr.AutomaticallyDerived = 0 < n
AttrFits n attr.Inline = 0 < n
AttrFits n attr.TrackCaller = 0 < n
AttrFits n _ = 1 < n

abbrev pub AssocFits : ℕ → AssocTree → Type 0
AssocFits n a = NameFits a.name × Fits n (type_trees a.ty)

abbrev pub ParamFits : ℕ → ParamOfMethod → Type 0
ParamFits n p = NameFits p.name × Fits n (type_trees p.ty)

-- inputs stand in parentheses, the body in braces
pub record MethodFits (n : ℕ) (method : MethodTree) : Type 0 where
  pub attrs : Each (AttrFits n) method.attrs
  pub name : NameFits method.name
  pub groups : 0 < n
  pub param : IfThere (ParamFits (n - 1)) method.param
  pub output : IfThere (λ (x : TypeTree). Fits n (type_trees x)) method.output
  pub body : BlockFits (n - 1) method.body

-- associated types and methods stand in braces
pub record ItemFits (n : ℕ) (i : ItemTree) : Type 0 where
  pub attrs : Each (AttrFits n) i.attrs
  pub params : Each (Fits n) (map param_trees i.params)
  pub trait_path : IfThere (λ (p : PathTree). Fits n (path_trees nowhere p)) i.trait_path
  pub ty : Fits n (type_trees i.ty)
  pub predicates : Each (Fits n) (map predicate_trees i.predicates)
  pub groups : 0 < n
  pub assocs : Each (AssocFits (n - 1)) i.assocs
  pub methods : Each (MethodFits (n - 1)) i.methods

abbrev pub AllFit : ℕ → List ItemTree → Type 0
AllFit n is = Each (ItemFits n) is

-- the law

-- what fits can be written, and none of it is too deep
abbrev pub ItemsFit : Type 0
ItemsFit =
    (n : ℕ) (is : List ItemTree) → AllFit n is → AllAreWritable (map item_trees is) × AreShallowWithin n (in_turn (map item_trees is))
