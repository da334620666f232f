-- The test of the grammar holds of just what is in the grammar.
use Rattle.std.specs.Prelude.{◌≡◌, Bool, true, false, not, ◌&&◌, T, IsTrue, List, [], ◌∷◌, Option, Some, None, is_none, Decides, refl}
use Rattle.std.proofs.lemmas.Bool.Decides.{Decides-and}
use Rattle.dm_stream.specs.Trees.{Trees}
use Rattle.dm_stream.specs.declared.tokens.Ident.{Ident}
use Rattle.dm_stream.specs.declared.tokens.LitKind.{LitKind}
use Rattle.dm_stream.specs.declared.tokens.LitKind.TheVariants.{Int, Str}
use Rattle.dm_ast.specs.Keywords.{is_name}
use Rattle.dm_ast.specs.TypeGrammar.{is_path_word}
use Rattle.dm_ast.specs.Tree.{TypeTree, MaybeSelf, no_self, some_self, PathTree, path_tree, segment, SegmentTrees, no_segments, segment_then, absent}
use Rattle.dm_output.specs.declared.expr.Member.{Member}
use Rattle.dm_output.specs.declared.expr.Member.TheVariants as m
use Rattle.dm_output.specs.Output.{FmtArgTree, FmtTree, PatternTree, wild, bind, str_pattern, path_pattern, tuple_pattern, named_pattern, pair_pattern, PatternTrees, no_patterns, pattern_then, NamedPatterns, no_named, named_then, ExprTree, return_expr, or_expr, and_expr, equal, unequal, ref_opaque, ref_expr, deref, member, method_call, map_expr, map_err, question, path_expr, call, build, build_named, paren, tuple, opaque_call, str_expr, bool, match_expr, unsafe_expr, write_expr, format_args, ExprTrees, no_exprs, expr_then, NamedExprs, no_named_exprs, named_expr_then, MaybeExpr, no_expr, some_expr, ArmTrees, no_arms, arm_then, ArmBodyTree, block_body, expr_body, StmtTree, let_stmt, check_stmt, import_stmt, do_stmt, const_stmt, StmtTrees, no_stmts, stmt_then, BlockTree, block, AssocTree, ParamOfMethod, MethodTree, ItemTree}
use Rattle.dm_reread.specs.Leaves.{LeafGrammar}
use Rattle.dm_reread.specs.Reading.{is_int, is_str, is_some_trees, alias_of}
use Rattle.dm_reread.specs.Grammar.{Level, at_or, at_and, at_cmp, at_pre, at_post, fits, is_group, ArePlain, is_some_segment, IsPlainPath, IsPath, is_two, is_one, is_any, IsMember, may_take, IsFmtArg, AreFmtArgs, IsFmt, is_single, is_some_pattern, IsPattern, ArePatterns, AreNamedPatterns, IsBase, IsExpr, Each, EachNamed, IsMaybe, AreArms, IsBody, IsStmt, AreStmts, IsBlock}
use Rattle.dm_reread.specs.Items.{head_of}
use Rattle.dm_reread.specs.ItemGrammar.{ItemGrammar, AreAssocs, IsParam, IsOutput, IsMethod, AreMethods, IsItem, AreItems}
use Rattle.dm_reread.specs.BareTests.{LeafTests, ItemTests, LeafDecisions, ItemDecisions, are_plain, is_plain_path, is_path, is_member, is_fmt_arg, are_fmt_args, is_fmt, is_pattern, are_patterns, are_named, is_base, is_expr, each, each_named, is_maybe, are_arms, is_body, is_stmt, are_stmts, is_block, are_assocs, is_param, is_output, is_method, are_methods, is_item, are_items}

-- ---- single facts

both : {P Q : Type 0} {x y : Bool} → Decides x P → Decides y Q → Decides (x && y) (P × Q)
both {x = x} {y} d k = Decides-and x y d k

yes : Decides true (Unit {0})
yes = (λ e. tt, λ h. refl)

no : Decides false ⊥
no = (λ e. absurd (cc), λ h. absurd h)

holds : (b : Bool) → Decides b (T b)
holds true = yes
holds false = no

is-true : (b : Bool) → Decides b (IsTrue b)
is-true b = (λ e. e, λ e. e)

is-false : (b : Bool) → Decides (not b) (b ≡ false)
is-false true = (λ e. absurd (cc), λ e. absurd (cc))
is-false false = (λ e. refl, λ e. refl)

is-none : {A : Type 0} → (o : Option A) → Decides (is_none o) (o ≡ None)
is-none None = (λ e. refl, λ e. refl)
is-none (Some a) = (λ e. absurd (cc), λ e. absurd (cc))

int-decided : (k : LitKind) → Decides (is_int k) (k ≡ Int)
int-decided Int = (λ e. refl, λ e. refl)
int-decided _ = (λ e. absurd (cc), λ e. absurd (cc))

str-decided : (k : LitKind) → Decides (is_str k) (k ≡ Str)
str-decided Str = (λ e. refl, λ e. refl)
str-decided _ = (λ e. absurd (cc), λ e. absurd (cc))

-- an operand of a row
fit : {P : Type 0} {x : Bool} (l : Level) (e : ExprTree) → Decides x P → Decides (x && fits l e) (P × T (fits l e))
fit l e d = both d (holds (fits l e))

-- ---- paths and patterns

plain-decided : (ss : SegmentTrees) → Decides (are_plain ss) (ArePlain ss)
plain-decided no_segments = yes
plain-decided (segment_then (segment i absent) ss) = both (is-true (is_path_word i)) (plain-decided ss)
plain-decided (segment_then (segment i gs) ss) = no

path-decided : (p : PathTree) → Decides (is_plain_path p) (IsPlainPath p)
path-decided (path_tree leading ss) = both (holds (is_some_segment ss)) (plain-decided ss)

member-decided : (x : Member) → Decides (is_member x) (IsMember x)
member-decided (m.Named i) = is-true (is_name i)
member-decided (m.Index l) = int-decided l.kind

mutual
  pattern-decided : (p : PatternTree) → Decides (is_pattern p) (IsPattern p)
  pattern-decided wild = yes
  pattern-decided (bind how i) = is-true (is_name i)
  pattern-decided (str_pattern l) = str-decided l.kind
  pattern-decided (path_pattern p) = both (path-decided p) (is-false (is_single p))
  pattern-decided (tuple_pattern p ps) = both (path-decided p) (patterns-decided ps)
  pattern-decided (named_pattern p ps rest) = both (path-decided p) (named-decided ps)
  pattern-decided (pair_pattern a c) = both (pattern-decided a) (pattern-decided c)

  patterns-decided : (ps : PatternTrees) → Decides (are_patterns ps) (ArePatterns ps)
  patterns-decided no_patterns = yes
  patterns-decided (pattern_then p ps) = both (pattern-decided p) (patterns-decided ps)

  named-decided : (ps : NamedPatterns) → Decides (are_named ps) (AreNamedPatterns ps)
  named-decided no_named = yes
  named-decided (named_then i p ps) = both (is-true (is_name i)) (both (pattern-decided p) (named-decided ps))

base-decided : (base : Option Trees) → Decides (is_base base) (IsBase base)
base-decided None = yes
base-decided (Some o) = holds (is_some_trees o)

module _ (g : LeafGrammar) (t : LeafTests) (D : LeafDecisions g t) where
  any-path-decided : (q : MaybeSelf) (p : PathTree) → Decides (is_path t q p) (IsPath g q p)
  any-path-decided no_self p = path-decided p
  any-path-decided (some_self x position) p = D.qualified x position p

  fmt-arg-decided : (i : Option Ident) (v : Trees) → Decides (is_fmt_arg t i v) (IsFmtArg g i v)
  fmt-arg-decided None v = both (D.run v) (is-none (alias_of v))
  fmt-arg-decided (Some i) v = both (D.run v) (is-true (is_name i))

  fmt-args-decided : (as' : List FmtArgTree) → Decides (are_fmt_args t as') (AreFmtArgs g as')
  fmt-args-decided [] = yes
  fmt-args-decided (a ∷ as') = both (fmt-arg-decided a.alias a.value) (fmt-args-decided as')

  fmt-decided : (f : FmtTree) → Decides (is_fmt t f) (IsFmt g f)
  fmt-decided f = fmt-args-decided f.args

  -- ---- expressions and blocks

  mutual
    pub expr-decided : (b : Bool) (e : ExprTree) → Decides (is_expr t b e) (IsExpr g b e)
    expr-decided b (return_expr a) = expr-decided b a
    expr-decided b (or_expr es) = both (holds (is_two es)) (each-decided at_and b es)
    expr-decided b (and_expr es) = both (holds (is_two es)) (each-decided at_cmp b es)
    expr-decided b (equal a c) = both (fit at_pre a (expr-decided b a)) (fit at_pre c (expr-decided b c))
    expr-decided b (unequal a c) = both (fit at_pre a (expr-decided b a)) (fit at_pre c (expr-decided b c))
    expr-decided b (ref_opaque o) = holds (is_some_trees o)
    expr-decided b (ref_expr w a) = both (fit at_pre a (expr-decided b a)) (holds (not (is_group a)))
    expr-decided b (deref a) = fit at_pre a (expr-decided b a)
    expr-decided b (member a x) = both (fit at_post a (expr-decided b a)) (member-decided x)
    expr-decided b (method_call a i es) =
        both (fit at_post a (expr-decided b a)) (both (both (is-true (is_name i)) (holds (may_take i es))) (each-decided at_or true es))
    expr-decided b (map_expr a e) = both (fit at_post a (expr-decided b a)) (expr-decided true e)
    expr-decided b (map_err a o) = both (fit at_post a (expr-decided b a)) (holds (is_some_trees o))
    expr-decided b (question a) = fit at_post a (expr-decided b a)
    expr-decided b (path_expr q p) = any-path-decided q p
    expr-decided b (call q p es) = both (any-path-decided q p) (each-decided at_or true es)
    expr-decided b (build q p es) = both (any-path-decided q p) (both (holds (is_any es)) (each-decided at_or true es))
    expr-decided b (build_named q p es) = both (holds b) (both (any-path-decided q p) (each-named-decided es))
    expr-decided b (paren a) = expr-decided true a
    expr-decided b (tuple es) = both (holds (not (is_one es))) (each-decided at_or true es)
    expr-decided b (opaque_call o a) = both (holds (is_some_trees o)) (expr-decided true a)
    expr-decided b (str_expr l) = str-decided l.kind
    expr-decided b (bool v) = yes
    expr-decided b (match_expr a arms) = both (expr-decided false a) (arms-decided arms)
    expr-decided b (unsafe_expr a) = expr-decided true a
    expr-decided b (write_expr i f) = both (is-true (is_name i)) (fmt-decided f)
    expr-decided b (format_args f) = fmt-decided f

    each-decided : (l : Level) (b : Bool) (es : ExprTrees) → Decides (each t l b es) (Each g l b es)
    each-decided l b no_exprs = yes
    each-decided l b (expr_then e es) = both (fit l e (expr-decided b e)) (each-decided l b es)

    each-named-decided : (es : NamedExprs) → Decides (each_named t es) (EachNamed g es)
    each-named-decided no_named_exprs = yes
    each-named-decided (named_expr_then i e es) = both (is-true (is_name i)) (both (expr-decided true e) (each-named-decided es))

    maybe-decided : (x : MaybeExpr) → Decides (is_maybe t x) (IsMaybe g x)
    maybe-decided no_expr = yes
    maybe-decided (some_expr e) = expr-decided true e

    arms-decided : (as' : ArmTrees) → Decides (are_arms t as') (AreArms g as')
    arms-decided no_arms = yes
    arms-decided (arm_then ps guard body more) =
        both (both (both (holds (is_some_pattern ps)) (patterns-decided ps)) (both (maybe-decided guard) (body-decided body)))
        (arms-decided more)

    body-decided : (d : ArmBodyTree) → Decides (is_body t d) (IsBody g d)
    body-decided (block_body d) = block-decided d
    body-decided (expr_body e) = expr-decided true e

    stmt-decided : (x : StmtTree) → Decides (is_stmt t x) (IsStmt g x)
    stmt-decided (let_stmt i e) = both (is-true (is_name i)) (expr-decided true e)
    stmt-decided (check_stmt x) = D.type x
    stmt-decided (import_stmt p) = path-decided p
    stmt-decided (do_stmt e) = expr-decided true e
    stmt-decided (const_stmt i x base l) =
        both (both (is-true (is_name i)) (D.type x)) (both (base-decided base) (int-decided l.kind))

    stmts-decided : (ss : StmtTrees) → Decides (are_stmts t ss) (AreStmts g ss)
    stmts-decided no_stmts = yes
    stmts-decided (stmt_then x ss) = both (stmt-decided x) (stmts-decided ss)

    pub block-decided : (d : BlockTree) → Decides (is_block t d) (IsBlock g d)
    block-decided (block ss e) = both (stmts-decided ss) (maybe-decided e)

  -- ---- implementations

  assocs-decided : (as' : List AssocTree) → Decides (are_assocs t as') (AreAssocs g as')
  assocs-decided [] = yes
  assocs-decided (a ∷ as') = both (both (is-true (is_name a.name)) (D.type a.ty)) (assocs-decided as')

  param-decided : (p : Option ParamOfMethod) → Decides (is_param t p) (IsParam g p)
  param-decided None = yes
  param-decided (Some p) = both (is-true (is_name p.name)) (D.type p.ty)

  output-decided : (o : Option TypeTree) → Decides (is_output t o) (IsOutput g o)
  output-decided None = yes
  output-decided (Some x) = D.type x

  method-decided : (x : MethodTree) → Decides (is_method t x) (IsMethod g x)
  method-decided x =
      both (both (is-true (is_name x.name)) (param-decided x.param)) (both (output-decided x.output) (block-decided x.body))

  methods-decided : (xs : List MethodTree) → Decides (are_methods t xs) (AreMethods g xs)
  methods-decided [] = yes
  methods-decided (x ∷ xs) = both (method-decided x) (methods-decided xs)

pub item-decided : (g : ItemGrammar) (t : ItemTests) → ItemDecisions g t → (i : ItemTree) → Decides (is_item t i) (IsItem g i)
item-decided g t D i =
    both (D.head (head_of i))
    (both (assocs-decided g.parts t.parts D.parts i.assocs) (methods-decided g.parts t.parts D.parts i.methods))

pub items-decided : (g : ItemGrammar) (t : ItemTests) → ItemDecisions g t → (is : List ItemTree) → Decides (are_items t is) (AreItems g is)
items-decided g t D [] = yes
items-decided g t D (i ∷ is) = both (item-decided g t D i) (items-decided g t D is)
