-- The test of the grammar looks at no range: a program may make it of what it read.
use Rattle.std.specs.Prelude.{◌≡◌, Bool, true, false, not, ◌&&◌, List, [], ◌∷◌, map, Option, option_map, Some, None, is_none, Decides, refl}
use Rattle.std.proofs.Common.{ap, ap₂, ◌∙◌, sym}
use Rattle.std.proofs.lemmas.Bool.Decides.{Decides-at}
use Rattle.dm_stream.specs.Trees.{Trees}
use Rattle.dm_stream.specs.declared.tokens.Ident.{Ident}
use Rattle.dm_lexer.specs.Written.{unplaced}
use Rattle.dm_ast.specs.Tree.{TypeTree, MaybeSelf, no_self, some_self, PathTree, path_tree, segment, SegmentTrees, no_segments, segment_then, absent}
use Rattle.dm_output.specs.declared.expr.Member.{Member}
use Rattle.dm_output.specs.declared.expr.Member.TheVariants as m
use Rattle.dm_output.specs.Output.{FmtArgTree, PatternTree, wild, bind, str_pattern, path_pattern, tuple_pattern, named_pattern, pair_pattern, PatternTrees, no_patterns, pattern_then, NamedPatterns, no_named, named_then, ExprTree, return_expr, or_expr, and_expr, equal, unequal, ref_opaque, ref_expr, deref, member, method_call, map_expr, map_err, question, path_expr, call, build, build_named, paren, tuple, opaque_call, str_expr, bool, match_expr, unsafe_expr, write_expr, format_args, ExprTrees, no_exprs, expr_then, NamedExprs, no_named_exprs, named_expr_then, MaybeExpr, no_expr, some_expr, ArmTrees, no_arms, arm_then, ArmBodyTree, block_body, expr_body, StmtTree, let_stmt, check_stmt, import_stmt, do_stmt, const_stmt, StmtTrees, no_stmts, stmt_then, BlockTree, block, AssocTree, ParamOfMethod, MethodTree, ItemTree}
use Rattle.dm_output.specs.Tokens.{in_turn, item_trees}
use Rattle.dm_type_eq.specs.Unplaced.{unplaced_ident, unplaced_path, unplaced_segments, unplaced_self, unplaced_type}
use Rattle.dm_reread.specs.Bare.{bare_fmt_arg, bare_member, bare_pattern, bare_patterns, bare_named, bare_expr, bare_exprs, bare_named_exprs, bare_maybe, bare_arms, bare_body, bare_stmt, bare_stmts, bare_block, bare_assoc, bare_param_of, bare_method, bare_item}
use Rattle.dm_reread.specs.BareReading.{bare_pair}
use Rattle.dm_reread.specs.Unplaced.{bare_items, AreItemsOf}
use Rattle.dm_reread.specs.Reading.{is_map_err, alias_of}
use Rattle.dm_reread.specs.Grammar.{Level, at_or, at_and, at_cmp, at_pre, at_post, fits, is_group, is_some_segment, is_two, is_one, is_any, may_take, is_single, is_some_pattern}
use Rattle.dm_reread.specs.Items.{head_of}
use Rattle.dm_reread.specs.ItemGrammar.{ItemGrammar, AreItems}
use Rattle.dm_reread.specs.BareTests.{LeafTests, ItemTests, ItemDecisions, NaturalTests, NaturalItemTests, are_plain, is_plain_path, is_path, is_member, is_fmt_arg, are_fmt_args, is_pattern, are_patterns, are_named, is_base, is_expr, each, each_named, is_maybe, are_arms, is_body, is_stmt, are_stmts, is_block, are_assocs, is_param, is_output, is_method, are_methods, is_item, are_items}
use Rattle.dm_reread.proofs.BareNext.{some-bare}
use Rattle.dm_reread.proofs.BareRows.{alias-bare}
use Rattle.dm_reread.proofs.BareBack.{has-tokens, tokens-had}
use Rattle.dm_reread.proofs.BareTests.{items-decided}

all : {a b c d : Bool} → a ≡ c → b ≡ d → (a && b) ≡ (c && d)
all e h = ap₂ (λ x y. x && y) e h

-- ---- what single conditions see

none-map : {A : Type 0} (f : A → A) (o : Option A) → is_none (option_map f o) ≡ is_none o
none-map f None = refl
none-map f (Some a) = refl

some-segment-bare : (ss : SegmentTrees) → is_some_segment (unplaced_segments ss) ≡ is_some_segment ss
some-segment-bare no_segments = refl
some-segment-bare (segment_then x ss) = refl

two-bare : (es : ExprTrees) → is_two (bare_exprs es) ≡ is_two es
two-bare (expr_then e (expr_then c es)) = refl
two-bare _ = refl

one-bare : (es : ExprTrees) → is_one (bare_exprs es) ≡ is_one es
one-bare (expr_then e no_exprs) = refl
one-bare _ = refl

any-bare : (es : ExprTrees) → is_any (bare_exprs es) ≡ is_any es
any-bare no_exprs = refl
any-bare _ = refl

single-bare : (p : PathTree) → is_single (unplaced_path p) ≡ is_single p
single-bare (path_tree false (segment_then (segment i absent) no_segments)) = refl
single-bare _ = refl

some-pattern-bare : (ps : PatternTrees) → is_some_pattern (bare_patterns ps) ≡ is_some_pattern ps
some-pattern-bare no_patterns = refl
some-pattern-bare _ = refl

group-bare : (e : ExprTree) → is_group (bare_expr e) ≡ is_group e
group-bare (paren a) = refl
group-bare _ = refl

fits-bare : (l : Level) (e : ExprTree) → fits l (bare_expr e) ≡ fits l e
fits-bare at_or e = refl
fits-bare at_and (return_expr a) = refl
fits-bare at_and _ = refl
fits-bare at_cmp (return_expr a) = refl
fits-bare at_cmp _ = refl
fits-bare at_pre (return_expr a) = refl
fits-bare at_pre _ = refl
fits-bare at_post (return_expr a) = refl
fits-bare at_post _ = refl

may-take-bare : (i : Ident) (es : ExprTrees) → may_take (unplaced_ident i) (bare_exprs es) ≡ may_take i es
may-take-bare i es = ap (λ b. not (is_map_err i && b)) (any-bare es)

-- ---- paths and patterns

plain-bare : (ss : SegmentTrees) → are_plain (unplaced_segments ss) ≡ are_plain ss
plain-bare no_segments = refl
plain-bare (segment_then (segment i absent) ss) = all refl (plain-bare ss)
plain-bare (segment_then (segment i gs) ss) = refl

path-bare : (p : PathTree) → is_plain_path (unplaced_path p) ≡ is_plain_path p
path-bare (path_tree leading ss) = all (some-segment-bare ss) (plain-bare ss)

member-bare : (x : Member) → is_member (bare_member x) ≡ is_member x
member-bare (m.Named i) = refl
member-bare (m.Index l) = refl

mutual
  pattern-bare : (p : PatternTree) → is_pattern (bare_pattern p) ≡ is_pattern p
  pattern-bare wild = refl
  pattern-bare (bind how i) = refl
  pattern-bare (str_pattern l) = refl
  pattern-bare (path_pattern p) = all (path-bare p) (ap not (single-bare p))
  pattern-bare (tuple_pattern p ps) = all (path-bare p) (patterns-bare ps)
  pattern-bare (named_pattern p ps rest) = all (path-bare p) (named-bare ps)
  pattern-bare (pair_pattern a c) = all (pattern-bare a) (pattern-bare c)

  patterns-bare : (ps : PatternTrees) → are_patterns (bare_patterns ps) ≡ are_patterns ps
  patterns-bare no_patterns = refl
  patterns-bare (pattern_then p ps) = all (pattern-bare p) (patterns-bare ps)

  named-bare : (ps : NamedPatterns) → are_named (bare_named ps) ≡ are_named ps
  named-bare no_named = refl
  named-bare (named_then i p ps) = all refl (all (pattern-bare p) (named-bare ps))

base-bare : (base : Option Trees) → is_base (option_map unplaced base) ≡ is_base base
base-bare None = refl
base-bare (Some o) = some-bare o

module _ (t : LeafTests) (N : NaturalTests t) where
  any-path-bare : (q : MaybeSelf) (p : PathTree) → is_path t (unplaced_self q) (unplaced_path p) ≡ is_path t q p
  any-path-bare no_self p = path-bare p
  any-path-bare (some_self x position) p = N.qualified x position p

  fmt-arg-bare : (i : Option Ident) (v : Trees) → is_fmt_arg t (option_map unplaced_ident i) (unplaced v) ≡ is_fmt_arg t i v
  fmt-arg-bare None v = all (N.run v) (ap (λ o. is_none o) (alias-bare v) ∙ none-map (bare_pair unplaced_ident) (alias_of v))
  fmt-arg-bare (Some i) v = all (N.run v) refl

  fmt-args-bare : (as' : List FmtArgTree) → are_fmt_args t (map bare_fmt_arg as') ≡ are_fmt_args t as'
  fmt-args-bare [] = refl
  fmt-args-bare (a ∷ as') = all (fmt-arg-bare a.alias a.value) (fmt-args-bare as')

  -- ---- expressions and blocks

  mutual
    expr-bare : (b : Bool) (e : ExprTree) → is_expr t b (bare_expr e) ≡ is_expr t b e
    expr-bare b (return_expr a) = expr-bare b a
    expr-bare b (or_expr es) = all (two-bare es) (each-bare at_and b es)
    expr-bare b (and_expr es) = all (two-bare es) (each-bare at_cmp b es)
    expr-bare b (equal a c) = all (all (expr-bare b a) (fits-bare at_pre a)) (all (expr-bare b c) (fits-bare at_pre c))
    expr-bare b (unequal a c) = all (all (expr-bare b a) (fits-bare at_pre a)) (all (expr-bare b c) (fits-bare at_pre c))
    expr-bare b (ref_opaque o) = some-bare o
    expr-bare b (ref_expr w a) = all (all (expr-bare b a) (fits-bare at_pre a)) (ap not (group-bare a))
    expr-bare b (deref a) = all (expr-bare b a) (fits-bare at_pre a)
    expr-bare b (member a x) = all (all (expr-bare b a) (fits-bare at_post a)) (member-bare x)
    expr-bare b (method_call a i es) =
        all (all (expr-bare b a) (fits-bare at_post a)) (all (all refl (may-take-bare i es)) (each-bare at_or true es))
    expr-bare b (map_expr a e) = all (all (expr-bare b a) (fits-bare at_post a)) (expr-bare true e)
    expr-bare b (map_err a o) = all (all (expr-bare b a) (fits-bare at_post a)) (some-bare o)
    expr-bare b (question a) = all (expr-bare b a) (fits-bare at_post a)
    expr-bare b (path_expr q p) = any-path-bare q p
    expr-bare b (call q p es) = all (any-path-bare q p) (each-bare at_or true es)
    expr-bare b (build q p es) = all (any-path-bare q p) (all (any-bare es) (each-bare at_or true es))
    expr-bare b (build_named q p es) = all refl (all (any-path-bare q p) (each-named-bare es))
    expr-bare b (paren a) = expr-bare true a
    expr-bare b (tuple es) = all (ap not (one-bare es)) (each-bare at_or true es)
    expr-bare b (opaque_call o a) = all (some-bare o) (expr-bare true a)
    expr-bare b (str_expr l) = refl
    expr-bare b (bool v) = refl
    expr-bare b (match_expr a arms) = all (expr-bare false a) (arms-bare arms)
    expr-bare b (unsafe_expr a) = expr-bare true a
    expr-bare b (write_expr i f) = all refl (fmt-args-bare f.args)
    expr-bare b (format_args f) = fmt-args-bare f.args

    each-bare : (l : Level) (b : Bool) (es : ExprTrees) → each t l b (bare_exprs es) ≡ each t l b es
    each-bare l b no_exprs = refl
    each-bare l b (expr_then e es) = all (all (expr-bare b e) (fits-bare l e)) (each-bare l b es)

    each-named-bare : (es : NamedExprs) → each_named t (bare_named_exprs es) ≡ each_named t es
    each-named-bare no_named_exprs = refl
    each-named-bare (named_expr_then i e es) = all refl (all (expr-bare true e) (each-named-bare es))

    maybe-bare : (x : MaybeExpr) → is_maybe t (bare_maybe x) ≡ is_maybe t x
    maybe-bare no_expr = refl
    maybe-bare (some_expr e) = expr-bare true e

    arms-bare : (as' : ArmTrees) → are_arms t (bare_arms as') ≡ are_arms t as'
    arms-bare no_arms = refl
    arms-bare (arm_then ps guard body more) =
        all (all (all (some-pattern-bare ps) (patterns-bare ps)) (all (maybe-bare guard) (body-bare body))) (arms-bare more)

    body-bare : (d : ArmBodyTree) → is_body t (bare_body d) ≡ is_body t d
    body-bare (block_body d) = block-bare d
    body-bare (expr_body e) = expr-bare true e

    stmt-bare : (x : StmtTree) → is_stmt t (bare_stmt x) ≡ is_stmt t x
    stmt-bare (let_stmt i e) = all refl (expr-bare true e)
    stmt-bare (check_stmt x) = N.type x
    stmt-bare (import_stmt p) = path-bare p
    stmt-bare (do_stmt e) = expr-bare true e
    stmt-bare (const_stmt i x base l) = all (all refl (N.type x)) (all (base-bare base) refl)

    stmts-bare : (ss : StmtTrees) → are_stmts t (bare_stmts ss) ≡ are_stmts t ss
    stmts-bare no_stmts = refl
    stmts-bare (stmt_then x ss) = all (stmt-bare x) (stmts-bare ss)

    block-bare : (d : BlockTree) → is_block t (bare_block d) ≡ is_block t d
    block-bare (block ss e) = all (stmts-bare ss) (maybe-bare e)

  -- ---- implementations

  assocs-bare : (as' : List AssocTree) → are_assocs t (map bare_assoc as') ≡ are_assocs t as'
  assocs-bare [] = refl
  assocs-bare (a ∷ as') = all (all refl (N.type a.ty)) (assocs-bare as')

  param-bare : (p : Option ParamOfMethod) → is_param t (option_map bare_param_of p) ≡ is_param t p
  param-bare None = refl
  param-bare (Some p) = all refl (N.type p.ty)

  output-bare : (o : Option TypeTree) → is_output t (option_map unplaced_type o) ≡ is_output t o
  output-bare None = refl
  output-bare (Some x) = N.type x

  method-bare : (x : MethodTree) → is_method t (bare_method x) ≡ is_method t x
  method-bare x = all (all refl (param-bare x.param)) (all (output-bare x.output) (block-bare x.body))

  methods-bare : (xs : List MethodTree) → are_methods t (map bare_method xs) ≡ are_methods t xs
  methods-bare [] = refl
  methods-bare (x ∷ xs) = all (method-bare x) (methods-bare xs)

module _ (t : ItemTests) (N : NaturalItemTests t) where
  pub item-test-bare : (i : ItemTree) → is_item t (bare_item i) ≡ is_item t i
  item-test-bare i =
      all (N.head (head_of i))
      (all (assocs-bare t.parts N.parts i.assocs) (methods-bare t.parts N.parts i.methods))

  pub items-test-bare : (is : List ItemTree) → are_items t (bare_items is) ≡ are_items t is
  items-test-bare [] = refl
  items-test-bare (i ∷ is) = all (item-test-bare i) (items-test-bare is)

-- the test of what was read decides whether it is of the grammar, ranges aside
pub items-checked : (g : ItemGrammar) (t : ItemTests) → ItemDecisions g t → NaturalItemTests t → (is : List ItemTree) →
    Decides (are_items t is) (AreItems g (bare_items is))
items-checked g t D N is =
    Decides-at (are_items t is) (are_items t (bare_items is)) (sym (items-test-bare t N is)) (items-decided g t D (bare_items is))

-- so a program that makes the test, and compares the tokens, knows whether what it read is of the grammar and has them
module _ (g : ItemGrammar) (t : ItemTests) (D : ItemDecisions g t) (N : NaturalItemTests t) where
  pub items-of-checked : (ts : Trees) (is : List ItemTree) → are_items t is ≡ true → unplaced (in_turn (map item_trees is)) ≡ unplaced ts →
      AreItemsOf g is ts
  items-of-checked ts is c h = record { are_items = (items-checked g t D N is).0 c; has_tokens = has-tokens is ts h }

  pub checked-items-of : (ts : Trees) (is : List ItemTree) → AreItemsOf g is ts →
      (are_items t is ≡ true) × (unplaced (in_turn (map item_trees is)) ≡ unplaced ts)
  checked-items-of ts is h = ((items-checked g t D N is).1 h.are_items, tokens-had is ts h.has_tokens)
