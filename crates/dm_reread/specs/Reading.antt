-- A reader of expressions, patterns and blocks: a function from trees to what is read and what is left. Each row is a step over the
-- readers of less fuel.
use Rattle.std.specs.Prelude.{cond, ℕ, zero, suc, ◌==◌, ◌&&◌, not, Bool, true, false, List, [], ◌∷◌, codes, Option, Some, None}
use Rattle.std.specs.Str.{bytes_eq}
use Rattle.dm_stream.specs.declared.tokens.Ident.{Ident}
use Rattle.dm_stream.specs.declared.tokens.Literal.{Literal}
use Rattle.dm_stream.specs.declared.tokens.LitKind.{LitKind}
use Rattle.dm_stream.specs.declared.tokens.LitKind.TheVariants.{Int, Str}
use Rattle.dm_stream.specs.declared.tokens.Spacing.{Spacing}
use Rattle.dm_stream.specs.declared.tokens.Spacing.TheVariants.{Joint, Alone}
use Rattle.dm_stream.specs.declared.tokens.Token.TheVariants as t
use Rattle.dm_stream.specs.Trees.{Trees, no_trees, token}
use Rattle.dm_ast.specs.Keywords.{is_name}
use Rattle.dm_ast.specs.Spelling.{is_word}
use Rattle.dm_ast.specs.Tree.{MaybeSelf, no_self, PathTree, path_tree, segment, SegmentTrees, no_segments, segment_then, absent}
use Rattle.dm_output.specs.declared.pattern.Binding.{Binding}
use Rattle.dm_output.specs.declared.pattern.Binding.TheVariants as binding
use Rattle.dm_output.specs.declared.expr.Member.{Member}
use Rattle.dm_output.specs.declared.expr.Member.TheVariants as m
use Rattle.dm_output.specs.Output.{FmtArgTree, FmtTree, PatternTree, wild, bind, str_pattern, path_pattern, tuple_pattern, named_pattern, pair_pattern, PatternTrees, no_patterns, pattern_then, NamedPatterns, no_named, named_then, ExprTree, return_expr, or_expr, and_expr, equal, unequal, ref_opaque, ref_expr, deref, member, method_call, map_expr, map_err, question, path_expr, call, build, build_named, paren, tuple, opaque_call, str_expr, bool, match_expr, unsafe_expr, write_expr, format_args, ExprTrees, no_exprs, expr_then, NamedExprs, no_named_exprs, named_expr_then, MaybeExpr, no_expr, some_expr, ArmTrees, no_arms, arm_then, ArmBodyTree, block_body, expr_body, StmtTree, let_stmt, check_stmt, import_stmt, do_stmt, const_stmt, no_stmts, stmt_then, BlockTree, block}
use Rattle.dm_reread.specs.Next.{Word, k_match, k_unsafe, k_true, k_false, k_let, k_if, k_ref, k_mut, k_wild, k_return, k_use, k_as, k_const, Next, ended, oror, andand, equals, differs, star, amp, dot, asks, bangs, plus, less, bar, comma, colon, semicolon, assigns, leads, colons, dots, in_parens, in_braces, literal, a_name, a_word, next}
use Rattle.dm_reread.specs.Leaves.{Answer, Leaves}

abbrev pub then : {A B : Type 0} → Option A → (A → Option B) → Option B
then None f = None
then (Some a) f = f a

-- what is read, where a test holds
abbrev pub provided : {A : Type 0} → Bool → Option A → Option A
provided test o = cond test o None

-- what stands behind a receiver
pub data Posts : Type 0 where
  no_posts : Posts
  p_member : Member → Posts → Posts
  p_call : Ident → ExprTrees → Posts → Posts
  p_map : ExprTree → Posts → Posts
  p_map_err : Trees → Posts → Posts
  p_question : Posts → Posts

abbrev pub apply : ExprTree → Posts → ExprTree
apply e no_posts = e
apply e (p_member i ps) = apply (member e i) ps
apply e (p_call i es ps) = apply (method_call e i es) ps
apply e (p_map a ps) = apply (map_expr e a) ps
apply e (p_map_err o ps) = apply (map_err e o) ps
apply e (p_question ps) = apply (question e) ps

-- the leaves, and the readers of less fuel
pub record Readers : Type 0 where
  pub leaves : Leaves
  pub expr : Bool → Trees → Answer ExprTree
  pub pre : Bool → Trees → Answer ExprTree
  pub ors : Bool → Trees → Answer ExprTrees
  pub ands : Bool → Trees → Answer ExprTrees
  pub args : Trees → Option (ExprTrees × Bool)
  pub segments : Trees → Answer SegmentTrees
  pub posts : Trees → Answer Posts
  pub fmt_args : Trees → Option (List FmtArgTree)
  pub named_exprs : Trees → Option NamedExprs
  pub arms : Trees → Option ArmTrees
  pub block : Trees → Option BlockTree
  pub pattern : Trees → Answer PatternTree
  pub bars : Trees → Answer PatternTrees
  pub patterns : Trees → Option PatternTrees
  pub named_patterns : Trees → Option (NamedPatterns × Bool)

-- ---- kinds of literals, and words

abbrev pub is_int : LitKind → Bool
is_int Int = true
is_int _ = false

abbrev pub is_str : LitKind → Bool
is_str Str = true
is_str _ = false

abbrev pub is_zero : Literal → Bool
is_zero l = is_int l.kind && bytes_eq l.text (codes "0")

abbrev pub is_some_trees : Trees → Bool
is_some_trees no_trees = false
is_some_trees _ = true

-- `derive_more::core::` and a name
abbrev pub is_macro_path : List ℕ → PathTree → Bool
is_macro_path called (path_tree false (segment_then (segment a absent) (segment_then (segment b absent) (segment_then (segment c absent) no_segments)))) =
    (is_word (codes "derive_more") a && is_word (codes "core") b) && is_word called c
is_macro_path called _ = false

-- ---- what a place demands

abbrev pub comma_after : Next → Option Trees
comma_after (comma ts) = Some ts
comma_after _ = None

abbrev pub semicolon_after : Next → Option Trees
semicolon_after (semicolon ts) = Some ts
semicolon_after _ = None

abbrev pub leads_after : Next → Option Trees
leads_after (leads ts) = Some ts
leads_after _ = None

abbrev pub assigns_after : Next → Option Trees
assigns_after (assigns ts) = Some ts
assigns_after _ = None

abbrev pub colon_after : Next → Option Trees
colon_after (colon ts) = Some ts
colon_after _ = None

abbrev pub plus_after : Next → Option Trees
plus_after (plus ts) = Some ts
plus_after _ = None

abbrev pub as_after : Next → Option Trees
as_after (a_word k_as ts) = Some ts
as_after _ = None

abbrev pub wild_after : Next → Option Trees
wild_after (a_word k_wild ts) = Some ts
wild_after _ = None

abbrev pub int_after : Next → Answer Literal
int_after (literal l ts) = provided (is_int l.kind) (Some (l, ts))
int_after _ = None

abbrev pub whole : {A : Type 0} → Answer A → Option A
whole None = None
whole (Some (e, no_trees)) = Some e
whole (Some (e, ts)) = None

-- ---- paths without arguments

abbrev pub segment_from : Readers → Next → Answer SegmentTrees
segment_from r (a_name i ts) = then (r.segments ts) (λ s. Some (segment_then (segment i absent) s.0, s.1))
segment_from r _ = None

-- what stands behind a segment
abbrev pub more_segments : Readers → Trees → Next → Answer SegmentTrees
more_segments r ts (colons us) = segment_from r (next us)
more_segments r ts _ = Some (no_segments, ts)

abbrev pub path_from : Readers → Bool → Next → Answer PathTree
path_from r leading n = then (segment_from r n) (λ s. Some (path_tree leading s.0, s.1))

abbrev pub plain_path : Readers → Next → Answer PathTree
plain_path r (colons ts) = path_from r true (next ts)
plain_path r n = path_from r false n

-- ---- arguments: the inside of a group, and whether a comma ends it

abbrev pub first_arg : Readers → Trees → Option (ExprTrees × Bool)
first_arg r ts = then (r.expr true ts) (λ a. then (r.args a.1) (λ s. Some (expr_then a.0 s.0, s.1)))

abbrev pub read_args : Readers → Bool → Trees → Option (ExprTrees × Bool)
read_args r after_comma no_trees = Some (no_exprs, after_comma)
read_args r after_comma ts = first_arg r ts

abbrev pub more_args : Readers → Next → Option (ExprTrees × Bool)
more_args r ended = Some (no_exprs, false)
more_args r (comma ts) = read_args r true ts
more_args r _ = None

-- ---- formats

abbrev pub is_alone : Spacing → Bool
is_alone Alone = true
is_alone Joint = false

-- a name in front of a lone `=`, and what is behind
abbrev pub alias_of : Trees → Option (Ident × Trees)
alias_of (token (t.Ident i) (token (t.Punct p) ts)) = cond ((is_alone p.spacing && (p.ch == 61)) && is_name i) (Some (i, ts)) None
alias_of _ = None

abbrev pub fmt_arg_from : Leaves → Trees → Option (Ident × Trees) → Answer FmtArgTree
fmt_arg_from l ts None = then (l.run ts) (λ v. Some (record { alias = None; value = v.0 }, v.1))
fmt_arg_from l ts (Some a) = then (l.run a.1) (λ v. Some (record { alias = Some a.0; value = v.0 }, v.1))

abbrev pub read_fmt_arg : Leaves → Trees → Answer FmtArgTree
read_fmt_arg l ts = fmt_arg_from l ts (alias_of ts)

abbrev pub more_fmt_args : Readers → Next → Option (List FmtArgTree)
more_fmt_args r ended = Some []
more_fmt_args r (comma ts) = then (read_fmt_arg r.leaves ts) (λ a. then (r.fmt_args a.1) (λ s. Some (a.0 ∷ s)))
more_fmt_args r _ = None

abbrev pub read_fmt : Readers → Next → Option FmtTree
read_fmt r (literal l ts) = then (r.fmt_args ts) (λ s. Some (record { lit = l; args = s }))
read_fmt r _ = None

abbrev pub write_from : Readers → Next → Option ExprTree
write_from r (a_name i ts) =
    provided (is_name i) (then (comma_after (next ts)) (λ us. then (read_fmt r (next us)) (λ f. Some (write_expr i f))))
write_from r _ = None

-- the call of a macro, whose path stands in front of `!`
abbrev pub macro_of : Readers → PathTree → Trees → Option ExprTree
macro_of r p inside =
    cond (is_macro_path (codes "write") p) (write_from r (next inside))
    (provided (is_macro_path (codes "format_args") p) (then (read_fmt r (next inside)) (λ f. Some (format_args f))))

abbrev pub macro_from : Readers → PathTree → Next → Answer ExprTree
macro_from r p (in_parens inside ts) = then (macro_of r p inside) (λ e. Some (e, ts))
macro_from r p _ = None

-- ---- patterns

-- a single name binds
abbrev pub pattern_of_path : PathTree → PatternTree
pattern_of_path (path_tree false (segment_then (segment i absent) no_segments)) =
    cond (is_name i) (bind binding.Plain i) (path_pattern (path_tree false (segment_then (segment i absent) no_segments)))
pattern_of_path p = path_pattern p

abbrev pub after_pattern_path : Readers → PathTree → Trees → Next → Answer PatternTree
after_pattern_path r p ts (in_parens inside us) = then (r.patterns inside) (λ ps. Some (tuple_pattern p ps, us))
after_pattern_path r p ts (in_braces inside us) = then (r.named_patterns inside) (λ s. Some (named_pattern p s.0 s.1, us))
after_pattern_path r p ts _ = Some (pattern_of_path p, ts)

abbrev pub pattern_path : Readers → Next → Answer PatternTree
pattern_path r n = then (plain_path r n) (λ p. after_pattern_path r p.0 p.1 (next p.1))

abbrev pub bind_name : Binding → Next → Answer PatternTree
bind_name how (a_name i ts) = provided (is_name i) (Some (bind how i, ts))
bind_name how _ = None

abbrev pub ref_from : Next → Answer PatternTree
ref_from (a_word k_mut ts) = bind_name binding.RefMut (next ts)
ref_from n = bind_name binding.Ref n

abbrev pub word_pattern : Word → Trees → Answer PatternTree
word_pattern k_wild ts = Some (wild, ts)
word_pattern k_ref ts = ref_from (next ts)
word_pattern _ ts = None

abbrev pub pair_from : Readers → Trees → Trees → Answer PatternTree
pair_from r inside ts =
    then (r.pattern inside) (λ a. then (comma_after (next a.1)) (λ us. then (whole (r.pattern us)) (λ c. Some (pair_pattern a.0 c, ts))))

abbrev pub read_pattern : Readers → Next → Answer PatternTree
read_pattern r (a_word w ts) = word_pattern w ts
read_pattern r (a_name i ts) = pattern_path r (a_name i ts)
read_pattern r (colons ts) = pattern_path r (colons ts)
read_pattern r (in_parens inside ts) = pair_from r inside ts
read_pattern r (literal l ts) = provided (is_str l.kind) (Some (str_pattern l, ts))
read_pattern r _ = None

-- patterns with a comma behind each
abbrev pub read_patterns : Readers → Trees → Option PatternTrees
read_patterns r no_trees = Some no_patterns
read_patterns r ts =
    then (r.pattern ts) (λ a. then (comma_after (next a.1)) (λ us. then (r.patterns us) (λ s. Some (pattern_then a.0 s))))

abbrev pub named_pattern_value : Readers → Ident → Next → Option (NamedPatterns × Bool)
named_pattern_value r i (colon ts) =
    then (r.pattern ts) (λ a. then (comma_after (next a.1)) (λ us. then (r.named_patterns us) (λ s. Some (named_then i a.0 s.0, s.1))))
named_pattern_value r i _ = None

abbrev pub dots_end : Trees → Option (NamedPatterns × Bool)
dots_end no_trees = Some (no_named, true)
dots_end _ = None

abbrev pub read_named_patterns : Readers → Next → Option (NamedPatterns × Bool)
read_named_patterns r ended = Some (no_named, false)
read_named_patterns r (dots ts) = dots_end ts
read_named_patterns r (a_name i ts) = provided (is_name i) (named_pattern_value r i (next ts))
read_named_patterns r _ = None

abbrev pub more_bars : Readers → Trees → Next → Answer PatternTrees
more_bars r ts (bar us) = then (r.pattern us) (λ a. then (r.bars a.1) (λ s. Some (pattern_then a.0 s.0, s.1)))
more_bars r ts _ = Some (no_patterns, ts)

-- ---- statements and blocks

abbrev pub stmt_first : StmtTree → BlockTree → BlockTree
stmt_first s (block ss e) = block (stmt_then s ss) e

-- a statement, where a semicolon ends it, and the statements behind
abbrev pub stmt_ended : Readers → StmtTree → Next → Option BlockTree
stmt_ended r s (semicolon ts) = then (r.block ts) (λ b. Some (stmt_first s b))
stmt_ended r s _ = None

abbrev pub let_is : Readers → Ident → Next → Option BlockTree
let_is r i (assigns ts) = then (r.expr true ts) (λ a. stmt_ended r (let_stmt i a.0) (next a.1))
let_is r i _ = None

abbrev pub check_from : Readers → Next → Option BlockTree
check_from r (colon ts) = then (r.leaves.type ts) (λ a. stmt_ended r (check_stmt a.0) (next a.1))
check_from r _ = None

abbrev pub let_from : Readers → Next → Option BlockTree
let_from r (a_name i ts) = provided (is_name i) (let_is r i (next ts))
let_from r (a_word k_wild ts) = check_from r (next ts)
let_from r _ = None

abbrev pub use_from : Readers → Next → Option BlockTree
use_from r n =
    then (plain_path r n) (λ p. then (as_after (next p.1)) (λ us. then (wild_after (next us)) (λ vs. stmt_ended r (import_stmt p.0) (next vs))))

abbrev pub base_from : Next → Answer (Option Trees)
base_from (in_parens inside ts) = provided (is_some_trees inside) (Some (Some inside, ts))
base_from (literal l ts) = provided (is_zero l) (Some (None, ts))
base_from _ = None

-- a constant from its type on
abbrev pub const_is : Readers → Ident → Trees → Option BlockTree
const_is r i ts =
    then (r.leaves.type ts) (λ a. then (assigns_after (next a.1)) (λ us. then (base_from (next us)) (λ o.
    then (plus_after (next o.1)) (λ vs. then (int_after (next vs)) (λ l. stmt_ended r (const_stmt i a.0 o.0 l.0) (next l.1))))))

abbrev pub const_from : Readers → Next → Option BlockTree
const_from r (a_name i ts) = provided (is_name i) (then (colon_after (next ts)) (λ us. const_is r i us))
const_from r _ = None

abbrev pub after_stmt : Readers → ExprTree → Next → Option BlockTree
after_stmt r e ended = Some (block no_stmts (some_expr e))
after_stmt r e n = stmt_ended r (do_stmt e) n

abbrev pub read_block : Readers → Trees → Next → Option BlockTree
read_block r ts ended = Some (block no_stmts no_expr)
read_block r ts (a_word k_let us) = let_from r (next us)
read_block r ts (a_word k_use us) = use_from r (next us)
read_block r ts (a_word k_const us) = const_from r (next us)
read_block r ts _ = then (r.expr true ts) (λ a. after_stmt r a.0 (next a.1))

-- ---- arms

abbrev pub read_guard : Readers → Trees → Next → Answer MaybeExpr
read_guard r ts (a_word k_if us) = then (r.expr true us) (λ a. Some (some_expr a.0, a.1))
read_guard r ts _ = Some (no_expr, ts)

abbrev pub read_body : Readers → Trees → Next → Answer ArmBodyTree
read_body r ts (in_braces inside us) = then (r.block inside) (λ d. Some (block_body d, us))
read_body r ts _ = then (r.expr true ts) (λ a. Some (expr_body a.0, a.1))

-- an arm from its guard on
abbrev pub arm_from : Readers → PatternTrees → Trees → Option ArmTrees
arm_from r ps ts =
    then (read_guard r ts (next ts)) (λ g. then (leads_after (next g.1)) (λ us. then (read_body r us (next us)) (λ d.
    then (comma_after (next d.1)) (λ vs. then (r.arms vs) (λ s. Some (arm_then ps g.0 d.0 s))))))

abbrev pub some_arm : Readers → Trees → Option ArmTrees
some_arm r ts = then (r.pattern ts) (λ a. then (r.bars a.1) (λ s. arm_from r (pattern_then a.0 s.0) s.1))

abbrev pub read_arms : Readers → Trees → Option ArmTrees
read_arms r no_trees = Some no_arms
read_arms r ts = some_arm r ts

-- ---- fields with values

abbrev pub named_value : Readers → Ident → Next → Option NamedExprs
named_value r i (colon ts) =
    then (r.expr true ts) (λ a. then (comma_after (next a.1)) (λ us. then (r.named_exprs us) (λ s. Some (named_expr_then i a.0 s))))
named_value r i _ = None

abbrev pub read_named_exprs : Readers → Next → Option NamedExprs
read_named_exprs r ended = Some no_named_exprs
read_named_exprs r (a_name i ts) = provided (is_name i) (named_value r i (next ts))
read_named_exprs r _ = None

-- ---- paths and calls

abbrev pub called : MaybeSelf → PathTree → ExprTrees → Bool → ExprTree
called q p es false = call q p es
called q p es true = build q p es

abbrev pub after_path : Readers → Bool → MaybeSelf → PathTree → Trees → Next → Answer ExprTree
after_path r b q p ts (in_parens inside us) = then (read_args r false inside) (λ a. Some (called q p a.0 a.1, us))
after_path r true q p ts (in_braces inside us) = then (r.named_exprs inside) (λ s. Some (build_named q p s, us))
after_path r b no_self p ts (bangs us) = macro_from r p (next us)
after_path r b q p ts _ = Some (path_expr q p, ts)

abbrev pub path_base : Readers → Bool → Next → Answer ExprTree
path_base r b n = then (plain_path r n) (λ p. after_path r b no_self p.0 p.1 (next p.1))

abbrev pub qualified_base : Readers → Bool → Trees → Answer ExprTree
qualified_base r b ts = then (r.leaves.qualified ts) (λ p. after_path r b p.0.0 p.0.1 p.1 (next p.1))

-- a tuple has no part or two and more, and no last comma
abbrev pub tuple_of : Trees → ExprTrees → Bool → Answer ExprTree
tuple_of ts no_exprs last = Some (tuple no_exprs, ts)
tuple_of ts (expr_then e no_exprs) false = Some (paren e, ts)
tuple_of ts es false = Some (tuple es, ts)
tuple_of ts es true = None

abbrev pub unsafe_of : Readers → Next → Answer ExprTree
unsafe_of r (in_braces inside ts) = then (whole (r.expr true inside)) (λ e. Some (unsafe_expr e, ts))
unsafe_of r _ = None

abbrev pub match_of : Readers → ExprTree → Next → Answer ExprTree
match_of r a (in_braces inside ts) = then (r.arms inside) (λ s. Some (match_expr a s, ts))
match_of r a _ = None

abbrev pub word_base : Readers → Bool → Word → Trees → Answer ExprTree
word_base r b k_true ts = Some (bool true, ts)
word_base r b k_false ts = Some (bool false, ts)
word_base r b k_unsafe ts = unsafe_of r (next ts)
word_base r b k_match ts = then (r.expr false ts) (λ a. match_of r a.0 (next a.1))
word_base r b _ ts = None

-- a group in parentheses, and perhaps a second one
abbrev pub group_from : Readers → Trees → Trees → Next → Answer ExprTree
group_from r inside ts (in_parens second us) =
    provided (is_some_trees inside) (then (whole (r.expr true second)) (λ a. Some (opaque_call inside a, us)))
group_from r inside ts _ = then (read_args r false inside) (λ a. tuple_of ts a.0 a.1)

abbrev pub read_base : Readers → Bool → Trees → Next → Answer ExprTree
read_base r b ts (a_name i us) = path_base r b (a_name i us)
read_base r b ts (colons us) = path_base r b (colons us)
read_base r b ts (less us) = qualified_base r b ts
read_base r b ts (in_parens inside us) = group_from r inside us (next us)
read_base r b ts (literal l us) = provided (is_str l.kind) (Some (str_expr l, us))
read_base r b ts (a_word w us) = word_base r b w us
read_base r b ts _ = None

-- ---- members, methods and `?`

abbrev pub is_map : Ident → Bool
is_map i = is_word (codes "map") i

-- the method that takes an unread argument
abbrev pub is_map_err : Ident → Bool
is_map_err i = is_word (codes "map_err") i

abbrev pub method_from : Readers → Ident → Trees → Trees → Answer Posts
method_from r i inside ts =
    then (read_args r false inside) (λ a. provided (not a.1) (then (r.posts ts) (λ s. Some (p_call i a.0 s.0, s.1))))

-- a closure behind its first bar: `v`, a bar, and an expression
abbrev pub closure_bar : Readers → Next → Option ExprTree
closure_bar r (bar ts) = whole (r.expr true ts)
closure_bar r _ = None

abbrev pub closure_from : Readers → Next → Option ExprTree
closure_from r (a_name i ts) = provided (is_word (codes "v") i) (closure_bar r (next ts))
closure_from r _ = None

-- `map` with a closure, or as any other method
abbrev pub map_from : Readers → Ident → Trees → Trees → Next → Answer Posts
map_from r i inside ts (bar us) = then (closure_from r (next us)) (λ e. then (r.posts ts) (λ s. Some (p_map e s.0, s.1)))
map_from r i inside ts _ = method_from r i inside ts

-- `map_err` with what is not read, or as any other method
abbrev pub map_err_from : Readers → Ident → Trees → Trees → Answer Posts
map_err_from r i no_trees ts = method_from r i no_trees ts
map_err_from r i inside ts = then (r.posts ts) (λ s. Some (p_map_err inside s.0, s.1))

abbrev pub call_from : Readers → Ident → Trees → Trees → Answer Posts
call_from r i inside ts =
    cond (is_map_err i) (map_err_from r i inside ts) (cond (is_map i) (map_from r i inside ts (next inside)) (method_from r i inside ts))

abbrev pub after_member : Readers → Ident → Trees → Next → Answer Posts
after_member r i ts (in_parens inside us) = call_from r i inside us
after_member r i ts _ = then (r.posts ts) (λ s. Some (p_member (m.Named i) s.0, s.1))

abbrev pub member_from : Readers → Next → Answer Posts
member_from r (a_name i ts) = provided (is_name i) (after_member r i ts (next ts))
member_from r (literal l ts) = provided (is_int l.kind) (then (r.posts ts) (λ s. Some (p_member (m.Index l) s.0, s.1)))
member_from r _ = None

abbrev pub read_posts : Readers → Trees → Next → Answer Posts
read_posts r ts (dot us) = member_from r (next us)
read_posts r ts (asks us) = then (r.posts us) (λ s. Some (p_question s.0, s.1))
read_posts r ts _ = Some (no_posts, ts)

abbrev pub read_post : Readers → Bool → Trees → Next → Answer ExprTree
read_post r b ts n = then (read_base r b ts n) (λ a. then (r.posts a.1) (λ s. Some (apply a.0 s.0, s.1)))

-- ---- references

-- whether what stands behind a group goes on with it
abbrev pub goes_on : Next → Bool
goes_on (in_parens inside ts) = true
goes_on (dot ts) = true
goes_on (asks ts) = true
goes_on _ = false

abbrev pub ref_from_pre : Readers → Bool → Bool → Trees → Answer ExprTree
ref_from_pre r b is_mut ts = then (r.pre b ts) (λ a. Some (ref_expr is_mut a.0, a.1))

-- behind `&` and `mut`: a group alone is no operand
abbrev pub read_mut_ref : Readers → Bool → Trees → Next → Answer ExprTree
read_mut_ref r b ts (in_parens inside us) = provided (goes_on (next us)) (ref_from_pre r b true ts)
read_mut_ref r b ts _ = ref_from_pre r b true ts

abbrev pub read_ref : Readers → Bool → Trees → Next → Answer ExprTree
read_ref r b ts (a_word k_mut us) = read_mut_ref r b us (next us)
read_ref r b ts (in_parens inside us) =
    cond (goes_on (next us)) (ref_from_pre r b false ts) (provided (is_some_trees inside) (Some (ref_opaque inside, us)))
read_ref r b ts _ = ref_from_pre r b false ts

abbrev pub read_pre : Readers → Bool → Trees → Next → Answer ExprTree
read_pre r b ts (star us) = then (r.pre b us) (λ a. Some (deref a.0, a.1))
read_pre r b ts (amp us) = read_ref r b us (next us)
read_pre r b ts n = read_post r b ts n

-- ---- operators between two

abbrev pub after_pre : Readers → Bool → ExprTree → Trees → Next → Answer ExprTree
after_pre r b e ts (equals us) = then (r.pre b us) (λ a. Some (equal e a.0, a.1))
after_pre r b e ts (differs us) = then (r.pre b us) (λ a. Some (unequal e a.0, a.1))
after_pre r b e ts _ = Some (e, ts)

abbrev pub read_cmp : Readers → Bool → Trees → Answer ExprTree
read_cmp r b ts = then (read_pre r b ts (next ts)) (λ a. after_pre r b a.0 a.1 (next a.1))

abbrev pub after_cmp : Readers → Bool → ExprTree → Trees → Next → Answer ExprTree
after_cmp r b e ts (andand us) = then (r.ands b ts) (λ s. Some (and_expr (expr_then e s.0), s.1))
after_cmp r b e ts _ = Some (e, ts)

abbrev pub read_and : Readers → Bool → Trees → Answer ExprTree
read_and r b ts = then (read_cmp r b ts) (λ a. after_cmp r b a.0 a.1 (next a.1))

abbrev pub after_and : Readers → Bool → ExprTree → Trees → Next → Answer ExprTree
after_and r b e ts (oror us) = then (r.ors b ts) (λ s. Some (or_expr (expr_then e s.0), s.1))
after_and r b e ts _ = Some (e, ts)

abbrev pub or_from : Readers → Bool → Trees → Next → Answer ExprTree
or_from r b ts (a_word k_return us) = then (r.expr b us) (λ a. Some (return_expr a.0, a.1))
or_from r b ts _ = then (read_and r b ts) (λ a. after_and r b a.0 a.1 (next a.1))

abbrev pub read_or : Readers → Bool → Trees → Answer ExprTree
read_or r b ts = or_from r b ts (next ts)

-- ---- the tails of chains

abbrev pub more_ands : Readers → Bool → Trees → Next → Answer ExprTrees
more_ands r b ts (andand us) = then (read_cmp r b us) (λ a. then (r.ands b a.1) (λ s. Some (expr_then a.0 s.0, s.1)))
more_ands r b ts _ = Some (no_exprs, ts)

abbrev pub more_ors : Readers → Bool → Trees → Next → Answer ExprTrees
more_ors r b ts (oror us) = then (read_and r b us) (λ a. then (r.ors b a.1) (λ s. Some (expr_then a.0 s.0, s.1)))
more_ors r b ts _ = Some (no_exprs, ts)

-- ---- with fuel

abbrev pub step : Readers → Readers
step r = record {
  leaves = r.leaves;
  expr = read_or r;
  pre = λ b ts. read_pre r b ts (next ts);
  ors = λ b ts. more_ors r b ts (next ts);
  ands = λ b ts. more_ands r b ts (next ts);
  args = λ ts. more_args r (next ts);
  segments = λ ts. more_segments r ts (next ts);
  posts = λ ts. read_posts r ts (next ts);
  fmt_args = λ ts. more_fmt_args r (next ts);
  named_exprs = λ ts. read_named_exprs r (next ts);
  arms = read_arms r;
  block = λ ts. read_block r ts (next ts);
  pattern = λ ts. read_pattern r (next ts);
  bars = λ ts. more_bars r ts (next ts);
  patterns = read_patterns r;
  named_patterns = λ ts. read_named_patterns r (next ts);
}

abbrev pub refuses : Leaves → Readers
refuses l = record {
  leaves = l;
  expr = λ b ts. None;
  pre = λ b ts. None;
  ors = λ b ts. None;
  ands = λ b ts. None;
  args = λ ts. None;
  segments = λ ts. None;
  posts = λ ts. None;
  fmt_args = λ ts. None;
  named_exprs = λ ts. None;
  arms = λ ts. None;
  block = λ ts. None;
  pattern = λ ts. None;
  bars = λ ts. None;
  patterns = λ ts. None;
  named_patterns = λ ts. None;
}

unfoldable pub readers : Leaves → ℕ → Readers
readers l zero = refuses l
readers l (suc n) = step (readers l n)
