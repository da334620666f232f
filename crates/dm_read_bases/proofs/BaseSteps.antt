-- The rows of paths, calls, groups and others.
use Rattle.std.proofs.Common.{◌≡◌, ℕ, Bool, true, false, Option, Some, None, Result, Ok, Err, refl, ap, ◌∙◌, subst}
use Rattle.dm_stream.specs.declared.tokens.Delim.TheVariants.{Paren, Brace}
use Rattle.dm_stream.specs.declared.error.Error.{Error}
use Rattle.dm_stream.specs.declared.error.Error.TheVariants as error
use Rattle.dm_stream.specs.Trees.{Trees}
use Rattle.dm_expr.specs.Cuts.{split_at}
use Rattle.dm_ast.specs.Tree.{TypeTree, type_tree, path, MaybeSelf, no_self, some_self, PathTree}
use Rattle.dm_output.specs.Output.{ExprTree, path_expr, opaque_call, ExprTrees, no_exprs, expr_then}
use Rattle.dm_output.specs.Tokens.{path_expr_trees}
use Rattle.dm_output.specs.Views.{expr_view}
use Rattle.dm_output.specs.declared.expr.Expr.{Expr}
use Rattle.dm_reread.specs.Next.{Next, bangs, less, in_parens, in_braces, literal, next}
use Rattle.dm_reread.specs.Leaves.{Answer}
use Rattle.dm_reread.specs.Reading.{then, provided, whole, is_some_trees, Readers, read_args, called, after_path, macro_from, path_base, qualified_base, tuple_of, group_from, unsafe_of}
use Rattle.dm_reread.specs.TypeLeaves.{read_type}
use Rattle.dm_reread.specs.PathLeaves.{path_at, qualified_in, read_qualified}
use Rattle.dm_reread.specs.ExactLeaves.{passed, has_entries, exact_qualified}
use Rattle.dm_read_places.specs.declared.front.Sign.TheVariants as sign
use Rattle.dm_read_places.specs.Fronts.{is_sign, is_literal_next, is_group_next}
use Rattle.dm_read_places.specs.Reads.{Reads}
use Rattle.dm_read_places.specs.Turns.{rows}
use Rattle.dm_read_places.proofs.Thens.{then_on}
use Rattle.dm_read_formats.proofs.FormatLists.{leaves_are}
use Rattle.dm_read_bases.specs.Rows.{braced_path, behind_path, tuple_only, parts, opaque_called, leaf, with_path}
use Rattle.dm_read_statements.proofs.GroupSteps.{group_steps}

-- ---- behind a path

pub no_braces : (n : ℕ) (q : MaybeSelf) (p : PathTree) (ts : Trees) (m : Next) → is_group_next Brace m ≡ false →
    braced_path n q p ts m ≡ Some (path_expr q p, ts)
no_braces n q p ts (in_braces inside us) e = absurd (cc)
no_braces n q p ts _ e = refl

pub a_call : (n : ℕ) (b : Bool) (q : MaybeSelf) (p : PathTree) (ts inside us : Trees) (m : Next) → m ≡ in_parens inside us →
    behind_path n b q p ts m ≡ then (read_args (rows n) false inside) (λ a. Some (called q p a.0 a.1, us))
a_call n true q p ts inside us m e = ap (behind_path n true q p ts) e
a_call n false q p ts inside us m e = ap (behind_path n false q p ts) e

pub maybe_braces : (n : ℕ) (b : Bool) (q : MaybeSelf) (p : PathTree) (ts : Trees) (m : Next) → is_group_next Paren m ≡ false → b ≡ true →
    behind_path n b q p ts m ≡ braced_path n q p ts m
maybe_braces n true q p ts (in_parens inside us) e f = absurd (cc)
maybe_braces n true q p ts _ e f = refl
maybe_braces n false q p ts m e f = absurd (cc)

pub never_braces : (n : ℕ) (b : Bool) (q : MaybeSelf) (p : PathTree) (ts : Trees) (m : Next) → is_group_next Paren m ≡ false → b ≡ false →
    behind_path n b q p ts m ≡ Some (path_expr q p, ts)
never_braces n false q p ts (in_parens inside us) e f = absurd (cc)
never_braces n false q p ts _ e f = refl
never_braces n true q p ts m e f = absurd (cc)

-- ---- plain paths

pub no_macro_group : (r : Readers) (p : PathTree) (m : Next) → is_group_next Paren m ≡ false → macro_from r p m ≡ None
no_macro_group r p (in_parens inside us) e = absurd (cc)
no_macro_group r p _ e = refl

pub a_macro : (n : ℕ) (b : Bool) (p : PathTree) (ts us : Trees) (m : Next) → m ≡ bangs us →
    after_path (rows n) b no_self p ts m ≡ macro_from (rows n) p (next us)
a_macro n true p ts us m e = ap (after_path (rows n) true no_self p ts) e
a_macro n false p ts us m e = ap (after_path (rows n) false no_self p ts) e

pub no_macro : (n : ℕ) (b : Bool) (p : PathTree) (ts : Trees) (m : Next) → is_sign sign.Bangs m ≡ false →
    after_path (rows n) b no_self p ts m ≡ behind_path n b no_self p ts m
no_macro n true p ts (bangs us) e = absurd (cc)
no_macro n true p ts _ e = refl
no_macro n false p ts (bangs us) e = absurd (cc)
no_macro n false p ts _ e = refl

-- ---- qualified paths

pub data IsSelf : MaybeSelf → Type 0 where
  is_self : (t : TypeTree) (k : ℕ) → IsSelf (some_self t k)

self_in : (x : TypeTree) (q : MaybeSelf × PathTree) → qualified_in x ≡ Some q → IsSelf q.0
self_in (type_tree (path (some_self u n) p) range) q e =
    let f : (some_self u n, p) ≡ q = cc in subst (λ (r : MaybeSelf × PathTree). IsSelf r.0) f (is_self u n)
self_in _ q e = absurd (cc)

abbrev Path : Type 0
Path = (MaybeSelf × PathTree) × Trees

in_self : (us : Trees) (x : TypeTree) (o : Option (MaybeSelf × PathTree)) → qualified_in x ≡ o → (a : Path) →
    then {B = Path} o (λ q. Some (q, us)) ≡ Some a → IsSelf a.0.0
in_self us x None h a e = absurd (cc)
in_self us x (Some q) h a e = let f : (q, us) ≡ a = cc in subst (λ (z : Path). IsSelf z.0.0) f (self_in x q h)

whole_self : (us : Trees) (o : Option TypeTree) (a : Path) → then {B = Path} o (λ x. then (qualified_in x) (λ q. Some (q, us))) ≡ Some a → IsSelf a.0.0
whole_self us None a e = absurd (cc)
whole_self us (Some x) a e = in_self us x (qualified_in x) refl a e

cut_self : (o : Option (Trees × Trees)) (a : Path) →
    then {B = Path} o (λ c. then (whole (read_type c.0)) (λ x. then (qualified_in x) (λ q. Some (q, c.1)))) ≡ Some a → IsSelf a.0.0
cut_self None a e = absurd (cc)
cut_self (Some c) a e = whole_self c.1 (whole (read_type c.0)) a e

checked_self : (ts : Trees) (o : Option Path) → ((a : Path) → o ≡ Some a → IsSelf a.0.0) → (a : Path) →
    then {B = Path} o (λ z. provided (has_entries (path_expr_trees z.0.0 z.0.1) (passed ts z.1)) (Some z)) ≡ Some a → IsSelf a.0.0
checked_self ts None h a e = absurd (cc)
checked_self ts (Some z) h a e = by (has_entries (path_expr_trees z.0.0 z.0.1) (passed ts z.1)) e
  where
    by : (b : Bool) → provided b (Some z) ≡ Some a → IsSelf a.0.0
    by true f = let g : z ≡ a = cc in subst (λ (z : Path). IsSelf z.0.0) g (h z refl)
    by false f = absurd (cc)

read_self : (ts : Trees) (a : Path) → exact_qualified ts ≡ Some a → IsSelf a.0.0
read_self ts a e = checked_self ts (read_qualified ts) (λ z f. cut_self (split_at (path_at ts) ts) z f) a e

self_behind : (n : ℕ) (b : Bool) (q : MaybeSelf) (p : PathTree) (ts : Trees) (m : Next) → IsSelf q →
    after_path (rows n) b q p ts m ≡ behind_path n b q p ts m
self_behind n true _ p ts (in_parens inside us) (is_self t k) = refl
self_behind n true _ p ts (in_braces inside us) (is_self t k) = refl
self_behind n true _ p ts _ (is_self t k) = refl
self_behind n false _ p ts (in_parens inside us) (is_self t k) = refl
self_behind n false _ p ts (in_braces inside us) (is_self t k) = refl
self_behind n false _ p ts _ (is_self t k) = refl

qualified_by : (n : ℕ) (b : Bool) (o : Answer (MaybeSelf × PathTree)) → ((a : Path) → o ≡ Some a → IsSelf a.0.0) →
    then o (λ p. after_path (rows n) b p.0.0 p.0.1 p.1 (next p.1)) ≡ then o (λ p. behind_path n b p.0.0 p.0.1 p.1 (next p.1))
qualified_by n b None h = refl
qualified_by n b (Some a) h = self_behind n b a.0.0 a.0.1 a.1 (next a.1) (h a refl)

pub qualified_base_is : (n : ℕ) (b : Bool) (ts : Trees) →
    qualified_base (rows n) b ts ≡ then (exact_qualified ts) (λ p. behind_path n b p.0.0 p.0.1 p.1 (next p.1))
qualified_base_is n b ts =
    ap (λ l. then (l.qualified ts) (λ p. after_path (rows n) b p.0.0 p.0.1 p.1 (next p.1))) (leaves_are n) ∙
    qualified_by n b (exact_qualified ts) (read_self ts)

-- what is read behind a qualified path
pub qualified_reads : (n : ℕ) (b : Bool) (old mid new : Trees) (q : MaybeSelf × PathTree) (r : Result Expr Error) →
    exact_qualified old ≡ Some (q, mid) →
    Reads expr_view (λ ts. behind_path n b q.0 q.1 ts (next ts)) mid r new → Reads expr_view (qualified_base (rows n) b) old r new
qualified_reads n b old mid new q (Ok x) e h =
    qualified_base_is n b old ∙ ap (λ o. then o (λ p. behind_path n b p.0.0 p.0.1 p.1 (next p.1))) e ∙ h
qualified_reads n b old mid new q (Err (error.Refused r)) e h =
    qualified_base_is n b old ∙ ap (λ o. then o (λ p. behind_path n b p.0.0 p.0.1 p.1 (next p.1))) e ∙ h
qualified_reads n b old mid new q (Err error.NoMemory) e h = tt

path_here : (n : ℕ) (b : Bool) (p : PathTree) (old new : Trees) (r : Result Expr Error) → is_sign sign.Bangs (next old) ≡ false →
    Reads expr_view (λ ts. behind_path n b no_self p ts (next ts)) old r new → Reads expr_view (with_path n b p) old r new
path_here n b p old new (Ok x) e h = no_macro n b p old (next old) e ∙ h
path_here n b p old new (Err (error.Refused r)) e h = no_macro n b p old (next old) e ∙ h
path_here n b p old new (Err error.NoMemory) e h = tt

-- what begins with a path that no `!` stands behind
pub path_reads : (n : ℕ) (b : Bool) (p : PathTree) (old mid new : Trees) (q : MaybeSelf × PathTree) (r : Result Expr Error) →
    is_sign sign.Bangs (next old) ≡ false → mid ≡ old → q ≡ (no_self, p) →
    Reads expr_view (λ ts. behind_path n b q.0 q.1 ts (next ts)) mid r new → Reads expr_view (with_path n b p) old r new
path_reads n b p old mid new q r e m f h =
    let named = subst (λ z. Reads expr_view (λ ts. behind_path n b z.0 z.1 ts (next ts)) mid r new) f h in
    path_here n b p old new r e (subst (λ z. Reads expr_view (λ ts. behind_path n b no_self p ts (next ts)) z r new) m named)

-- ---- groups

opaque_of : (b : Bool) (inside us : Trees) (o : Option ExprTree) →
    provided b (then {B = ExprTree × Trees} o (λ a. Some (opaque_call inside a, us))) ≡
    then {A = ExprTree} {B = ExprTree × Trees} (provided b (then o (λ a. Some (opaque_call inside a)))) (λ e. Some (e, us))
opaque_of true inside us None = refl
opaque_of true inside us (Some a) = refl
opaque_of false inside us o = refl

pub opaque_is : (n : ℕ) (inside ts second us : Trees) (m : Next) → m ≡ in_parens second us →
    group_from (rows n) inside ts m ≡ then {A = ExprTree} {B = ExprTree × Trees} (opaque_called n inside second) (λ e. Some (e, us))
opaque_is n inside ts second us m e =
    ap (group_from (rows n) inside ts) e ∙ opaque_of (is_some_trees inside) inside us (whole ((rows n).expr true second))

tuple_left : (ts : Trees) (es : ExprTrees) (b : Bool) →
    tuple_of ts es b ≡ then {A = ExprTree} {B = ExprTree × Trees} (tuple_only b es) (λ e. Some (e, ts))
tuple_left ts no_exprs true = refl
tuple_left ts no_exprs false = refl
tuple_left ts (expr_then a no_exprs) true = refl
tuple_left ts (expr_then a no_exprs) false = refl
tuple_left ts (expr_then a (expr_then c es)) true = refl
tuple_left ts (expr_then a (expr_then c es)) false = refl

parts_left : (ts : Trees) (o : Option (ExprTrees × Bool)) →
    then o (λ a. tuple_of ts a.0 a.1) ≡
    then {A = ExprTree} {B = ExprTree × Trees} (then o (λ a. tuple_only a.1 a.0)) (λ e. Some (e, ts))
parts_left ts o = then_on (λ p. then {A = ExprTree} {B = ExprTree × Trees} p (λ e. Some (e, ts))) refl o _ _ (λ a. tuple_left ts a.0 a.1)

pub parts_are : (n : ℕ) (inside ts : Trees) (m : Next) → is_group_next Paren m ≡ false →
    group_from (rows n) inside ts m ≡ then {A = ExprTree} {B = ExprTree × Trees} (parts n inside) (λ e. Some (e, ts))
parts_are n inside ts (in_parens second us) e = absurd (cc)
parts_are n inside ts _ e = parts_left ts (read_args (rows n) false inside)

-- ---- `unsafe`

pub no_unsafe : (r : Readers) (m : Next) → is_group_next Brace m ≡ false → unsafe_of r m ≡ None
no_unsafe r (in_braces inside us) e = absurd (cc)
no_unsafe r _ e = refl

-- ---- strings, and what begins with a path

pub less_leaf : (n : ℕ) (b : Bool) (ts : Trees) (m : Next) → is_literal_next m ≡ false → is_sign sign.Less m ≡ true →
    leaf n b ts m ≡ qualified_base (rows n) b ts
less_leaf n b ts (less us) e f = refl
less_leaf n b ts _ e f = absurd (cc)

pub path_leaf : (n : ℕ) (b : Bool) (ts : Trees) (m : Next) → is_literal_next m ≡ false → is_sign sign.Less m ≡ false →
    leaf n b ts m ≡ path_base (rows n) b m
path_leaf n b ts (literal l us) e f = absurd (cc)
path_leaf n b ts (less us) e f = absurd (cc)
path_leaf n b ts _ e f = refl

pub ruleset base_steps = (group_steps, no_braces, a_call, maybe_braces, never_braces, no_macro_group, a_macro, no_macro, qualified_base_is, opaque_is, parts_are, no_unsafe, less_leaf, path_leaf)
