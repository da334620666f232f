-- Calls, groups, blocks of the words, and literals, read back.
use Rattle.std.specs.Prelude.{◌≡◌, ℕ, suc, ◌+◌, ◌≤◌, Bool, true, false, not, T, Some, refl}
use Rattle.std.proofs.Common.{ap, ◌∙◌, sym}
use native.Mathlib.Omega.{arith}
use Rattle.dm_stream.specs.declared.tokens.Delim.TheVariants.{Paren, Brace}
use Rattle.dm_stream.specs.declared.tokens.Literal.{Literal}
use Rattle.dm_stream.specs.declared.tokens.LitKind.TheVariants.{Str}
use Rattle.dm_stream.specs.Trees.{Trees, no_trees, join, join-no_trees, join_assoc}
use Rattle.dm_ast.specs.Tree.{MaybeSelf, PathTree}
use Rattle.dm_ast.specs.TypeTokens.{spaced}
use Rattle.dm_output.specs.Output.{ExprTree, path_expr, call, build, build_named, paren, tuple, opaque_call, str_expr, bool, match_expr, unsafe_expr, write_expr, format_args, ExprTrees, no_exprs, expr_then, NamedExprs, ArmTrees}
use Rattle.dm_output.specs.Tokens as k
use Rattle.dm_output.specs.Tokens.{expr_trees, each_expr, ended, each_named_expr, arms_trees, path_expr_trees}
use Rattle.dm_reread.specs.Next.{in_parens, next}
use Rattle.dm_reread.specs.Leaves.{LeafGrammar}
use Rattle.dm_reread.specs.Reading.{Readers, then, whole, tuple_of, read_base}
use Rattle.dm_reread.specs.Grammar.{at_or, at_post, Stops, IsPath, IsOpaque, is_one, is_any, IsExpr, Each, EachNamed, AreArms}
use Rattle.dm_reread.specs.Need.{need, needs, any_path_need, named_need, arms_need}
use Rattle.dm_reread.proofs.Passing.{path-stops, post-ends, no-parens, group-stops, some-opaque}
use Rattle.dm_reread.proofs.Posts.{is_base}
use Rattle.dm_reread.proofs.Laws.{Laws}
use Rattle.dm_reread.proofs.PathRows.{any-path-row, all-args, all-ended, format-args-row, write-row}

-- an expression that takes up a group
pub inside-row : (g : LeafGrammar) (r : Readers) (n : ℕ) (L : Laws g r n) (a : ExprTree) → IsExpr g true a → need a ≤ n →
    r.expr true (expr_trees a) ≡ Some (a, no_trees)
inside-row g r n L a h m = ap (r.expr true) (sym (join-no_trees (expr_trees a))) ∙ L.expr true a no_trees h m tt

tuple-of : (ts : Trees) (es : ExprTrees) → T (not (is_one es)) → tuple_of ts es false ≡ Some (tuple es, ts)
tuple-of ts no_exprs h = refl
tuple-of ts (expr_then e no_exprs) h = absurd h
tuple-of ts (expr_then e (expr_then e' es)) h = refl

bool-row : (r : Readers) (b v : Bool) (rest : Trees) →
    read_base r b (join (expr_trees (bool v)) rest) (next (join (expr_trees (bool v)) rest)) ≡ Some (bool v, rest)
bool-row r b true rest = refl
bool-row r b false rest = refl

unsafe-row : (g : LeafGrammar) (r : Readers) (n : ℕ) (L : Laws g r n) (b : Bool) (a : ExprTree) (rest : Trees) → IsExpr g true a →
    need a ≤ n →
    read_base r b (join (expr_trees (unsafe_expr a)) rest) (next (join (expr_trees (unsafe_expr a)) rest)) ≡ Some (unsafe_expr a, rest)
unsafe-row g r n L b a rest h m = rw (inside-row g r n L a h m) refl

-- a path with a group behind it
path-group : (r : Readers) (b : Bool) (q : MaybeSelf) (p : PathTree) (inside rest : Trees) →
    read_base r b (join (join (path_expr_trees q p) inside) rest) (next (join (join (path_expr_trees q p) inside) rest)) ≡
    read_base r b (join (path_expr_trees q p) (join inside rest)) (next (join (path_expr_trees q p) (join inside rest)))
path-group r b q p inside rest = ap (λ ts. read_base r b ts (next ts)) (join_assoc (path_expr_trees q p) inside rest)

call-row : (g : LeafGrammar) (r : Readers) (n : ℕ) (L : Laws g r n) (b : Bool) (q : MaybeSelf) (p : PathTree) (es : ExprTrees) (rest : Trees) → IsPath g q p →
    Each g at_or true es → any_path_need q p + needs es ≤ n →
    read_base r b (join (expr_trees (call q p es)) rest) (next (join (expr_trees (call q p es)) rest)) ≡ Some (call q p es, rest)
call-row g r n L b q p es rest h hs m =
    let inside : Trees = k.enclosed Paren (spaced k.comma true (each_expr es)) in
    path-group r b q p inside rest ∙ any-path-row g r n L b q p (join inside rest) h (omega arith) tt ∙
    rw (all-args g r n L es hs (omega arith)) refl

build-row : (g : LeafGrammar) (r : Readers) (n : ℕ) (L : Laws g r n) (b : Bool) (q : MaybeSelf) (p : PathTree) (es : ExprTrees) (rest : Trees) → IsPath g q p →
    T (is_any es) → Each g at_or true es → any_path_need q p + needs es ≤ n →
    read_base r b (join (expr_trees (build q p es)) rest) (next (join (expr_trees (build q p es)) rest)) ≡ Some (build q p es, rest)
build-row g r n L b q p es rest h any hs m =
    let inside : Trees = k.enclosed Paren (ended (each_expr es)) in
    path-group r b q p inside rest ∙ any-path-row g r n L b q p (join inside rest) h (omega arith) tt ∙
    rw (all-ended g r n L es any hs (omega arith)) refl

named-row : (g : LeafGrammar) (r : Readers) (n : ℕ) (L : Laws g r n) (q : MaybeSelf) (p : PathTree) (es : NamedExprs) (rest : Trees) →
    IsPath g q p →
    EachNamed g es → any_path_need q p + named_need es ≤ n →
    read_base r true (join (expr_trees (build_named q p es)) rest) (next (join (expr_trees (build_named q p es)) rest)) ≡
    Some (build_named q p es, rest)
named-row g r n L q p es rest h hs m =
    let inside : Trees = k.enclosed Brace (ended (each_named_expr es)) in
    path-group r true q p inside rest ∙ any-path-row g r n L true q p (join inside rest) h (omega arith) tt ∙
    rw (L.named_exprs es hs (omega arith)) refl

match-row : (g : LeafGrammar) (r : Readers) (n : ℕ) (L : Laws g r n) (b : Bool) (a : ExprTree) (arms : ArmTrees) (rest : Trees) →
    IsExpr g false a → AreArms g arms →
    need a + arms_need arms ≤ n →
    read_base r b (join (expr_trees (match_expr a arms)) rest) (next (join (expr_trees (match_expr a arms)) rest)) ≡
    Some (match_expr a arms, rest)
match-row g r n L b a arms rest h hs m =
    let behind : Trees = join (k.enclosed Brace (arms_trees arms)) rest in
    rw (
      join_assoc (expr_trees a) (k.enclosed Brace (arms_trees arms)) rest,
      L.expr false a behind h (omega arith) tt,
      L.arms arms hs (omega arith),
    ) refl

group-row : (g : LeafGrammar) (r : Readers) (n : ℕ) (L : Laws g r n) (b : Bool) (es : ExprTrees) (rest : Trees) → Each g at_or true es →
    needs es ≤ suc n →
    Stops at_post b (next rest) →
    read_base r b (join (k.enclosed Paren (spaced k.comma true (each_expr es))) rest) (next (join (k.enclosed Paren (spaced k.comma true (each_expr es))) rest)) ≡
    tuple_of rest es false
group-row g r n L b es rest h m s =
    group-stops r (spaced k.comma true (each_expr es)) rest (next rest) (no-parens b (next rest) s) ∙ rw (all-args g r n L es h m) refl

opaque-row : (g : LeafGrammar) (r : Readers) (n : ℕ) (L : Laws g r n) (b : Bool) (o : Trees) (a : ExprTree) (rest : Trees) → IsOpaque o →
    IsExpr g true a → need a ≤ n →
    read_base r b (join (expr_trees (opaque_call o a)) rest) (next (join (expr_trees (opaque_call o a)) rest)) ≡
    Some (opaque_call o a, rest)
opaque-row g r n L b o a rest h ha m =
    some-opaque o (then (whole (r.expr true (expr_trees a))) (λ e. Some (opaque_call o e, rest))) h ∙ rw (inside-row g r n L a ha m) refl

str-row : (r : Readers) (b : Bool) (l : Literal) (rest : Trees) → l.kind ≡ Str →
    read_base r b (join (expr_trees (str_expr l)) rest) (next (join (expr_trees (str_expr l)) rest)) ≡ Some (str_expr l, rest)
str-row r b l rest h = rw h refl

pub base-row : (g : LeafGrammar) (r : Readers) (n : ℕ) (L : Laws g r n) (b : Bool) (e : ExprTree) (rest : Trees) → IsExpr g b e →
    T (is_base e) → need e ≤ suc n →
    Stops at_post b (next rest) → read_base r b (join (expr_trees e) rest) (next (join (expr_trees e) rest)) ≡ Some (e, rest)
base-row g r n L b (path_expr q p) rest h f m s =
    any-path-row g r n L b q p rest h (omega arith) (post-ends b (next rest) s) ∙ path-stops r b q p rest (next rest) s
base-row g r n L b (call q p es) rest h f m s = call-row g r n L b q p es rest h.0 h.1 (omega arith)
base-row g r n L b (build q p es) rest h f m s = build-row g r n L b q p es rest h.0 h.1.0 h.1.1 (omega arith)
base-row g r n L true (build_named q p es) rest h f m s = named-row g r n L q p es rest h.1.0 h.1.1 (omega arith)
base-row g r n L false (build_named q p es) rest h f m s = absurd h.0
base-row g r n L b (tuple es) rest h f m s = group-row g r n L b es rest h.1 (omega arith) s ∙ tuple-of rest es h.0
base-row g r n L b (paren a) rest h f m s =
    ap (λ ts. read_base r b (join (k.enclosed Paren ts) rest) (in_parens ts rest)) (sym (join-no_trees (expr_trees a))) ∙
    group-row g r n L b (expr_then a no_exprs) rest ((h, tt), tt) (omega arith) s
base-row g r n L b (opaque_call o a) rest h f m s = opaque-row g r n L b o a rest h.0 h.1 (omega arith)
base-row g r n L b (str_expr l) rest h f m s = str-row r b l rest h
base-row g r n L b (bool v) rest h f m s = bool-row r b v rest
base-row g r n L b (unsafe_expr a) rest h f m s = unsafe-row g r n L b a rest h (omega arith)
base-row g r n L b (match_expr a arms) rest h f m s = match-row g r n L b a arms rest h.0 h.1 (omega arith)
base-row g r n L b (write_expr i w) rest h f m s = write-row g r n L b i w rest h.0 h.1 (omega arith)
base-row g r n L b (format_args w) rest h f m s = format-args-row g r n L b w rest h (omega arith)
base-row g r n L b _ rest h f m s = absurd f
