-- Statements and blocks, read back.
use Rattle.std.specs.Prelude.{◌≡◌, ℕ, suc, ◌≤◌, true, T, codes, Option, Some, None, refl}
use Rattle.std.proofs.Common.{ap, ◌∙◌, sym}
use native.Mathlib.Omega.{arith}
use Rattle.dm_stream.specs.declared.tokens.Ident.{Ident}
use Rattle.dm_stream.specs.declared.tokens.Literal.{Literal}
use Rattle.dm_stream.specs.declared.tokens.LitKind.TheVariants.{Int}
use Rattle.dm_stream.specs.Trees.{Trees, no_trees, join, join-no_trees, join_assoc}
use Rattle.dm_stream.specs.Layout.{nowhere}
use Rattle.dm_ast.specs.Tree.{TypeTree}
use Rattle.dm_ast.specs.TypeTokens as syntax
use Rattle.dm_ast.specs.TypeTokens.{name, path_trees, type_trees}
use Rattle.dm_output.specs.Output.{ExprTree, no_expr, some_expr, StmtTree, let_stmt, check_stmt, import_stmt, do_stmt, const_stmt, no_stmts, stmt_then, BlockTree, block}
use Rattle.dm_output.specs.Tokens as k
use Rattle.dm_output.specs.Tokens.{expr_trees, stmt_trees, stmts_trees, maybe_trees, inside_trees, base_trees}
use Rattle.dm_reread.specs.Next.{next}
use Rattle.dm_reread.specs.Leaves.{LeafGrammar}
use Rattle.dm_reread.specs.Reading.{Readers, then, stmt_first, base_from, const_is, read_block, read_or}
use Rattle.dm_reread.specs.Grammar.{IsBase, no_start, IsExpr, IsStmt, IsBlock}
use Rattle.dm_reread.specs.Need.{need, stmt_need, block_need}
use Rattle.dm_reread.proofs.Words.{name-next}
use Rattle.dm_reread.proofs.Passing.{or-none, no-start-pre, block-some, some-opaque}
use Rattle.dm_reread.proofs.Laws.{Laws}
use Rattle.dm_reread.proofs.PathRows.{path-row}

pub starts : (g : LeafGrammar) (r : Readers) (n : ℕ) (L : Laws g r n) (ts : Trees) (x : ExprTree × Trees) → r.expr true ts ≡ Some x →
    T (no_start (next ts)) → ⊥
starts g r n L ts x h s = let e : r.expr true ts ≡ None = L.refuses ts s in cc

pub refuses-row : (r : Readers) (ts : Trees) → T (no_start (next ts)) → read_or r true ts ≡ None
refuses-row r ts s = or-none r ts (next ts) s (rw (no-start-pre r true ts (next ts) s) refl)

-- what a constant begins with
base-row : (base : Option Trees) (rest : Trees) → IsBase base → base_from (next (join (base_trees base) rest)) ≡ Some (base, rest)
base-row None rest h = refl
base-row (Some o) rest h = some-opaque o (Some (Some o, rest)) h

abbrev const_end : Option Trees → Literal → Trees → Trees
const_end base l rest = join (base_trees base) (join (k.punct 43) (join (syntax.literal l) (join k.semicolon rest)))

const-row : (g : LeafGrammar) (r : Readers) (n : ℕ) (L : Laws g r n) (i : Ident) (t : TypeTree) (base : Option Trees) (l : Literal) (rest : Trees) →
    g.IsType t → IsBase base → l.kind ≡ Int →
    const_is r i (join (type_trees t) (join k.assigns (const_end base l rest))) ≡
    then (r.block rest) (λ d. Some (stmt_first (const_stmt i t base l) d))
const-row g r n L i t base l rest ht hb hl =
    rw (
      L.leaf.type t (join k.assigns (const_end base l rest)) ht tt,
      base-row base (join (k.punct 43) (join (syntax.literal l) (join k.semicolon rest))) hb,
      hl,
    ) refl

do-row : (g : LeafGrammar) (r : Readers) (n : ℕ) (L : Laws g r n) (e : ExprTree) (rest : Trees) → IsExpr g true e → need e ≤ n →
    read_block r (join (expr_trees e) (join k.semicolon rest)) (next (join (expr_trees e) (join k.semicolon rest))) ≡
    then (r.block rest) (λ d. Some (stmt_first (do_stmt e) d))
do-row g r n L e rest h m =
    let more : Trees = join k.semicolon rest in
    let got : r.expr true (join (expr_trees e) more) ≡ Some (e, more) = L.expr true e more h m tt in
    block-some r (join (expr_trees e) more) (next (join (expr_trees e) more)) (e, more) (starts g r n L (join (expr_trees e) more) (e, more) got) got

-- a statement, and what is behind it
stmt-row : (g : LeafGrammar) (r : Readers) (n : ℕ) (L : Laws g r n) (x : StmtTree) (rest : Trees) → IsStmt g x → stmt_need x ≤ n →
    read_block r (join (stmt_trees x) rest) (next (join (stmt_trees x) rest)) ≡ then (r.block rest) (λ d. Some (stmt_first x d))
stmt-row g r n L (let_stmt i e) rest h m =
    let more : Trees = join k.semicolon rest in
    rw (
      join_assoc (expr_trees e) k.semicolon rest,
      name-next i (join k.assigns (join (expr_trees e) more)) h.0,
      h.0,
      L.expr true e more h.1 m tt,
    ) refl
stmt-row g r n L (check_stmt t) rest h m =
    rw (join_assoc (type_trees t) k.semicolon rest, L.leaf.type t (join k.semicolon rest) h tt) refl
stmt-row g r n L (import_stmt p) rest h m =
    let more : Trees = join (k.word (codes "as")) (join (k.word (codes "_")) k.semicolon) in
    rw (join_assoc (path_trees nowhere p) more rest, path-row g r n L p (join more rest) h (omega (arith, m)) tt) refl
stmt-row g r n L (do_stmt e) rest h m = rw (join_assoc (expr_trees e) k.semicolon rest) (do-row g r n L e rest h m)
stmt-row g r n L (const_stmt i t base l) rest h m =
    let last : Trees = join (k.punct 43) (join (syntax.literal l) k.semicolon) in
    rw (
      join_assoc (type_trees t) (join k.assigns (join (base_trees base) last)) rest,
      join_assoc (base_trees base) last rest,
      name-next i (join k.colon (join (type_trees t) (join k.assigns (const_end base l rest)))) h.0.0,
      h.0.0,
    ) (const-row g r n L i t base l rest h.0.1 h.1.0 h.1.1)

pub block-row : (g : LeafGrammar) (r : Readers) (n : ℕ) (L : Laws g r n) (d : BlockTree) → IsBlock g d → block_need d ≤ suc n →
    read_block r (inside_trees d) (next (inside_trees d)) ≡ Some d
block-row g r n L (block no_stmts no_expr) h m = refl
block-row g r n L (block no_stmts (some_expr e)) h m =
    let got : r.expr true (expr_trees e) ≡ Some (e, no_trees) =
    ap (r.expr true) (sym (join-no_trees (expr_trees e))) ∙ L.expr true e no_trees h.1 (omega arith) tt in
    block-some r (expr_trees e) (next (expr_trees e)) (e, no_trees) (starts g r n L (expr_trees e) (e, no_trees) got) got
block-row g r n L (block (stmt_then x ss) e) h m =
    ap (λ ts. read_block r ts (next ts)) (join_assoc (stmt_trees x) (stmts_trees ss) (maybe_trees e)) ∙
    stmt-row g r n L x (inside_trees (block ss e)) h.0.0 (omega arith) ∙ rw (L.block (block ss e) (h.0.1, h.1) (omega arith)) refl
