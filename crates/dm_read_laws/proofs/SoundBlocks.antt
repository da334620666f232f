-- Statements and blocks: what is read of them is in the grammar, and has the tokens that were read.
use Rattle.std.specs.Prelude.{◌≡◌, true, codes, Option, Some, None, refl}
use Rattle.std.specs.Str.{bytes_eq}
use Rattle.std.proofs.Common.{ap, ◌∙◌, sym, subst}
use Rattle.std.proofs.lemmas.Bool.{and_parts}
use Rattle.std.proofs.lemmas.Slice.Eq.{bytes_eq-Decides}
use Rattle.dm_stream.specs.declared.tokens.Ident.{Ident}
use Rattle.dm_stream.specs.declared.tokens.Literal.{Literal}
use Rattle.dm_stream.specs.declared.tokens.LitKind.TheVariants.{Int}
use Rattle.dm_stream.specs.Layout.{nowhere}
use Rattle.dm_stream.specs.Trees.{Trees, no_trees, join, join-no_trees, join_assoc}
use Rattle.dm_ast.specs.Keywords.{is_name}
use Rattle.dm_ast.specs.Tree.{TypeTree, PathTree}
use Rattle.dm_ast.specs.TypeTokens as syntax
use Rattle.dm_ast.specs.TypeTokens.{name, path_trees, type_trees}
use Rattle.dm_output.specs.Output.{ExprTree, no_expr, some_expr, StmtTree, let_stmt, check_stmt, import_stmt, do_stmt, const_stmt, no_stmts, BlockTree, block}
use Rattle.dm_output.specs.Tokens as k
use Rattle.dm_output.specs.Tokens.{expr_trees, stmt_trees, stmts_trees, maybe_trees, inside_trees, base_trees}
use Rattle.dm_reread.specs.Next.{k_let, k_use, k_const, k_wild, Next, ended, colon, semicolon, assigns, in_parens, literal, a_name, a_word, next}
use Rattle.dm_reread.specs.Leaves.{LeafGrammar}
use Rattle.dm_reread.specs.Reading.{Readers, is_int, is_zero, is_some_trees, stmt_first, stmt_ended, let_is, check_from, let_from, use_from, base_from, const_is, const_from, after_stmt, read_block}
use Rattle.dm_reread.specs.Grammar.{IsName, IsBase, IsExpr, IsStmt, IsBlock}
use Rattle.dm_read_laws.specs.Sound.{IsBare}
use Rattle.dm_read_laws.proofs.SoundRows.{Sound}
use Rattle.dm_read_laws.proofs.SoundSteps.{Front, Begins, next_begins}
use Rattle.dm_read_laws.proofs.SoundFronts.{Gives, gives_some, gives_none, gives_then, gives_provided, behind, ends_with, kept, assigns_seen, colon_seen, plus_seen, as_seen, wild_seen, int_seen, reads_expr, reads_block}
use Rattle.dm_read_laws.proofs.SoundPosts.{int_kind}
use Rattle.dm_read_laws.proofs.SoundBase.{holds, plain_row}

-- the trees are the inside of this block
abbrev pub Inside : LeafGrammar → Trees → BlockTree → Type 0
Inside g ts d = IsBlock g d × (ts ≡ inside_trees d)

first_stmt : (g : LeafGrammar) (s : StmtTree) (d : BlockTree) (ts us : Trees) → IsStmt g s → Front (stmt_trees s) ts us → Inside g us d →
    Inside g ts (stmt_first s d)
first_stmt g s (block ss e) ts us c f p = (
  ((c, p.0.0), p.0.1),
  ends_with (stmt_trees s) (inside_trees (block ss e)) f p.1 ∙ sym (join_assoc (stmt_trees s) (stmts_trees ss) (maybe_trees e)),
)

-- ---- what a constant begins with

zero_same : (l : Literal) → is_zero l ≡ true → l.span ≡ nowhere → l ≡ record { kind = Int; text = codes "0"; span = nowhere }
zero_same l e s =
    let p : (is_int l.kind ≡ true) × (bytes_eq l.text (codes "0") ≡ true) = and_parts (is_int l.kind) (bytes_eq l.text (codes "0")) e in
    ap (λ x. record { kind = x; text = l.text; span = l.span }) (int_kind l.kind p.0) ∙
    (ap (λ x. record { kind = Int; text = x; span = l.span }) ((bytes_eq-Decides l.text (codes "0")).0 p.1) ∙
    ap (λ x. record { kind = Int; text = codes "0"; span = x }) s)

begin_row : (ts : Trees) (x : Next) → Begins ts x → Gives (base_from x) (λ a. IsBase a.0 × Front (base_trees a.0) ts a.1)
begin_row ts (in_parens inside us) x =
    gives_provided (is_some_trees inside) (λ c. gives_some (Some inside, us) (holds (is_some_trees inside) c, x.0))
begin_row ts (literal l us) x =
    gives_provided (is_zero l) (λ c. gives_some (None, us) (tt, subst (λ j. Front (syntax.literal j) ts us) (zero_same l c x.1) x.0))
begin_row ts _ x = gives_none

-- ---- shapes

import_shape : (p : PathTree) →
    join (join (k.word (codes "use")) (join (path_trees nowhere p) (join (k.word (codes "as")) (k.word (codes "_"))))) k.semicolon ≡
    stmt_trees (import_stmt p)
import_shape p =
    ap (join (k.word (codes "use"))) (join_assoc (path_trees nowhere p) (join (k.word (codes "as")) (k.word (codes "_"))) k.semicolon)

-- a constant without its semicolon
abbrev const_trees : Ident → TypeTree → Option Trees → Literal → Trees
const_trees i t base l =
    join (k.word (codes "const")) (join (name i) (join k.colon (join (type_trees t)
    (join k.assigns (join (base_trees base) (join (k.punct 43) (syntax.literal l)))))))

const_shape : (i : Ident) (t : TypeTree) (base : Option Trees) (l : Literal) →
    join (const_trees i t base l) k.semicolon ≡ stmt_trees (const_stmt i t base l)
const_shape i t base l =
    ap (λ x. join (k.word (codes "const")) (join (name i) (join k.colon x)))
    (join_assoc (type_trees t) (join k.assigns (join (base_trees base) (join (k.punct 43) (syntax.literal l)))) k.semicolon ∙
    ap (λ x. join (type_trees t) (join k.assigns x)) (join_assoc (base_trees base) (join (k.punct 43) (syntax.literal l)) k.semicolon))

module _ (g : LeafGrammar) (r : Readers) (S : Sound g r) where
  reads_type : (ts : Trees) → IsBare ts → Gives (r.leaves.type ts) (λ a. g.IsType a.0 × Front (type_trees a.0) ts a.1)
  reads_type ts h = record { at = λ a e. kept (type_trees a.0) ts a.1 h (S.leaf.type ts a.1 a.0 h e) }

  -- a statement in front of its semicolon, and what is behind
  ended_row : (s : StmtTree) (front ts us : Trees) (x : Next) → IsStmt g s → join front k.semicolon ≡ stmt_trees s → Front front ts us →
      Begins us x →
      Gives (stmt_ended r s x) (Inside g ts)
  ended_row s front ts us (semicolon vs) c shape f x =
      gives_then (reads_block g r S vs x.1) (λ d p.
      gives_some (stmt_first s d) (first_stmt g s d ts vs c (subst (λ o. Front o ts vs) shape (behind front k.semicolon f x)) p))
  ended_row s front ts us _ c shape f x = gives_none

  -- ---- `let`

  let_is_row : (i : Ident) (ts us : Trees) (x : Next) → IsName i → Front (join (k.word (codes "let")) (name i)) ts us → Begins us x →
      Gives (let_is r i x) (Inside g ts)
  let_is_row i ts us (assigns vs) c f x =
      gives_then (reads_expr g r S true vs x.1) (λ a p.
      ended_row (let_stmt i a.0) (join (k.word (codes "let")) (join (name i) (join k.assigns (expr_trees a.0)))) ts a.1 (next a.1) (c, p.0) refl
      (behind (join (k.word (codes "let")) (name i)) (join k.assigns (expr_trees a.0)) f (behind k.assigns (expr_trees a.0) x p.1))
      (next_begins a.1 p.1.1))
  let_is_row i ts us _ c f x = gives_none

  check_row : (ts us : Trees) (x : Next) → Front (join (k.word (codes "let")) (k.word (codes "_"))) ts us → Begins us x →
      Gives (check_from r x) (Inside g ts)
  check_row ts us (colon vs) f x =
      gives_then (reads_type vs x.1) (λ a p.
      ended_row (check_stmt a.0) (join (k.word (codes "let")) (join (k.word (codes "_")) (join k.colon (type_trees a.0)))) ts a.1 (next a.1) p.0 refl
      (behind (join (k.word (codes "let")) (k.word (codes "_"))) (join k.colon (type_trees a.0)) f (behind k.colon (type_trees a.0) x p.1))
      (next_begins a.1 p.1.1))
  check_row ts us _ f x = gives_none

  let_row : (ts us : Trees) (x : Next) → Front (k.word (codes "let")) ts us → Begins us x → Gives (let_from r x) (Inside g ts)
  let_row ts us (a_name i vs) f x =
      gives_provided (is_name i) (λ c.
      let_is_row i ts vs (next vs) c (behind (k.word (codes "let")) (name i) f x.0) (next_begins vs x.0.1))
  let_row ts us (a_word k_wild vs) f x =
      check_row ts vs (next vs) (behind (k.word (codes "let")) (k.word (codes "_")) f x) (next_begins vs x.1)
  let_row ts us _ f x = gives_none

  -- ---- `use`

  use_row : (ts us : Trees) (x : Next) → Front (k.word (codes "use")) ts us → Begins us x → Gives (use_from r x) (Inside g ts)
  use_row ts us x f b =
      gives_then (plain_row g r S us x f.1 b) (λ a p.
      gives_then (as_seen a.1 (next a.1) (next_begins a.1 p.1.1)) (λ vs q.
      gives_then (wild_seen vs (next vs) (next_begins vs q.1)) (λ ws t.
      ended_row (import_stmt a.0) (join (k.word (codes "use")) (join (path_trees nowhere a.0) (join (k.word (codes "as")) (k.word (codes "_"))))) ts ws
      (next ws) p.0 (import_shape a.0)
      (behind (k.word (codes "use")) (join (path_trees nowhere a.0) (join (k.word (codes "as")) (k.word (codes "_")))) f
      (behind (path_trees nowhere a.0) (join (k.word (codes "as")) (k.word (codes "_"))) p.1
      (behind (k.word (codes "as")) (k.word (codes "_")) q t)))
      (next_begins ws t.1))))

  -- ---- `const`

  const_is_row : (i : Ident) (ts us : Trees) → IsName i → Front (join (k.word (codes "const")) (join (name i) k.colon)) ts us →
      Gives (const_is r i us) (Inside g ts)
  const_is_row i ts us c f =
      gives_then (reads_type us f.1) (λ a p.
      gives_then (assigns_seen a.1 (next a.1) (next_begins a.1 p.1.1)) (λ vs q.
      gives_then (begin_row vs (next vs) (next_begins vs q.1)) (λ o w.
      gives_then (plus_seen o.1 (next o.1) (next_begins o.1 w.1.1)) (λ ws y.
      gives_then (int_seen ws (next ws) (next_begins ws y.1)) (λ l z.
      ended_row (const_stmt i a.0 o.0 l.0) (const_trees i a.0 o.0 l.0) ts l.1 (next l.1) ((c, p.0), (w.0, int_kind l.0.kind z.1))
      (const_shape i a.0 o.0 l.0)
      (behind (join (k.word (codes "const")) (join (name i) k.colon))
      (join (type_trees a.0) (join k.assigns (join (base_trees o.0) (join (k.punct 43) (syntax.literal l.0))))) f
      (behind (type_trees a.0) (join k.assigns (join (base_trees o.0) (join (k.punct 43) (syntax.literal l.0)))) p.1
      (behind k.assigns (join (base_trees o.0) (join (k.punct 43) (syntax.literal l.0))) q
      (behind (base_trees o.0) (join (k.punct 43) (syntax.literal l.0)) w.1 (behind (k.punct 43) (syntax.literal l.0) y z.0)))))
      (next_begins l.1 z.0.1))))))

  const_row : (ts us : Trees) (x : Next) → Front (k.word (codes "const")) ts us → Begins us x → Gives (const_from r x) (Inside g ts)
  const_row ts us (a_name i vs) f x =
      gives_provided (is_name i) (λ c.
      gives_then (colon_seen vs (next vs) (next_begins vs x.0.1)) (λ ws q.
      const_is_row i ts ws c (behind (k.word (codes "const")) (join (name i) k.colon) f (behind (name i) k.colon x.0 q))))
  const_row ts us _ f x = gives_none

  -- ---- expressions, and blocks

  after_row : (e : ExprTree) (ts us : Trees) (x : Next) → IsExpr g true e → Front (expr_trees e) ts us → Begins us x →
      Gives (after_stmt r e x) (Inside g ts)
  after_row e ts us ended c f x =
      gives_some (block no_stmts (some_expr e)) ((tt, c), ends_with (expr_trees e) no_trees f x ∙ join-no_trees (expr_trees e))
  after_row e ts us n c f x = ended_row (do_stmt e) (expr_trees e) ts us n c refl f x

  block_row : (ts : Trees) (x : Next) → IsBare ts → Begins ts x → Gives (read_block r ts x) (Inside g ts)
  block_row ts ended h x = gives_some (block no_stmts no_expr) ((tt, tt), x)
  block_row ts (a_word k_let us) h x = let_row ts us (next us) x (next_begins us x.1)
  block_row ts (a_word k_use us) h x = use_row ts us (next us) x (next_begins us x.1)
  block_row ts (a_word k_const us) h x = const_row ts us (next us) x (next_begins us x.1)
  block_row ts _ h x =
      gives_then (reads_expr g r S true ts h) (λ a p. after_row a.0 ts a.1 (next a.1) p.0 p.1 (next_begins a.1 p.1.1))

  pub sound_block : (ts : Trees) (d : BlockTree) → IsBare ts → read_block r ts (next ts) ≡ Some d → IsBlock g d × (ts ≡ inside_trees d)
  sound_block ts d h e = (block_row ts (next ts) h (next_begins ts h)).at d e
