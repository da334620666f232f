-- The plain reader's lists are turns: statements.
use Rattle.std.proofs.Common.{◌≡◌, ℕ, zero, suc, Bool, true, false, List, Option, Some, option_map, refl, ap, ◌∙◌}
use Rattle.dm_stream.specs.declared.tokens.Ident.{Ident}
use Rattle.dm_stream.specs.Trees.{Trees}
use Rattle.dm_ast.specs.Keywords.{is_name}
use Rattle.dm_output.specs.Output.{ExprTree, MaybeExpr, StmtTree, let_stmt, check_stmt, do_stmt, const_stmt, stmts_of, BlockTree, block}
use Rattle.dm_reread.specs.Next.{k_let, k_use, k_const, k_wild, Next, ended, semicolon, assigns, colon, a_name, a_word, next}
use Rattle.dm_reread.specs.Leaves.{Answer}
use Rattle.dm_reread.specs.Reading.{then, provided, semicolon_after, assigns_after, colon_after, as_after, wild_after, plus_after, int_after, base_from, readers, plain_path, stmt_first, stmt_ended, let_is, check_from, let_from, use_from, const_is, const_from, after_stmt, read_block}
use Rattle.dm_reread.specs.ReadBack.{leaves}
use Rattle.dm_read_places.specs.declared.list.Turn.{Turn}
use Rattle.dm_read_places.specs.declared.list.Turn.TheVariants.{One}
use Rattle.dm_read_places.specs.Repeating.{repeat}
use Rattle.dm_read_places.specs.Turns.{rows}
use Rattle.dm_read_statements.specs.Statements.{use_of, const_value, const_of}
use Rattle.dm_read_places.proofs.Lists.{Behind, one_on}
use Rattle.dm_read_places.proofs.Thens.{then_on}
use Rattle.dm_read_blocks.specs.Turns.{let_value, let_of, stmt_turn, value_end, block_turn_at, block_turn}
use Rattle.dm_read_formats.proofs.FormatLists.{leaves_are}

abbrev inside : (List StmtTree × MaybeExpr) × Trees → BlockTree
inside v = block (stmts_of v.0.0) v.0.1

abbrev InsideBehind : ℕ → Answer (Turn StmtTree MaybeExpr) → Option BlockTree
InsideBehind n o = Behind inside block_turn n o

module _ (n : ℕ) (more : (ts : Trees) → (rows n).block ts ≡ option_map inside (repeat block_turn n ts)) where
  semicolon_on : (s : StmtTree) (k : Next) →
      stmt_ended (rows n) s k ≡ InsideBehind n (then (semicolon_after k) (λ us. Some (One s, us)))
  semicolon_on s (semicolon us) = one_on block_turn n more stmt_first (λ x b. refl) s us
  semicolon_on s _ = refl

  stmt_on : (o : Answer StmtTree) → then o (λ s. stmt_ended (rows n) s.0 (next s.1)) ≡ InsideBehind n (stmt_turn o)
  stmt_on o = then_on (InsideBehind n) refl o _ _ (λ s. semicolon_on s.0 (next s.1))

  -- ---- statements, as what stands before the semicolon

  abbrev Before : Answer StmtTree → Option BlockTree
  Before o = then o (λ s. stmt_ended (rows n) s.0 (next s.1))

  let_assigns : (i : Ident) (k : Next) →
      let_is (rows n) i k ≡ Before (then (assigns_after k) (λ us. then ((rows n).expr true us) (λ a. Some (let_stmt i a.0, a.1))))
  let_assigns i (assigns us) = then_on Before refl ((rows n).expr true us) _ _ (λ a. refl)
  let_assigns i _ = refl

  let_name : (b : Bool) (i : Ident) (ts : Trees) →
      provided b (let_is (rows n) i (next ts)) ≡ Before (provided b (let_value n i ts))
  let_name true i ts = let_assigns i (next ts)
  let_name false i ts = refl

  check_colon : (k : Next) →
      check_from (rows n) k ≡ Before (then (colon_after k) (λ us. then (leaves.type us) (λ a. Some (check_stmt a.0, a.1))))
  check_colon (colon us) =
      ap (λ l. then (l.type us) (λ a. stmt_ended (rows n) (check_stmt a.0) (next a.1))) (leaves_are n) ∙
      then_on Before refl (leaves.type us) _ _ (λ a. refl)
  check_colon _ = refl

  let_as : (k : Next) → let_from (rows n) k ≡ Before (let_of n k)
  let_as (a_name i ts) = let_name (is_name i) i ts
  let_as (a_word k_wild ts) = check_colon (next ts)
  let_as _ = refl

  use_as : (k : Next) → use_from (rows n) k ≡ Before (use_of n k)
  use_as k =
      then_on Before refl (plain_path (rows n) k) _ _ (λ p.
      then_on Before refl (as_after (next p.1)) _ _ (λ us. then_on Before refl (wild_after (next us)) _ _ (λ vs. refl)))

  const_whole : (i : Ident) (ts : Trees) → const_is (rows n) i ts ≡ Before (const_value i ts)
  const_whole i ts =
      ap (λ x. then (x.type ts) (λ a. then (assigns_after (next a.1)) (λ us. then (base_from (next us)) (λ b.
      then (plus_after (next b.1)) (λ vs. then (int_after (next vs)) (λ l. stmt_ended (rows n) (const_stmt i a.0 b.0 l.0) (next l.1)))))))
      (leaves_are n) ∙
      then_on Before refl (leaves.type ts) _ _ (λ a.
      then_on Before refl (assigns_after (next a.1)) _ _ (λ us.
      then_on Before refl (base_from (next us)) _ _ (λ b.
      then_on Before refl (plus_after (next b.1)) _ _ (λ vs. then_on Before refl (int_after (next vs)) _ _ (λ l. refl)))))

  const_name : (b : Bool) (i : Ident) (ts : Trees) →
      provided b (then (colon_after (next ts)) (λ us. const_is (rows n) i us)) ≡
      Before (then {A = Ident × Trees} (provided b (Some (i, ts))) (λ s. then (colon_after (next s.1)) (λ us. const_value s.0 us)))
  const_name true i ts = then_on Before refl (colon_after (next ts)) _ _ (const_whole i)
  const_name false i ts = refl

  const_as : (k : Next) → const_from (rows n) k ≡ Before (const_of k)
  const_as (a_name i ts) = const_name (is_name i) i ts
  const_as _ = refl

  -- ---- turns

  value_end_on : (e : ExprTree) (us : Trees) (k : Next) → next us ≡ k → after_stmt (rows n) e k ≡ InsideBehind n (value_end e us k)
  value_end_on e us ended h = refl
  value_end_on e us (semicolon vs) h = semicolon_on (do_stmt e) (semicolon vs)
  value_end_on e us _ h = refl

  value_on : (o : Answer ExprTree) →
      then o (λ a. after_stmt (rows n) a.0 (next a.1)) ≡ InsideBehind n (then o (λ a. value_end a.0 a.1 (next a.1)))
  value_on o = then_on (InsideBehind n) refl o _ _ (λ a. value_end_on a.0 a.1 (next a.1) refl)

  block_on : (ts : Trees) (k : Next) → read_block (rows n) ts k ≡ InsideBehind n (block_turn_at n ts k)
  block_on ts ended = refl
  block_on ts (a_word k_let us) = let_as (next us) ∙ stmt_on (let_of n (next us))
  block_on ts (a_word k_use us) = use_as (next us) ∙ stmt_on (use_of n (next us))
  block_on ts (a_word k_const us) = const_as (next us) ∙ stmt_on (const_of (next us))
  block_on ts _ = value_on ((rows n).expr true ts)

pub block_is : (n : ℕ) (ts : Trees) → (rows n).block ts ≡ option_map (λ v. block (stmts_of v.0.0) v.0.1) (repeat block_turn n ts)
unfolding readers
block_is zero ts = refl
block_is (suc n) ts = block_on n (block_is n) ts (next ts)
