-- What leaves read of the tokens of their own, they read just so.
use Rattle.std.proofs.Common.{◌≡◌, ℕ, ◌+◌, ◌-◌, true, List, ◌++◌, length, take, Option, Some, T, ap, ◌∙◌, arith}
use Rattle.std.proofs.lemmas.List.{length-append}
use Rattle.std.proofs.Math.Seq.{take-append_seam}
use Rattle.dm_stream.specs.declared.tokens.Entry.{Entry}
use Rattle.dm_stream.specs.Trees.{Trees, flatten, join}
use Rattle.dm_stream.proofs.Trees.{flatten-join}
use Rattle.dm_ast.specs.Tree.{TypeTree, MaybeSelf, some_self, PathTree}
use Rattle.dm_ast.specs.TypeTokens.{type_trees}
use Rattle.dm_same.specs.SameTypes.{same_entry}
use Rattle.dm_type_eq.proofs.UnplacedSame.{list_itself, entry_itself}
use Rattle.dm_output.specs.Tokens.{path_expr_trees}
use Rattle.dm_reread.specs.Next.{next}
use Rattle.dm_reread.specs.Leaves.{Answer, ends_type, ends_qualified, ends_run}
use Rattle.dm_reread.specs.Reading.{then, provided}
use Rattle.dm_reread.specs.Items.{HeadTree, between_trees}
use Rattle.dm_reread.specs.ItemGrammar.{ends_head}
use Rattle.dm_reread.specs.TypeLeaves.{read_type, IsType}
use Rattle.dm_reread.specs.PathLeaves.{read_qualified, IsQualified}
use Rattle.dm_reread.specs.RunLeaves.{is_closed, IsRun}
use Rattle.dm_reread.specs.HeadLeaves.{are_plain, plain_head, IsHead}
use Rattle.dm_reread.specs.ExactLeaves.{passed, has_entries, exactly, exact_type, exact_qualified, exact_head, closed_run}
use Rattle.dm_reread.proofs.TypeLeaf.{type_back}
use Rattle.dm_reread.proofs.PathLeaf.{qualified_back}
use Rattle.dm_reread.proofs.RunLeaf.{run_back}
use Rattle.dm_reread.proofs.HeadLeaf.{head_back}

-- ---- what is passed of trees in front of others

pub passed_join : (ts us : Trees) → passed (join ts us) us ≡ flatten ts
passed_join ts us =
    let es : List Entry = flatten ts in
    let fs : List Entry = flatten us in
    let n : length (es ++ fs) - length fs ≡ length es = omega (arith, length-append es fs) in
    ap (λ gs. take (length gs - length fs) gs) (flatten-join ts us) ∙ ap (λ k. take k (es ++ fs)) n ∙ take-append_seam es fs

pub exactly_back : {A : Type 0} (trees_of : A → Trees) (x : A) (rest : Trees) (o : Answer A) → o ≡ Some (x, rest) →
    exactly trees_of (join (trees_of x) rest) o ≡ Some (x, rest)
exactly_back trees_of x rest o h =
    ap (exactly trees_of (join (trees_of x) rest)) h ∙
    ap (λ b. provided b (Some (x, rest))) (ap (has_entries (trees_of x)) (passed_join (trees_of x) rest) ∙ list_itself same_entry entry_itself (flatten (trees_of x)))

-- ---- the leaves

pub exact_type_back : (t : TypeTree) (rest : Trees) → IsType t → T (ends_type (next rest)) →
    exact_type (join (type_trees t) rest) ≡ Some (t, rest)
exact_type_back t rest h e = exactly_back type_trees t rest (read_type (join (type_trees t) rest)) (type_back t rest h e)

pub exact_qualified_back : (x : TypeTree) (position : ℕ) (p : PathTree) (rest : Trees) → IsQualified (some_self x position) p →
    T (ends_qualified (next rest)) →
    exact_qualified (join (path_expr_trees (some_self x position) p) rest) ≡ Some ((some_self x position, p), rest)
exact_qualified_back x position p rest h e =
    exactly_back (λ (q : MaybeSelf × PathTree). path_expr_trees q.0 q.1) (some_self x position, p) rest
    (read_qualified (join (path_expr_trees (some_self x position) p) rest)) (qualified_back x position p rest h e)

abbrev where_plain : HeadTree × Trees → Answer HeadTree
where_plain a = provided (are_plain true a.0.params) (Some a)

plain_head_back : (h : HeadTree) (rest : Trees) → IsHead h → T (ends_head (next rest)) →
    plain_head (join (between_trees h) rest) ≡ Some (h, rest)
plain_head_back h rest i e = ap (λ o. then o where_plain) (head_back h rest i e) ∙ ap (λ b. provided b (Some (h, rest))) i.plain

pub exact_head_back : (h : HeadTree) (rest : Trees) → IsHead h → T (ends_head (next rest)) →
    exact_head (join (between_trees h) rest) ≡ Some (h, rest)
exact_head_back h rest i e = exactly_back between_trees h rest (plain_head (join (between_trees h) rest)) (plain_head_back h rest i e)

abbrev where_closed : Trees × Trees → Option (Trees × Trees)
where_closed a = provided (is_closed a.0) (Some a)

pub closed_run_back : (v rest : Trees) → IsRun v → T (ends_run (next rest)) → closed_run (join v rest) ≡ Some (v, rest)
closed_run_back v rest h e =
    ap (λ o. then o where_closed) (run_back v rest h e) ∙ ap (λ b. provided b (Some (v, rest))) h.closed
