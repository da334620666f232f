-- Arms, and fields with values, read back.
use Rattle.std.specs.Prelude.{◌≡◌, ℕ, suc, ◌≤◌, true, T, Some, refl}
use Rattle.std.proofs.Common.{ap, ◌∙◌}
use native.Mathlib.Omega.{arith}
use Rattle.dm_stream.specs.Trees.{Trees, join, join_assoc}
use Rattle.dm_output.specs.Output.{NamedExprs, no_named_exprs, named_expr_then, MaybeExpr, no_expr, some_expr, ArmTrees, no_arms, arm_then, ArmBodyTree, block_body, expr_body, PatternTree, PatternTrees, no_patterns, pattern_then}
use Rattle.dm_output.specs.Tokens as k
use Rattle.dm_output.specs.Tokens.{expr_trees, ended, each_named_expr, arms_trees, guard_trees, body_trees, pattern_trees}
use Rattle.dm_reread.specs.Next.{next}
use Rattle.dm_reread.specs.Leaves.{LeafGrammar}
use Rattle.dm_reread.specs.Reading.{Readers, read_guard, read_body, read_arms, read_named_exprs}
use Rattle.dm_reread.specs.Grammar.{EachNamed, IsMaybe, AreArms, IsBody}
use Rattle.dm_reread.specs.Need.{named_need, maybe_need, arms_need, body_need}
use Rattle.dm_reread.proofs.Words.{name-next}
use Rattle.dm_reread.proofs.Passing.{body-some, ends_bars, arms-some}
use Rattle.dm_reread.proofs.Laws.{Laws, bars_tail}
use Rattle.dm_reread.proofs.PatternRows.{bars-next}
use Rattle.dm_reread.proofs.BlockRows.{starts}

guard-row : (g : LeafGrammar) (r : Readers) (n : ℕ) (L : Laws g r n) (x : MaybeExpr) (rest : Trees) → IsMaybe g x → maybe_need x ≤ n →
    read_guard r (join (guard_trees x) (join (k.joint 61 62) rest)) (next (join (guard_trees x) (join (k.joint 61 62) rest))) ≡
    Some (x, join (k.joint 61 62) rest)
guard-row g r n L no_expr rest h m = refl
guard-row g r n L (some_expr e) rest h m = rw (L.expr true e (join (k.joint 61 62) rest) h m tt) refl

guard-ends : (x : MaybeExpr) (rest : Trees) → T (ends_bars (next (join (guard_trees x) (join (k.joint 61 62) rest))))
guard-ends no_expr rest = tt
guard-ends (some_expr e) rest = tt

body-row : (g : LeafGrammar) (r : Readers) (n : ℕ) (L : Laws g r n) (d : ArmBodyTree) (rest : Trees) → IsBody g d → body_need d ≤ n →
    read_body r (join (body_trees d) (join k.comma rest)) (next (join (body_trees d) (join k.comma rest))) ≡ Some (d, join k.comma rest)
body-row g r n L (block_body d) rest h m = rw (L.block d h m) refl
body-row g r n L (expr_body e) rest h m =
    let more : Trees = join k.comma rest in
    let got : r.expr true (join (expr_trees e) more) ≡ Some (e, more) = L.expr true e more h m tt in
    body-some r (join (expr_trees e) more) (next (join (expr_trees e) more)) (e, more) (starts g r n L (join (expr_trees e) more) (e, more) got) got

-- an arm and the arms behind it, without inner lists
pub arm-shape : (p : PatternTree) (ps : PatternTrees) (x : MaybeExpr) (d : ArmBodyTree) (more : ArmTrees) →
    arms_trees (arm_then (pattern_then p ps) x d more) ≡
    join (pattern_trees p) (join (bars_tail ps) (join (guard_trees x) (join (k.joint 61 62) (join (body_trees d) (join k.comma (arms_trees more))))))
arm-shape p ps x d more = simp join_assoc refl

pub arms-row : (g : LeafGrammar) (r : Readers) (n : ℕ) (L : Laws g r n) (as' : ArmTrees) → AreArms g as' → arms_need as' ≤ suc n →
    read_arms r (arms_trees as') ≡ Some as'
arms-row g r n L no_arms h m = refl
arms-row g r n L (arm_then no_patterns x d more) h m = absurd h.0.0.0
arms-row g r n L (arm_then (pattern_then p ps) x d more) h m =
    let last : Trees = join k.comma (arms_trees more) in
    let guarded : Trees = join (guard_trees x) (join (k.joint 61 62) (join (body_trees d) last)) in
    let barred : Trees = join (bars_tail ps) guarded in
    let first : r.pattern (join (pattern_trees p) barred) ≡ Some (p, barred) =
    L.pattern p barred h.0.0.1.0 (omega arith) (bars-next ps guarded (guard-ends x (join (body_trees d) last))) in
    ap (read_arms r) (arm-shape p ps x d more) ∙ arms-some r (join (pattern_trees p) barred) (p, barred) L.no_pattern first ∙
    rw (
      first,
      L.bars ps guarded h.0.0.1.1 (omega arith) (guard-ends x (join (body_trees d) last)),
      guard-row g r n L x (join (body_trees d) last) h.0.1.0 (omega arith),
      body-row g r n L d (arms_trees more) h.0.1.1 (omega arith),
      L.arms more h.1 (omega arith),
    ) refl

-- ---- fields with values

pub named-exprs-row : (g : LeafGrammar) (r : Readers) (n : ℕ) (L : Laws g r n) (es : NamedExprs) → EachNamed g es →
    named_need es ≤ suc n →
    read_named_exprs r (next (ended (each_named_expr es))) ≡ Some es
named-exprs-row g r n L no_named_exprs h m = refl
named-exprs-row g r n L (named_expr_then i e es) h m =
    let more : Trees = join k.comma (ended (each_named_expr es)) in
    rw (
      name-next i (join k.colon (join (expr_trees e) more)) h.0,
      h.0,
      L.expr true e more h.1.0 (omega arith) tt,
      L.named_exprs es h.1.1 (omega arith),
    ) refl
