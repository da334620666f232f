-- The rows of arms.
use Rattle.std.proofs.Common.{◌≡◌, ℕ, true, false, Some, None, refl}
use Rattle.std.proofs.lemmas.Grind.{common_steps}
use Rattle.dm_stream.specs.declared.tokens.Delim.TheVariants.{Brace}
use Rattle.dm_stream.specs.Trees.{Trees, no_trees}
use Rattle.dm_ast.specs.Spelling.{at_end}
use Rattle.dm_output.specs.Output.{no_expr, ArmTree, ArmBodyTree, expr_body, ExprTree}
use Rattle.dm_reread.specs.Next.{k_if, Next, in_braces, a_word}
use Rattle.dm_reread.specs.Reading.{then, Readers, read_guard, read_body}
use Rattle.dm_read_places.specs.declared.front.Keyword.TheVariants as keyword
use Rattle.dm_read_places.specs.declared.list.Turn.{Turn}
use Rattle.dm_read_places.specs.declared.list.Turn.TheVariants.{One, End}
use Rattle.dm_read_places.specs.Fronts.{is_keyword, is_group_next}
use Rattle.dm_read_blocks.specs.Turns.{one_arm, arm_turn}
use Rattle.dm_read_blocks.specs.Rows.{braced_arms}
use Rattle.dm_read_blocks.proofs.ArmLists.{arms_are}

pub arms_end : (n : ℕ) (ts : Trees) → at_end ts ≡ true → arm_turn n ts ≡ Some (End tt, ts)
arms_end n no_trees e = refl
arms_end n _ e = absurd (cc)

pub arms_more : (n : ℕ) (ts : Trees) → at_end ts ≡ false →
    arm_turn n ts ≡ then {A = ArmTree × Trees} {B = Turn ArmTree (Unit {0}) × Trees} (one_arm n ts) (λ a. Some (One a.0, a.1))
arms_more n no_trees e = absurd (cc)
arms_more n _ e = refl

pub no_guard : (r : Readers) (ts : Trees) (m : Next) → is_keyword keyword.If m ≡ false → read_guard r ts m ≡ Some (no_expr, ts)
no_guard r ts (a_word k_if us) e = absurd (cc)
no_guard r ts _ e = refl

pub no_block : (r : Readers) (ts : Trees) (m : Next) → is_group_next Brace m ≡ false →
    read_body r ts m ≡ then {A = ExprTree × Trees} {B = ArmBodyTree × Trees} (r.expr true ts) (λ a. Some (expr_body a.0, a.1))
no_block r ts (in_braces inside us) e = absurd (cc)
no_block r ts _ e = refl

pub no_arms : (n : ℕ) (m : Next) → is_group_next Brace m ≡ false → braced_arms n m ≡ None
no_arms n (in_braces inside us) e = absurd (cc)
no_arms n _ e = refl

pub ruleset arm_steps = (common_steps, arms_end, arms_more, no_guard, no_block, no_arms, arms_are)
