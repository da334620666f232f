-- The plain reader's lists are turns: arms.
use Rattle.std.proofs.Common.{◌≡◌, ℕ, zero, suc, List, Option, Some, option_map, refl}
use Rattle.dm_stream.specs.Trees.{Trees, no_trees}
use Rattle.dm_output.specs.Output.{PatternTree, PatternTrees, pattern_then, MaybeExpr, ArmTree, ArmTrees, arm_then, arms_of, ArmBodyTree}
use Rattle.dm_reread.specs.Next.{next}
use Rattle.dm_reread.specs.Leaves.{Answer}
use Rattle.dm_reread.specs.Reading.{then, comma_after, leads_after, readers, read_guard, read_body, arm_from, read_arms}
use Rattle.dm_read_places.specs.declared.list.Turn.TheVariants.{One}
use Rattle.dm_read_places.specs.Repeating.{repeat}
use Rattle.dm_read_places.specs.Turns.{rows}
use Rattle.dm_read_places.proofs.Lists.{Behind, one_on}
use Rattle.dm_read_places.proofs.Thens.{then_on}
use Rattle.dm_read_blocks.specs.Turns.{arm_body, arm_behind, arm_turn}

abbrev arms : (List ArmTree × Unit {0}) × Trees → ArmTrees
arms v = arms_of v.0.0

abbrev ArmsBehind : ℕ → Answer ArmTree → Option ArmTrees
ArmsBehind n o = Behind arms arm_turn n (then o (λ a. Some (One a.0, a.1)))

abbrev arm_made : PatternTrees → (MaybeExpr × ArmBodyTree) × Trees → Answer ArmTree
arm_made ps g = Some (record { patterns = ps; guard = g.0.0; body = g.0.1 }, g.1)

-- arms, by the guard and the body of the first, by its body, and by its patterns
abbrev BehindPatterns : ℕ → PatternTrees → Answer (MaybeExpr × ArmBodyTree) → Option ArmTrees
BehindPatterns n ps o = ArmsBehind n (then o (arm_made ps))

abbrev BehindGuard : ℕ → PatternTrees → MaybeExpr → Answer ArmBodyTree → Option ArmTrees
BehindGuard n ps g o = BehindPatterns n ps (then o (λ d. Some ((g, d.0), d.1)))

abbrev ArmBehind : ℕ → Answer PatternTrees → Option ArmTrees
ArmBehind n o = ArmsBehind n (then o (λ p. then (arm_behind n p.1) (arm_made p.0)))

module _ (n : ℕ) (more : (ts : Trees) → (rows n).arms ts ≡ option_map arms (repeat arm_turn n ts)) where
  arm_on : (ps : PatternTrees) (g : MaybeExpr) (d : ArmBodyTree) (ts : Trees) →
      then ((rows n).arms ts) (λ s. Some (arm_then ps g d s)) ≡ BehindGuard n ps g (Some (d, ts))
  arm_on ps g d ts =
      one_on arm_turn n more (λ a s. arm_then a.patterns a.guard a.body s) (λ a s. refl) (record { patterns = ps; guard = g; body = d }) ts

  body_on : (ps : PatternTrees) (g : MaybeExpr) (ts : Trees) →
      then (leads_after (next ts)) (λ us. then (read_body (rows n) us (next us)) (λ d.
      then (comma_after (next d.1)) (λ vs. then ((rows n).arms vs) (λ s. Some (arm_then ps g d.0 s))))) ≡
      BehindGuard n ps g (arm_body n ts)
  body_on ps g ts =
      then_on (BehindGuard n ps g) refl (leads_after (next ts)) _ _ (λ us.
      then_on (BehindGuard n ps g) refl (read_body (rows n) us (next us)) _ _ (λ d.
      then_on (BehindGuard n ps g) refl (comma_after (next d.1)) _ _ (arm_on ps g d.0)))

  pattern_on : (o : Answer PatternTree) →
      then o (λ a. then ((rows n).bars a.1) (λ s. arm_from (rows n) (pattern_then a.0 s.0) s.1)) ≡
      ArmBehind n (then o (λ a. then ((rows n).bars a.1) (λ s. Some (pattern_then a.0 s.0, s.1))))
  pattern_on o =
      then_on (ArmBehind n) refl o _ _ (λ a.
      then_on (ArmBehind n) refl ((rows n).bars a.1) _ _ (λ s.
      then_on (BehindPatterns n (pattern_then a.0 s.0)) refl (read_guard (rows n) s.1 (next s.1)) _ _ (λ g.
      body_on (pattern_then a.0 s.0) g.0 g.1)))

  arms_on : (ts : Trees) → read_arms (rows n) ts ≡ Behind arms arm_turn n (arm_turn n ts)
  arms_on no_trees = refl
  arms_on us = pattern_on ((rows n).pattern us)

pub arms_are : (n : ℕ) (ts : Trees) → (rows n).arms ts ≡ option_map (λ v. arms_of v.0.0) (repeat arm_turn n ts)
unfolding readers
arms_are zero ts = refl
arms_are (suc n) ts = arms_on n (arms_are n) ts
