-- The plain reader's lists are turns: chains.
use Rattle.std.proofs.Common.{◌≡◌, ℕ, zero, suc, Bool, List, option_map, refl}
use Rattle.dm_stream.specs.Trees.{Trees}
use Rattle.dm_output.specs.Output.{ExprTree, ExprTrees, expr_then, exprs_of}
use Rattle.dm_reread.specs.Next.{Next, oror, andand, next}
use Rattle.dm_reread.specs.Reading.{readers, read_cmp, more_ands, read_and, more_ors}
use Rattle.dm_read_places.specs.Repeating.{repeat}
use Rattle.dm_read_places.specs.Turns.{rows}
use Rattle.dm_read_places.proofs.Lists.{Behind, part_on}
use Rattle.dm_read_exprs.specs.Turns.{and_turn_at, and_turn, or_turn_at, or_turn}

abbrev chain : (List ExprTree × Unit {0}) × Trees → ExprTrees × Trees
chain v = (exprs_of v.0.0, v.1)

ands_on : (b : Bool) (n : ℕ) → ((ts : Trees) → (rows n).ands b ts ≡ option_map chain (repeat (and_turn b) n ts)) → (ts : Trees) (m : Next) →
    more_ands (rows n) b ts m ≡ Behind chain (and_turn b) n (and_turn_at b n ts m)
ands_on b n more ts (andand us) = part_on (and_turn b) n more (λ x s. (expr_then x s.0, s.1)) (λ x s. refl) (read_cmp (rows n) b us)
ands_on b n more ts _ = refl

pub ands_are : (b : Bool) (n : ℕ) (ts : Trees) → (rows n).ands b ts ≡ option_map (λ v. (exprs_of v.0.0, v.1)) (repeat (and_turn b) n ts)
unfolding readers
ands_are b zero ts = refl
ands_are b (suc n) ts = ands_on b n (ands_are b n) ts (next ts)

ors_on : (b : Bool) (n : ℕ) → ((ts : Trees) → (rows n).ors b ts ≡ option_map chain (repeat (or_turn b) n ts)) → (ts : Trees) (m : Next) →
    more_ors (rows n) b ts m ≡ Behind chain (or_turn b) n (or_turn_at b n ts m)
ors_on b n more ts (oror us) = part_on (or_turn b) n more (λ x s. (expr_then x s.0, s.1)) (λ x s. refl) (read_and (rows n) b us)
ors_on b n more ts _ = refl

pub ors_are : (b : Bool) (n : ℕ) (ts : Trees) → (rows n).ors b ts ≡ option_map (λ v. (exprs_of v.0.0, v.1)) (repeat (or_turn b) n ts)
unfolding readers
ors_are b zero ts = refl
ors_are b (suc n) ts = ors_on b n (ors_are b n) ts (next ts)
