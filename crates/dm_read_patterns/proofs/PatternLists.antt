-- The plain reader's lists are turns: the lists of patterns.
use Rattle.std.proofs.Common.{◌≡◌, ℕ, zero, suc, Bool, true, false, List, Option, Some, option_map, refl}
use Rattle.dm_stream.specs.declared.tokens.Ident.{Ident}
use Rattle.dm_stream.specs.Trees.{Trees, no_trees}
use Rattle.dm_ast.specs.Keywords.{is_name}
use Rattle.dm_output.specs.Output.{PatternTree, PatternTrees, pattern_then, patterns_of, NamedPatterns, named_then, named_of}
use Rattle.dm_reread.specs.Next.{Next, ended, bar, colon, dots, a_name, next}
use Rattle.dm_reread.specs.Leaves.{Answer}
use Rattle.dm_reread.specs.Reading.{then, provided, comma_after, readers, more_bars, read_patterns, named_pattern_value, read_named_patterns, dots_end}
use Rattle.dm_read_places.specs.declared.list.Turn.{Turn}
use Rattle.dm_read_places.specs.declared.list.Turn.TheVariants.{One}
use Rattle.dm_read_places.specs.Repeating.{repeat}
use Rattle.dm_read_places.specs.Turns.{rows}
use Rattle.dm_read_places.proofs.Lists.{Behind, one_on, part_on}
use Rattle.dm_read_places.proofs.Thens.{then_on}
use Rattle.dm_read_patterns.specs.PatternTurns.{bar_turn_at, bar_turn, pattern_turn, named_pattern_part, dots_turn, named_pattern_turn_at, named_pattern_turn}

abbrev bars : (List PatternTree × Unit {0}) × Trees → PatternTrees × Trees
bars v = (patterns_of v.0.0, v.1)

module _ (n : ℕ) (more : (ts : Trees) → (rows n).bars ts ≡ option_map bars (repeat bar_turn n ts)) where
  bars_on : (ts : Trees) (m : Next) → more_bars (rows n) ts m ≡ Behind bars bar_turn n (bar_turn_at n ts m)
  bars_on ts (bar us) = part_on bar_turn n more (λ x s. (pattern_then x s.0, s.1)) (λ x s. refl) ((rows n).pattern us)
  bars_on ts _ = refl

pub bars_are : (n : ℕ) (ts : Trees) → (rows n).bars ts ≡ option_map (λ v. (patterns_of v.0.0, v.1)) (repeat bar_turn n ts)
unfolding readers
bars_are zero ts = refl
bars_are (suc n) ts = bars_on n (bars_are n) ts (next ts)

abbrev patterns : (List PatternTree × Unit {0}) × Trees → PatternTrees
patterns v = patterns_of v.0.0

module _ (n : ℕ) (more : (ts : Trees) → (rows n).patterns ts ≡ option_map patterns (repeat pattern_turn n ts)) where
  pattern_on : (o : Answer PatternTree) →
      then o (λ a. then (comma_after (next a.1)) (λ us. then ((rows n).patterns us) (λ s. Some (pattern_then a.0 s)))) ≡
      Behind patterns pattern_turn n (then o (λ a. then (comma_after (next a.1)) (λ us. Some (One a.0, us))))
  pattern_on o =
      then_on (Behind patterns pattern_turn n) refl o _ _ (λ a.
      then_on (Behind patterns pattern_turn n) refl (comma_after (next a.1)) _ _ (one_on pattern_turn n more pattern_then (λ x s. refl) a.0))

  patterns_on : (us : Trees) → read_patterns (rows n) us ≡ Behind patterns pattern_turn n (pattern_turn n us)
  patterns_on no_trees = refl
  patterns_on us = pattern_on ((rows n).pattern us)

pub patterns_are : (n : ℕ) (ts : Trees) → (rows n).patterns ts ≡ option_map (λ v. patterns_of v.0.0) (repeat pattern_turn n ts)
unfolding readers
patterns_are zero ts = refl
patterns_are (suc n) ts = patterns_on n (patterns_are n) ts

-- ---- patterns with names

abbrev named : (List (Ident × PatternTree) × Bool) × Trees → NamedPatterns × Bool
named v = (named_of v.0.0, v.0.1)

-- what is read behind a turn
abbrev Named : ℕ → Answer (Turn (Ident × PatternTree) Bool) → Option (NamedPatterns × Bool)
Named n o = Behind named named_pattern_turn n o

module _ (n : ℕ) (more : (ts : Trees) → (rows n).named_patterns ts ≡ option_map named (repeat named_pattern_turn n ts)) where
  named_on : (i : Ident) (o : Answer PatternTree) →
      then o (λ a. then (comma_after (next a.1)) (λ us. then ((rows n).named_patterns us) (λ s. Some (named_then i a.0 s.0, s.1)))) ≡
      Named n (then o (λ a. then (comma_after (next a.1)) (λ us. Some (One (i, a.0), us))))
  named_on i o =
      then_on (Named n) refl o _ _ (λ a.
      then_on (Named n) refl (comma_after (next a.1)) _ _
      (one_on named_pattern_turn n more (λ x s. (named_then x.0 x.1 s.0, s.1)) (λ x s. refl) (i, a.0)))

  named_value_on : (i : Ident) (m : Next) → named_pattern_value (rows n) i m ≡ Named n (named_pattern_part n i m)
  named_value_on i (colon us) = named_on i ((rows n).pattern us)
  named_value_on i _ = refl

  name_on : (b : Bool) (i : Ident) (us : Trees) →
      provided b (named_pattern_value (rows n) i (next us)) ≡
      Named n (then {A = Ident × Trees} (provided b (Some (i, us))) (λ s. named_pattern_part n s.0 (next s.1)))
  name_on true i us = named_value_on i (next us)
  name_on false i us = refl

  dots_on : (us : Trees) → dots_end us ≡ Named n (dots_turn us)
  dots_on no_trees = refl
  dots_on _ = refl

  named_patterns_on : (ts : Trees) (m : Next) → next ts ≡ m → read_named_patterns (rows n) m ≡ Named n (named_pattern_turn_at n ts m)
  named_patterns_on ts ended e = refl
  named_patterns_on ts (dots us) e = dots_on us
  named_patterns_on ts (a_name i us) e = name_on (is_name i) i us
  named_patterns_on ts _ e = refl

pub named_patterns_are : (n : ℕ) (ts : Trees) →
    (rows n).named_patterns ts ≡ option_map (λ v. (named_of v.0.0, v.0.1)) (repeat named_pattern_turn n ts)
unfolding readers
named_patterns_are zero ts = refl
named_patterns_are (suc n) ts = named_patterns_on n (named_patterns_are n) ts (next ts) refl
