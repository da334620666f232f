-- One turn of each list of patterns, as the plain reader reads its parts.
use Rattle.std.specs.Prelude.{ℕ, Bool, true, false, Some, None}
use Rattle.dm_stream.specs.declared.tokens.Ident.{Ident}
use Rattle.dm_stream.specs.Trees.{Trees, no_trees}
use Rattle.dm_output.specs.Output.{PatternTree}
use Rattle.dm_reread.specs.Next.{Next, ended, bar, dots, next}
use Rattle.dm_reread.specs.Leaves.{Answer}
use Rattle.dm_reread.specs.Reading.{then, comma_after, colon_after}
use Rattle.dm_read_places.specs.declared.list.Turn.{Turn}
use Rattle.dm_read_places.specs.declared.list.Turn.TheVariants.{One, End}
use Rattle.dm_read_places.specs.Turns.{rows, declared_at}

abbrev pub bar_turn_at : ℕ → Trees → Next → Answer (Turn PatternTree (Unit {0}))
bar_turn_at n ts (bar us) = then ((rows n).pattern us) (λ a. Some (One a.0, a.1))
bar_turn_at n ts _ = Some (End tt, ts)

-- `|` and a pattern
abbrev pub bar_turn : ℕ → Trees → Answer (Turn PatternTree (Unit {0}))
bar_turn n ts = bar_turn_at n ts (next ts)

-- a pattern and a comma
abbrev pub one_pattern : ℕ → Trees → Answer (Turn PatternTree (Unit {0}))
one_pattern n ts = then ((rows n).pattern ts) (λ a. then (comma_after (next a.1)) (λ us. Some (One a.0, us)))

abbrev pub pattern_turn : ℕ → Trees → Answer (Turn PatternTree (Unit {0}))
pattern_turn n no_trees = Some (End tt, no_trees)
pattern_turn n ts = one_pattern n ts

-- a field's pattern behind its name
abbrev pub named_pattern_part : ℕ → Ident → Next → Answer (Turn (Ident × PatternTree) Bool)
named_pattern_part n i m =
    then (colon_after m) (λ ts. then ((rows n).pattern ts) (λ a. then (comma_after (next a.1)) (λ us. Some (One (i, a.0), us))))

abbrev pub dots_turn : Trees → Answer (Turn (Ident × PatternTree) Bool)
dots_turn no_trees = Some (End true, no_trees)
dots_turn _ = None

abbrev pub one_named_pattern : ℕ → Next → Answer (Turn (Ident × PatternTree) Bool)
one_named_pattern n m = then (declared_at m) (λ s. named_pattern_part n s.0 (next s.1))

abbrev pub named_pattern_turn_at : ℕ → Trees → Next → Answer (Turn (Ident × PatternTree) Bool)
named_pattern_turn_at n ts ended = Some (End false, ts)
named_pattern_turn_at n ts (dots us) = dots_turn us
named_pattern_turn_at n ts m = one_named_pattern n m

-- a field with its pattern and a comma, and `..` perhaps behind the last
abbrev pub named_pattern_turn : ℕ → Trees → Answer (Turn (Ident × PatternTree) Bool)
named_pattern_turn n ts = named_pattern_turn_at n ts (next ts)
