-- The patterns of an arm, as the plain reader reads them.
use Rattle.std.specs.Prelude.{ℕ, Some}
use Rattle.dm_stream.specs.Trees.{Trees}
use Rattle.dm_output.specs.Output.{PatternTrees, pattern_then}
use Rattle.dm_reread.specs.Leaves.{Answer}
use Rattle.dm_reread.specs.Reading.{then}
use Rattle.dm_read_places.specs.Turns.{rows}

-- patterns with `|` between
abbrev pub arm_patterns : ℕ → Trees → Answer PatternTrees
arm_patterns n ts = then ((rows n).pattern ts) (λ a. then ((rows n).bars a.1) (λ s. Some (pattern_then a.0 s.0, s.1)))
