-- Patterns of more fuel are read by the rules over those of less.
use Rattle.std.proofs.Common.{◌≡◌, ℕ, zero, suc, None, refl}
use Rattle.std.proofs.lemmas.Grind.{common_steps}
use Rattle.dm_stream.specs.Trees.{Trees}
use Rattle.dm_reread.specs.Next.{next}
use Rattle.dm_reread.specs.Reading.{readers, read_pattern}
use Rattle.dm_read_places.specs.Turns.{rows}

pub pattern_row : (n : ℕ) (ts : Trees) → (rows (suc n)).pattern ts ≡ read_pattern (rows n) (next ts)
unfolding readers
pattern_row n ts = refl

pub no_fuel : (ts : Trees) → (rows zero).pattern ts ≡ None
unfolding readers
no_fuel ts = refl

pub ruleset nesting_steps = (common_steps, pattern_row, no_fuel)
