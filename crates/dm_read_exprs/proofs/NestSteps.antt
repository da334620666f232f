-- Expressions of more fuel are read by the rules over those of less.
use Rattle.std.proofs.Common.{◌≡◌, ℕ, zero, suc, Bool, None, refl}
use Rattle.std.proofs.lemmas.Grind.{common_steps}
use Rattle.dm_stream.specs.Trees.{Trees}
use Rattle.dm_reread.specs.Next.{next}
use Rattle.dm_reread.specs.Reading.{readers, read_or, read_pre}
use Rattle.dm_read_places.specs.Turns.{rows}
use Rattle.dm_read_arguments.specs.declared.sort.Sort.{Sort}
use Rattle.dm_read_arguments.specs.declared.sort.Sort.TheVariants as sort
use Rattle.dm_read_arguments.specs.Sorts.{sorted}

pub whole_row : (n : ℕ) (b : Bool) (ts : Trees) → (rows (suc n)).expr b ts ≡ read_or (rows n) b ts
unfolding readers
whole_row n b ts = refl

pub operand_row : (n : ℕ) (b : Bool) (ts : Trees) → (rows (suc n)).pre b ts ≡ read_pre (rows n) b ts (next ts)
unfolding readers
operand_row n b ts = refl

pub no_fuel : (s : Sort) (ts : Trees) → sorted s (rows zero) ts ≡ None
unfolding readers
no_fuel (sort.Whole b) ts = refl
no_fuel (sort.Operand b) ts = refl

pub ruleset nest_steps = (common_steps, whole_row, operand_row, no_fuel)
