use native.Mathlib.Omega.{arith}
use Rattle.dm_output.proofs.View.{view_Pattern-Wild, view_Pattern-Bind, view_Pattern-Str, view_Pattern-Path, view_Pattern-Tuple, view_Pattern-Named, view_Pattern-Pair}
use Rattle.dm_output_copy.proofs.copy_pattern.+copy_pattern.Goals as goal

pub copy_pattern-returns-in-Wild : goal.copy_pattern-returns-in-Wild
copy_pattern-returns-in-Wild t c = grind (arith, view_Pattern-Wild)

pub copy_pattern-returns-in-Bind : goal.copy_pattern-returns-in-Bind
copy_pattern-returns-in-Bind t c = grind (arith, view_Pattern-Bind)

pub copy_pattern-returns-in-Str : goal.copy_pattern-returns-in-Str
copy_pattern-returns-in-Str t c = grind (arith, view_Pattern-Str)

pub copy_pattern-returns-in-Path : goal.copy_pattern-returns-in-Path
copy_pattern-returns-in-Path t c = grind (arith, view_Pattern-Path)

pub copy_pattern-returns-in-Tuple : goal.copy_pattern-returns-in-Tuple
copy_pattern-returns-in-Tuple t c = grind (arith, view_Pattern-Tuple)

pub copy_pattern-returns-in-Named : goal.copy_pattern-returns-in-Named
copy_pattern-returns-in-Named t c = grind (arith, view_Pattern-Named)

pub copy_pattern-returns-in-Pair : goal.copy_pattern-returns-in-Pair
copy_pattern-returns-in-Pair t c = grind (arith, view_Pattern-Pair)
