-- The literals are the names.
use Rattle.std.proofs.Common.{sym, ap}
use Rattle.dm_generics.specs.Numerals.{numeral}
use Rattle.dm_operands.specs.Numbered.{right_name}
use Rattle.dm_operands.proofs.sides.first_right.Goals as goal

pub returns-in-0 : goal.returns-in-0
unfolding numeral
returns-in-0 c = ap right_name (sym c.in-0.is)

pub returns-in-1 : goal.returns-in-1
unfolding numeral
returns-in-1 c = ap right_name (sym c.in-1.is)

pub returns-in-2 : goal.returns-in-2
unfolding numeral
returns-in-2 c = ap right_name (sym c.in-2.is)

pub returns-in-3 : goal.returns-in-3
unfolding numeral
returns-in-3 c = ap right_name (sym c.in-3.is)

pub returns-in-4 : goal.returns-in-4
unfolding numeral
returns-in-4 c = ap right_name (sym c.in-4.is)

pub returns-in-5 : goal.returns-in-5
unfolding numeral
returns-in-5 c = ap right_name (sym c.in-5.is)

pub returns-in-6 : goal.returns-in-6
unfolding numeral
returns-in-6 c = ap right_name (sym c.in-6.is)

pub returns-in-7 : goal.returns-in-7
unfolding numeral
returns-in-7 c = ap right_name (sym c.in-7.is)
