use Rattle.std.proofs.Common.{[]}
use Rattle.dm_generics.proofs.NumeralLaws.{ends_numeral}
use Rattle.dm_operator_prints.proofs.parts.digits.Goals as goal

pub returns : goal.returns
returns c = ends_numeral [] c.args.n c.format.result c.ranges.n.fits c.format.ensures.ok
