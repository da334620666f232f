-- What is written ends with the number's numeral.
use Rattle.std.proofs.Common.{◌++◌, codes}
use Rattle.dm_generics.proofs.NumeralLaws.{ends_numeral}
use Rattle.dm_generics.proofs.numbered.numbered.Goals as goal

pub returns : goal.returns
returns c = ends_numeral (codes "__" ++ c.args.prefix.now) c.args.n c.format.result c.ranges.n.fits c.format.ensures.ok
