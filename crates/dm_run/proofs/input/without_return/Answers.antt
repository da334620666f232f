use Rattle.std.proofs.Common.{arith}
use Rattle.std.proofs.lemmas.Str.Pattern.{strip_suffix_char}
use Rattle.dm_run.proofs.Lines.{kept}
use Rattle.dm_run.proofs.input.without_return.Goals as goal

pub returns-in-None : goal.returns-in-None
returns-in-None c =
    kept c.args.line.now (rw c.in-None.is at (strip_suffix_char 13 c.args.line.now c.strip_suffix.result c.strip_suffix.ensures.cases (omega arith)))
