use Rattle.std.proofs.Common.{arith}
use Rattle.std.proofs.lemmas.Str.Pattern.{split_once_first}
use Rattle.dm_run.proofs.Lines.{no_line}
use Rattle.dm_run.proofs.input.split.Goals as goal

pub returns-in-None : goal.returns-in-None
returns-in-None c =
    let whole = split_once_first 10 c.in-Ok.text.now c.split_once.result c.split_once.ensures.cases (omega arith) in
    no_line c.in-Ok.text.now c.args.bytes.now c.in-Ok.ensures.cases.0 (rw c.in-None.is at whole)
