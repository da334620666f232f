-- The path behind `in`.
use Rattle.std.proofs.Common.{codes}
use Rattle.dm_ast.specs.declared.plain.PlainPath.{PlainPath}
use Rattle.dm_ast.specs.Readers.{read_word}
use Rattle.dm_ast.specs.PlainReaders.{read_plain}
use Rattle.dm_read.proofs.Following.{last_part}
use Rattle.dm_read.proofs.visibility.in_path.Goals as goal

pub returns-clause-reads : goal.returns-clause-reads
returns-clause-reads c =
    last_part (λ (p : PlainPath). p) (read_word (codes "in")) (λ w _. read_plain w) c.args.level c.args.c c.in_ok-behind.behind tt
    c.in_ok-behind.ensures.place c.in_ok-behind.ensures.reads c.plain_path.result c.plain_path.ensures.reads
