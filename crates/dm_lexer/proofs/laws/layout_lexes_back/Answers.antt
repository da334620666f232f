use Rattle.dm_lexer.proofs.LexedBack.{layout-lexes_back}
use Rattle.dm_lexer.proofs.ReadWritable.{read-is_writable}
use Rattle.dm_lexer.proofs.Rewritten.{only-writable}
use Rattle.dm_lexer.proofs.laws.layout_lexes_back.Goals as goal

pub returns : goal.returns
returns c = record { read = read-is_writable; back = layout-lexes_back; only = only-writable }
