use Rattle.dm_lexer.proofs.LexedBack.{lines-lex_back}
use Rattle.dm_lexer.proofs.Rewritten.{trees-are_one, shallow-is_read, shallow-is_read_within}
use Rattle.dm_lexer.proofs.laws.lines_lex_back.Goals as goal

pub returns : goal.returns
returns c = record { back = lines-lex_back; one = trees-are_one; shallow = shallow-is_read; within = shallow-is_read_within }
