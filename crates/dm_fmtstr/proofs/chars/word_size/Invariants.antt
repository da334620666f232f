use Rattle.std.proofs.Common.{length}
use Rattle.unicode_ident.specs.Ident.{is_xid_continue}
use Rattle.dm_lexer.proofs.LexChars.{IsRunSoFar}
use Rattle.dm_fmtstr.proofs.chars.word_size.Given as goal

abbrev pub invariant-loop-c : goal.invariant-loop-c
invariant-loop-c l = IsRunSoFar is_xid_continue l.text l.at l.rest

abbrev pub decreases-loop-c : goal.decreases-loop-c
decreases-loop-c l = length l.rest
