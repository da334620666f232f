use Rattle.std.proofs.Common.{◌≡◌, true}
use Rattle.std.specs.Str.{chars}
use Rattle.dm_fmtstr.specs.Grammar.{begins_identifier}
use Rattle.dm_fmtstr.proofs.Arguments.{identifier-read}
use Rattle.dm_fmtstr.proofs.argument.read_identifier.Goals as goal

pub returns : goal.returns
returns c =
    let b : begins_identifier c.in_ok-c.c (chars c.in_ok-c.rest.now) ≡ true = cc in
    identifier-read _ _ _ _ _ _ _ c.utf8.text c.in_ok-c.ensures.bytes c.in_ok-c.ensures.chars b c.len_utf8.ensures.value c.word_size.ensures c.text_from.ensures
    c.text_to.ensures
